-- A depth-first search over positions, split into a search at each position.
-- Main statements: pair_eq, same_pairs, states_at, runs_are_listed, runs_own, states_at-ordered_next.
-- Used by: CutLists, LastAccepting, RunFuel, RunLists, Automata.
-- Idea: runs list each state that they reach at their position, and behind it the runs over its bytes.
use Rattle.ordered_reach.proofs.Common.{true, [], ap, arith, Bool, by_test, cond, Decides, ends, eqb-true, false, flat_map, flat_map-append, flat_map-map, fresh, fun_ext, List, map, map-append, member, none_held, ordered, placed, refl, run_edges, suc, sym, with_node, zero, ℕ, ◌&&◌, ◌++◌, ◌+◌, ◌<◌, ◌==◌, ◌||◌, ◌∙◌, ◌∷◌, ◌≡◌, ◌≤◌, nat_eq, nat_lt, ◌-◌}
use Rattle.std.proofs.lemmas.Bool.Decides.{Decides-and, Decides-eqb, Decides-like, nat_tests}
use Rattle.ordered_reach.proofs.graph.ClosedSets.{IsClosed, IsEnough, IsEnough-from_none, ends-enough, ends_agree, ends_within}
use Rattle.ordered_reach.proofs.lists.Pieces.{flat_map-flat_map, flat_map-same, flat_map_none}
use Rattle.ordered_reach.proofs.lists.NewNodes.{flat_map-agree, flat_map-member, fresh-flat_map, member-append}
use Rattle.ordered_reach.proofs.graph.FiniteGraphs.{same_decides}

-- whether two pairs are equal
abbrev pub pair_eq : {N : Type 0} → (N → N → Bool) → ℕ × N → ℕ × N → Bool
pair_eq eq p q = (p.0 == q.0) && eq p.1 q.1

pub Decides-pair_eq : {N : Type 0} {eq : N → N → Bool} → ((a b : N) → Decides (eq a b) (a ≡ b)) → (p q : ℕ × N)
    → Decides (pair_eq eq p q) (p ≡ q)
Decides-pair_eq {N} {eq} dec p q =
    Decides-like (pair_eq eq p q) (λ h. λ i. (h.0 i, h.1 i)) (λ e. (ap (λ x. x.0) e, ap (λ x. x.1) e))
    (Decides-and (p.0 == q.0) (eq p.1 q.1) (Decides-eqb p.0 q.0) (dec p.1 q.1))

pub same_pairs : (p q : ℕ × ℕ) → Decides (pair_eq nat_eq p q) (p ≡ q)
same_pairs = Decides-pair_eq same_decides

-- the state of a pair, if it is at the position
abbrev pub state_at : {N : Type 0} → ℕ → ℕ × N → List N
state_at k p = cond (p.0 == k) (p.1 ∷ []) []

-- the states of a list that are at a position
abbrev pub states_at : {N : Type 0} → ℕ → List (ℕ × N) → List N
states_at k ps = flat_map (state_at k) ps

-- the nodes that runs from a pair end in, and fuel for these runs
abbrev pub run_ends : {N : Type 0} → (N → N → Bool) → (ℕ → N → List N) → (ℕ → N → List N) → ℕ → (ℕ × N → Bool) → ℕ × N
    → List (ℕ × N)
run_ends eq eps bytes n held p = ends (pair_eq eq) (run_edges eps bytes) n held p

abbrev pub IsEnoughForRuns : {N : Type 0} → (N → N → Bool) → (ℕ → N → List N) → (ℕ → N → List N) → ℕ
    → (ℕ × N → Bool) → ℕ × N → Type 0
IsEnoughForRuns eq eps bytes n held p = IsEnough (pair_eq eq) (run_edges eps bytes) n held p

-- the ends of all runs from some states at a position
abbrev pub runs : {N : Type 0} → (N → N → Bool) → (ℕ → N → List N) → (ℕ → N → List N) → ℕ → ℕ → List N → List (ℕ × N)
runs eq eps bytes n i rs = flat_map (run_ends eq eps bytes n none_held) (map (placed i) rs)

-- a state at a position, and the ends of the runs over its bytes
abbrev pub runs_over : {N : Type 0} → (N → N → Bool) → (ℕ → N → List N) → (ℕ → N → List N) → ℕ → ℕ → N → List (ℕ × N)
runs_over eq eps bytes n i s = (i, s) ∷ runs eq eps bytes n (suc i) (bytes i s)

pub runs-append : {N : Type 0} (eq : N → N → Bool) (eps bytes : ℕ → N → List N) (n i : ℕ) (xs ys : List N)
    → runs eq eps bytes n i (xs ++ ys) ≡ runs eq eps bytes n i xs ++ runs eq eps bytes n i ys
runs-append eq eps bytes n i xs ys =
    rw (map-append (placed i) xs ys) (flat_map-append (run_ends eq eps bytes n none_held) (map (placed i) xs) _)

module _ {N : Type 0} {eq : N → N → Bool} (dec : (a b : N) → Decides (eq a b) (a ≡ b)) where
  pub states_at-fresh : (k : ℕ) (seen : ℕ × N → Bool) (xs : List (ℕ × N))
      → states_at k (fresh (pair_eq eq) seen xs) ≡ fresh eq (λ s. seen (k, s)) (states_at k xs)
  states_at-fresh k seen [] = refl
  states_at-fresh k seen (p ∷ xs) =
      let new = states_at-fresh k (with_node (pair_eq eq) seen p) xs in by_test (p.0 == k)
      (λ q. let z : seen (k, p.1) ≡ seen p = ap (λ j. seen (j, p.1)) (sym (eqb-true p.0 k q)) in
      grind (arith, states_at-fresh k seen xs, (rw q at new)))
      (λ q. grind (arith, states_at-fresh k seen xs, (rw q at new)))

  member-placed : (j : ℕ) (xs : List N) (q : ℕ × N)
      → member (pair_eq eq) (map (placed j) xs) q ≡ ((j == q.0) && member eq xs q.1)
  member-placed j [] q = grind arith
  member-placed j (x ∷ xs) q = grind (arith, member-placed j xs q)

  pub with_node-at : (held : ℕ × N → Bool) (i : ℕ) (s : N)
      → (λ (u : N). with_node (pair_eq eq) held (i, s) (i, u)) ≡ with_node eq (λ u. held (i, u)) s
  with_node-at held i s = fun_ext (λ u. grind (arith, nat_tests))

  module _ (eps bytes : ℕ → N → List N) where
    -- an edge of a run is over a byte or stays at the position
    pub member-run_edges : (p q : ℕ × N) → member (pair_eq eq) (run_edges eps bytes p) q
        ≡ (((suc p.0 == q.0) && member eq (bytes p.0 p.1) q.1) || ((p.0 == q.0) && member eq (eps p.0 p.1) q.1))
    member-run_edges p q = rw (member-append (Decides-pair_eq dec), member-placed (suc p.0), member-placed p.0)

    later_closed : (i : ℕ) → IsClosed (pair_eq eq) (run_edges eps bytes) (λ p. nat_lt i p.0) none_held
    later_closed i p q l m = grind (arith, nat_tests, member-run_edges p q)

    module _ (m : ℕ) (enough : (p : ℕ × N) → IsEnoughForRuns eq eps bytes m none_held p) where
      -- the runs from a state list each state at its position, and behind it the runs over its bytes
      run_ends-split : (n : ℕ) (held : ℕ × N → Bool) (i : ℕ) (s : N) → IsEnoughForRuns eq eps bytes n held (i, s)
          → ((p : ℕ × N) → nat_lt i p.0 ≡ true → held p ≡ false)
          → run_ends eq eps bytes n held (i, s)
          ≡ flat_map (runs_over eq eps bytes m i) (ends eq (eps i) n (λ t. held (i, t)) s)
      run_ends-split zero held i s a h = refl
      run_ends-split (suc n) held i s a h = by_test (held (i, s))
          (λ e. rw e refl)
          (λ e. let pairs : (p q : ℕ × N) → Decides (pair_eq eq p q) (p ≡ q) = Decides-pair_eq dec in
          let E : ℕ × N → List (ℕ × N) = run_edges eps bytes in
          let more : ℕ × N → Bool = with_node (pair_eq eq) held (i, s) in
          let f : ℕ × N → List (ℕ × N) = run_ends eq eps bytes n more in
          let g : N → List N = ends eq (eps i) n (with_node eq (λ t. held (i, t)) s) in
          let F : N → List (ℕ × N) = runs_over eq eps bytes m i in
          let next : List (ℕ × N) = map (placed (suc i)) (bytes i s) in
          let above : (p : ℕ × N) → nat_lt i p.0 ≡ true → more p ≡ false = λ p l. grind (arith, nat_tests, h p l) in
          let later : flat_map f next ≡ runs eq eps bytes m (suc i) (bytes i s) =
          flat_map-agree pairs f (run_ends eq eps bytes m none_held) next (λ q z.
          let at = member-placed (suc i) (bytes i s) q in
          ends-enough pairs E n m more q (a e q (grind (arith, at, member-run_edges (i, s) q)))
          (IsEnough-from_none pairs E m more q (enough q))
          ∙ ends_agree pairs E E m (λ p. nat_lt i p.0) more none_held q (later_closed i) above (λ p l. refl)
          (grind (arith, nat_tests, at))) in
          let own : flat_map f (map (placed i) (eps i s)) ≡ flat_map F (flat_map g (eps i s)) =
          flat_map-map f (placed i) (eps i s)
          ∙ flat_map-agree dec (λ t. f (i, t)) (λ t. flat_map F (g t)) (eps i s)
          (λ t z. let stay = member-run_edges (i, s) (i, t) in
          run_ends-split n more i t (a e (i, t) (grind (arith, nat_tests))) above
          ∙ ap (λ h. flat_map F (ends eq (eps i) n h t)) (with_node-at held i s))
          ∙ sym (flat_map-flat_map g F (eps i s)) in
          rw (e, flat_map-append f next (map (placed i) (eps i s)), later, own) refl)

      -- the ends of the paths at a position from some states there
      abbrev pub paths_at : ℕ → List N → List N
      paths_at i rs = flat_map (ends eq (eps i) m none_held) rs

      -- the runs from some states, by the states that they reach at their position
      pub runs_are_listed : (i : ℕ) (rs : List N)
          → runs eq eps bytes m i rs ≡ flat_map (runs_over eq eps bytes m i) (paths_at i rs)
      runs_are_listed i rs =
          flat_map-map (run_ends eq eps bytes m none_held) (placed i) rs
          ∙ flat_map-same (λ s. run_ends eq eps bytes m none_held (i, s)) _ rs
          (λ s. run_ends-split m none_held i s (enough (i, s)) (λ p l. refl))
          ∙ sym (flat_map-flat_map (ends eq (eps i) m none_held) (runs_over eq eps bytes m i) rs)

      -- no run returns to an earlier position
      runs_later : (k i : ℕ) (rs : List N) → k < i → states_at k (runs eq eps bytes m i rs) ≡ []
      runs_later k i rs l =
          flat_map-agree (Decides-pair_eq dec) (state_at k) (λ p. []) (runs eq eps bytes m i rs)
          (λ p z. flat_map-member (Decides-pair_eq dec) (run_ends eq eps bytes m none_held) (map (placed i) rs) p z
          (λ q u w. let z = ends_within (Decides-pair_eq dec) (run_edges eps bytes) m (λ p. nat_lt k p.0) none_held
          none_held q p (later_closed k) (λ y h. h) (grind (arith, nat_tests, member-placed i rs q)) w in
          grind (arith, nat_tests)))
          ∙ flat_map_none (λ p. []) (runs eq eps bytes m i rs) (λ p. refl)

      pub runs_own : (i : ℕ) (rs : List N) → states_at i (runs eq eps bytes m i rs) ≡ paths_at i rs
      runs_own i rs = rw (runs_are_listed i rs) (own (paths_at i rs))
        where
          own : (P : List N) → states_at i (flat_map (runs_over eq eps bytes m i) P) ≡ P
          own [] = refl
          own (s ∷ P) =
              let none = runs_later i (suc i) (bytes i s) (omega arith) in
              let parts = flat_map-append (state_at i) (runs eq eps bytes m (suc i) (bytes i s))
              (flat_map (runs_over eq eps bytes m i) P) in
              grind (arith, nat_tests, none, parts, own P)

      runs_next : (i k : ℕ) (rs : List N) → i < k
          → states_at k (runs eq eps bytes m i rs)
          ≡ states_at k (runs eq eps bytes m (suc i) (flat_map (bytes i) (paths_at i rs)))
      runs_next i k rs l = rw (runs_are_listed i rs) (next (paths_at i rs))
        where
          next : (P : List N) → states_at k (flat_map (runs_over eq eps bytes m i) P)
              ≡ states_at k (runs eq eps bytes m (suc i) (flat_map (bytes i) P))
          next [] = refl
          next (s ∷ P) =
              let more : List N = flat_map (bytes i) P in
              let here : List (ℕ × N) = runs eq eps bytes m (suc i) (bytes i s) in
              let left = flat_map-append (state_at k) here (flat_map (runs_over eq eps bytes m i) P) in
              let right = flat_map-append (state_at k) here (runs eq eps bytes m (suc i) more) in
              grind (arith, nat_tests, left, right, runs-append eq eps bytes m (suc i) (bytes i s) more, next P)

      runs_step : (d i k : ℕ) (rs : List N) → i + d ≡ k
          → states_at (suc k) (runs eq eps bytes m i rs)
          ≡ paths_at (suc k) (flat_map (bytes k) (states_at k (runs eq eps bytes m i rs)))
      runs_step zero i k rs e =
          let q : i ≡ k = omega arith in
          rw q (runs_next k (suc k) rs (omega arith) ∙ runs_own (suc k) (flat_map (bytes k) (paths_at k rs))
          ∙ ap (λ y. paths_at (suc k) (flat_map (bytes k) y)) (sym (runs_own k rs)))
      runs_step (suc d) i k rs e =
          runs_next i (suc k) rs (omega arith)
          ∙ runs_step d (suc i) k (flat_map (bytes i) (paths_at i rs)) (omega arith)
          ∙ ap (λ y. paths_at (suc k) (flat_map (bytes k) y)) (sym (runs_next i k rs (omega arith)))

      -- the states of the next position are those of the search from the byte steps of the states
      -- of this one
      pub states_at-ordered_next : (i k : ℕ) (rs : List N) → i ≤ k
          → states_at (suc k) (ordered (pair_eq eq) (run_edges eps bytes) m none_held (map (placed i) rs))
          ≡ ordered eq (eps (suc k)) m none_held (flat_map (bytes k)
          (states_at k (ordered (pair_eq eq) (run_edges eps bytes) m none_held (map (placed i) rs))))
      states_at-ordered_next i k rs l =
          let L : List N = states_at k (runs eq eps bytes m i rs) in
          let f : N → List N = ends eq (eps (suc k)) m none_held in
          let step = runs_step (k - i) i k rs (omega arith) ∙ flat_map-flat_map (bytes k) f L in
          let same = flat_map-flat_map (bytes k) f (fresh eq none_held L) in
          let old = states_at-fresh k none_held (runs eq eps bytes m i rs) in
          rw (states_at-fresh (suc k) none_held (runs eq eps bytes m i rs), old, step, same)
          (sym (fresh-flat_map dec (λ s. flat_map f (bytes k s)) none_held L))
