-- The lists that a walk over positions records, compared with the search over whole runs.
-- Main statements: level, recorded, recorded, recorded_is, redone_whole, redone_cut.
-- Used by: RunLists, Automata.
-- Idea: a list that is cut at its first accepting node loses only nodes that are less preferred.
use Rattle.ordered_reach.proofs.Common.{fresh, append-nil, sym, [], ap, arith, before, Bool, Decides, false, find, flat_map, fun_ext, IsBeginning, known_at, List, none_held, Option, option_map, option_or, ordered, placed, refl, run_edges, suc, true, without, zero, ℕ, ◌+◌, ◌∙◌, ◌∷◌, ◌≡◌, ◌≤◌}
use Rattle.std.proofs.lemmas.Bool.Decides.{nat_tests}
use Rattle.ordered_reach.proofs.lists.Prefixes.{Beginning-before, Beginning-flat_map, Beginning-ordered, Beginning-without}
use Rattle.ordered_reach.proofs.runs.LastAccepting.{best, best_step}
use Rattle.ordered_reach.proofs.runs.ByPosition.{IsEnoughForRuns, pair_eq, states_at, runs, runs_own, states_at-fresh, states_at-ordered_next}
use Rattle.ordered_reach.proofs.lists.Pieces.{before-without, flat_map-without, flat_map_none}
use Rattle.ordered_reach.proofs.graph.RepeatedSearch.{IsRepeatable, ordered_redone_without}

-- the states at a position: the search there from the byte steps of the previous states, cut by `cut`
abbrev pub level : {N : Type 0} → (N → N → Bool) → (ℕ → N → List N) → (ℕ → N → List N) → (List N → List N) → ℕ → N → ℕ
    → List N
level eq eps bytes cut n start zero = ordered eq (eps 0) n none_held (start ∷ [])
level eq eps bytes cut n start (suc k) =
    ordered eq (eps (suc k)) n none_held (flat_map (bytes k) (cut (level eq eps bytes cut n start k)))

-- what is recorded: the states entered under the look-behind, without those of cap; the search is
-- repeated from them, and cut by `cut`
abbrev pub recorded_by : {N : Type 0} → (N → N → Bool) → (ℕ → N → List N) → (ℕ → N → List N) → (ℕ → N → List N)
    → (N → Bool) → (List N → List N) → ℕ → N → ℕ → List N
recorded_by eq known eps bytes cap cut n start zero = without cap (ordered eq (known 0) n none_held (start ∷ []))
recorded_by eq known eps bytes cap cut n start (suc k) =
    without cap (ordered eq (known (suc k)) n none_held
    (flat_map (bytes k) (cut (ordered eq (eps k) n none_held (recorded_by eq known eps bytes cap cut n start k)))))

-- what is recorded of whole lists
abbrev pub recorded : {N : Type 0} → (N → N → Bool) → (ℕ → N → List N) → (ℕ → N → List N) → (ℕ → N → List N)
    → (N → Bool) → ℕ → N → ℕ → List N
recorded eq known eps bytes cap n start k = recorded_by eq known eps bytes cap (λ l. l) n start k

-- what is recorded, where each list is cut at its first accepting state
abbrev pub recorded_cut : {N : Type 0} → (N → N → Bool) → (ℕ → N → List N) → (ℕ → N → List N) → (ℕ → N → List N)
    → (N → Bool) → (N → Bool) → ℕ → N → ℕ → List N
recorded_cut eq known eps bytes cap acc n start k = recorded_by eq known eps bytes cap (before acc) n start k

-- the last accepting state of the positions k to k + d
abbrev pub last_accepting : {N : Type 0} → (ℕ → List N) → (N → Bool) → ℕ → ℕ → Option (ℕ × N)
last_accepting lists acc zero k = option_map (placed k) (find acc (lists k))
last_accepting lists acc (suc d) k =
    option_or (last_accepting lists acc d (suc k)) (option_map (placed k) (find acc (lists k)))

-- a level depends only on the edges up to its position
level-agree : {N : Type 0} (eq : N → N → Bool) (eps more bytes : ℕ → N → List N) (cut : List N → List N) (n : ℕ)
    (start : N) (k : ℕ) → ((j : ℕ) → j ≤ k → eps j ≡ more j)
    → level eq eps bytes cut n start k ≡ level eq more bytes cut n start k
level-agree eq eps more bytes cut n start zero h = rw (h 0 (omega arith))
level-agree eq eps more bytes cut n start (suc k) h =
    rw (h (suc k) (omega arith), level-agree eq eps more bytes cut n start k (λ j l. h j (omega arith)))

module _ {N : Type 0} {eq : N → N → Bool} (dec : (a b : N) → Decides (eq a b) (a ≡ b))
    (known eps bytes : ℕ → N → List N) (n : ℕ) (start : N) where
  -- the states at a position are those that whole runs reach there, in their order
  pub level_is : (enough : (p : ℕ × N) → IsEnoughForRuns eq eps bytes n none_held p) → (k : ℕ)
      → states_at k (ordered (pair_eq eq) (run_edges eps bytes) n none_held ((0, start) ∷ []))
      ≡ level eq eps bytes (λ l. l) n start k
  level_is enough zero = states_at-fresh dec 0 none_held (runs eq eps bytes n 0 (start ∷ []))
      ∙ ap (λ l. fresh eq none_held l) (runs_own dec eps bytes n enough 0 (start ∷ []))
  level_is enough (suc k) = states_at-ordered_next dec eps bytes n enough 0 k (start ∷ []) (omega arith)
      ∙ ap (λ l. ordered eq (eps (suc k)) n none_held (flat_map (bytes k) l)) (level_is enough k)

  module _ (cap : N → Bool) (next : N → N) (is : (i : ℕ) → IsRepeatable eq (known i) (eps i) n cap next)
      (no_byte : (i : ℕ) (x : N) → cap x ≡ true → bytes i x ≡ []) where
    flat_map-cap : (k : ℕ) (l : List N) → flat_map (bytes k) (without cap l) ≡ flat_map (bytes k) l
    flat_map-cap k l = flat_map-without (bytes k) cap l (no_byte k)

    -- the search repeated from what is recorded is the search under the true assertions, if the
    -- nodes of cap change nothing of what is cut
    redone : (cut : List N → List N)
        → ((k : ℕ) (l : List N) → flat_map (bytes k) (cut (without cap l)) ≡ flat_map (bytes k) (cut l)) → (k : ℕ)
        → without cap (ordered eq (eps k) n none_held (recorded_by eq known eps bytes cap cut n start k))
        ≡ without cap (level eq eps bytes cut n start k)
    redone cut h zero = ordered_redone_without dec (known 0) (eps 0) n cap next (is 0) (start ∷ [])
    redone cut h (suc k) = rw (← (h k (ordered eq (eps k) n none_held _)), redone cut h k, h k _)
        (ordered_redone_without dec (known (suc k)) (eps (suc k)) n cap next (is (suc k)) _)

    pub redone_whole : (k : ℕ)
        → without cap (ordered eq (eps k) n none_held (recorded eq known eps bytes cap n start k))
        ≡ without cap (level eq eps bytes (λ l. l) n start k)
    redone_whole = redone (λ l. l) flat_map-cap

    -- the recorded list is the search under the look-behind
    pub recorded_is : (k : ℕ) → recorded eq known eps bytes cap n start k
        ≡ without cap (level eq (known_at k known eps) bytes (λ l. l) n start k)
    recorded_is zero = refl
    recorded_is (suc k) =
        let same = level-agree eq (known_at (suc k) known eps) eps bytes (λ l. l) n start k
        (λ j l. fun_ext (λ x. grind (arith, nat_tests))) in
        let last : known_at (suc k) known eps (suc k) ≡ known (suc k) = fun_ext (λ x. grind (arith, nat_tests)) in
        rw (last, same, ← (flat_map-cap k (ordered eq (eps k) n none_held _)), redone_whole k, flat_map-cap k _)

    module _ (acc : N → Bool) (not_cap : (x : N) → acc x ≡ true → cap x ≡ false) where
      pub redone_cut : (k : ℕ)
          → without cap (ordered eq (eps k) n none_held (recorded_cut eq known eps bytes cap acc n start k))
          ≡ without cap (level eq eps bytes (before acc) n start k)
      redone_cut = redone (before acc) (λ k l. rw (before-without acc cap l not_cap) (flat_map-cap k (before acc l)))

      -- the cut lists are prefixes of the others
      pub recorded_cut_begins : (k : ℕ)
          → IsBeginning (recorded_cut eq known eps bytes cap acc n start k)
          (recorded eq known eps bytes cap n start k)
      recorded_cut_begins zero = ([], sym (append-nil _))
      recorded_cut_begins (suc k) =
          Beginning-without cap _ _ (Beginning-ordered dec (known (suc k)) n none_held _ _
          (Beginning-flat_map (bytes k) _ _ (Beginning-before acc _ _
          (Beginning-ordered dec (eps k) n none_held _ _ (recorded_cut_begins k)))))

  -- the first accepting node of all runs is the last accepting state of the cut lists
  pub best_is_last : (acc : N → Bool) (enough : (p : ℕ × N) → IsEnoughForRuns eq eps bytes n none_held p) (m : ℕ)
      → ((x : N) → bytes m x ≡ [])
      → (d k : ℕ) → k + d ≡ m → (rs : List N)
      → ordered eq (eps k) n none_held rs ≡ level eq eps bytes (before acc) n start k
      → best eq eps bytes acc n k rs ≡ last_accepting (level eq eps bytes (before acc) n start) acc d k
  best_is_last acc enough m stop zero k e rs q =
      let at_end : k ≡ m = omega arith in
      rw (best_step dec eps bytes acc n enough k rs, q, at_end)
      (rw (flat_map_none (bytes m) (before acc (level eq eps bytes (before acc) n start m)) stop))
  best_is_last acc enough m stop (suc d) k e rs q =
      let later = best_is_last acc enough m stop d (suc k) (omega arith)
      (flat_map (bytes k) (before acc (level eq eps bytes (before acc) n start k))) refl in
      rw (best_step dec eps bytes acc n enough k rs, q, later)

-- lists with the same first accepting states have the same last one
pub last_accepting-agree : {N : Type 0} (xs ys : ℕ → List N) (acc : N → Bool)
    → ((k : ℕ) → find acc (xs k) ≡ find acc (ys k)) → (d k : ℕ) → last_accepting xs acc d k ≡ last_accepting ys acc d k
last_accepting-agree xs ys acc h zero k = rw (h k)
last_accepting-agree xs ys acc h (suc d) k = rw (h k, last_accepting-agree xs ys acc h d (suc k))
