-- A run from the unanchored start with the usual prefix passes over some bytes, and then is one from the anchored
-- start, or has not left the prefix.
-- Main statements: parted, shape, unshape, over the records IsSkip and IsOnPrefix, and stays_out.
-- Used by: PreferredRun and the laws of idle scans.
-- Idea: only the skip has a transition to the start, and it reads a byte, so of the pairs that a run has visited only
-- those of the prefix lie in the way (VisitedNodes).
use Rattle.determinize_nfa.proofs.Common.{All, Assertion, Bool, HasPrefix, In, In_cases, In_none, IsPath, List, Nfa}
use Rattle.determinize_nfa.proofs.Common.{None, Range, Some, Text, [], ap, arith, by_cases, eq-eqb, get_or, inl, inr}
use Rattle.determinize_nfa.proofs.Common.{leads_to, length, matches, nat_eq, nat_tests, next_of, or_left, path_stays}
use Rattle.determinize_nfa.proofs.Common.{pattern_of, refl, same_pairs, slice_get, slice_get-get_or, slice_get_within}
use Rattle.determinize_nfa.proofs.Common.{some_injective, state_at, suc, sym, true, zero, ℕ, ◌+◌, ◌<◌, ◌∙◌, ◌∷◌, ◌≡◌}
use Rattle.determinize_nfa.proofs.Common.{◌≤◌, ◌⊎◌}
use Rattle.std.specs.Prelude.{Contains}
use Rattle.ordered_reach.proofs.lists.Elements.{Contains_In}
use Rattle.determinize_nfa.proofs.runs.Choices.{choice_arc, choices_under, under_later, under_leads}
use Rattle.ordered_reach.proofs.graph.VisitedNodes.{path_forget, path_remember}
use Rattle.determinize_nfa.proofs.prefixes.Skips.{pass, skip}
use Rattle.determinize_nfa.proofs.kinds.TestedLists.{In_one}

module _ (nfa : Nfa) (text : Text) (h : ℕ → Assertion → Bool) (has : HasPrefix nfa) where
  abbrev pub graph : ℕ × ℕ → List (ℕ × ℕ)
  graph = choices_under nfa text h

  abbrev pub u : ℕ
  u = nfa.start_unanchored

  abbrev pub a : ℕ
  a = nfa.start_anchored

  abbrev pub x : ℕ
  x = has.skip

  choices_u : (k : ℕ) → graph (k, u) ≡ (k, a) ∷ (k, x) ∷ []
  choices_u k = rw has.first refl

  pub u_not_x : u ≡ x → ⊥
  u_not_x e = grind (arith, has.first, has.any, e)

  pub u_not_a : a ≡ u → ⊥
  u_not_a e = u_not_x (has.alone u (rw has.first (or_left (nat_eq u a) (nat_eq u x) (eq-eqb u a (sym e)))))

  -- the states of the prefix have no pattern
  no_pattern : (s y : ℕ) → (s ≡ u) ⊎ (s ≡ x) → pattern_of nfa s ≡ Some y → ⊥
  no_pattern s y d m = grind (arith, has.first, has.any, d, m)

  -- outside the prefix
  abbrev pub IsOut : ℕ × ℕ → Type 0
  IsOut p = (p.1 ≡ u → ⊥) × (p.1 ≡ x → ⊥)

  -- where no other state goes to the skip, a run does not return to the prefix
  pub stays_out : ((s : ℕ) → leads_to x (state_at nfa s) ≡ true → s ≡ u) → (cs : List ℕ) (r q : ℕ × ℕ) → IsOut r
      → IsPath graph [] r cs q → IsOut q
  stays_out apart cs r q = path_stays graph IsOut closed cs [] r q
    where
      closed : (p q : ℕ × ℕ) (c : ℕ) → IsOut p → slice_get (graph p) c ≡ Some q → IsOut q
      closed p q c i e =
          let l = under_leads nfa text h p q c e in
          (λ z. i.1 (has.alone p.1 (rw z at l)), λ z. i.0 (apart p.1 (rw z at l)))

  -- where the skip is the anchored start, no run leaves the prefix
  pub none_leaves : a ≡ x → (k : ℕ) (cs : List ℕ) (q : ℕ × ℕ) (y : ℕ) → IsPath graph [] (k, a) cs q
      → pattern_of nfa q.1 ≡ Some y → ⊥
  none_leaves same k cs q y p =
      no_pattern q.1 y (path_stays graph (λ p. (p.1 ≡ u) ⊎ (p.1 ≡ x)) closed cs [] (k, a) q (inr same) p)
    where
      closed : (p q : ℕ × ℕ) (c : ℕ) → (p.1 ≡ u) ⊎ (p.1 ≡ x) → slice_get (graph p) c ≡ Some q
          → (q.1 ≡ u) ⊎ (q.1 ≡ x)
      closed p q c i e =
          grind (arith, nat_tests, under_leads nfa text h p q c e, has.first, has.any, same, i)

  -- from the state that passes over a byte a choice is the unanchored start, over a byte
  from_x : (k c : ℕ) (t : ℕ × ℕ) → slice_get (graph (k, x)) c ≡ Some t
      → (k < length text.bytes) × (t ≡ (suc k, u))
  from_x k c t e =
      let d = choice_arc nfa text h (k, x) t c e in
      let is = In_one d.0 (Range record { start = 0; end = 255; next = u }) (rw has.any at d.1) in
      let z = rw is at d.3 in
      let w : t.1 ≡ u = sym d.2 ∙ ap next_of is in
      (slice_get_within text.bytes k z.1 z.2, λ i. (z.0 i, w i))

  -- and a choice to the unanchored start is from there
  into_u : (p q : ℕ × ℕ) (c : ℕ) → slice_get (graph p) c ≡ Some q → q.1 ≡ u → q.0 ≡ suc p.0
  into_u p q c e z =
      let s : p.1 ≡ x = has.alone p.1 (rw z at (under_leads nfa text h p q c e)) in
      ap (λ y. y.0) (from_x p.0 c q (rw s at e)).1

  module _ (small : All (λ b. b < 256) text.bytes) where
    choices_x : (k : ℕ) → k < length text.bytes → graph (k, x) ≡ (suc k, u) ∷ []
    choices_x k l =
        let e = slice_get-get_or text.bytes k 0 l in
        let b : get_or text.bytes k 0 < 256 = small k 0 l in
        let m : matches record { start = 0; end = 255; next = u } (get_or text.bytes k 0) ≡ true = grind (arith, b) in
        rw (has.any, e, m) refl

    -- what a run has met when it comes to the unanchored start at a position
    abbrev pub met : ℕ → List (ℕ × ℕ)
    met zero = []
    met (suc k) = (k, x) ∷ (k, u) ∷ met k

    met_before : (k : ℕ) (p : ℕ × ℕ) → In p (met k) → p.0 < k
    met_before zero p m = In_none p m
    met_before (suc k) p m = In_cases p (k, x) ((k, u) ∷ met k) m
        (λ e. let z : p.0 ≡ k = ap (λ y. y.0) e in omega arith)
        (λ l. In_cases p (k, u) (met k) l
        (λ e. let z : p.0 ≡ k = ap (λ y. y.0) e in omega arith)
        (λ n. omega (arith, met_before k p n)))

    -- where a run from the anchored start at a position may come to
    abbrev IsAfter : ℕ → ℕ × ℕ → Type 0
    IsAfter k p = (k ≤ p.0) × (p ≡ (k, u) → ⊥)

    after_closed : (k : ℕ) (p q : ℕ × ℕ) (c : ℕ) → IsAfter k p → slice_get (graph p) c ≡ Some q → IsAfter k q
    after_closed k p q c i e =
        let l : p.0 ≤ q.0 = under_later nfa text h p q c e in (
          omega (arith, i.0),
          λ z. let w : q.0 ≡ suc p.0 = into_u p q c e (ap (λ y. y.1) z) in
              let v : q.0 ≡ k = ap (λ y. y.0) z in omega (arith, i.0),
        )

    after_apart : (k : ℕ) (p : ℕ × ℕ) → IsAfter k p → In p ((k, u) ∷ met k) → ⊥
    after_apart k p i l = In_cases p (k, u) (met k) l i.1 (λ m. omega (arith, met_before k p m, i.0))

    -- a run from the anchored start is one with what was met on the way to it
    forget : (k : ℕ) (cs : List ℕ) (q : ℕ × ℕ)
        → (IsPath graph ((k, u) ∷ met k) (k, a) cs q → IsPath graph [] (k, a) cs q)
        × (IsPath graph [] (k, a) cs q → IsPath graph ((k, u) ∷ met k) (k, a) cs q)
    forget k cs q =
        let begin : IsAfter k (k, a) = (omega arith, λ e. u_not_a (ap (λ y. y.1) e)) in (
          path_forget same_pairs graph (IsAfter k) (after_closed k) ((k, u) ∷ met k) (after_apart k) cs [] (k, a) q
              begin,
          path_remember same_pairs graph (IsAfter k) (after_closed k) ((k, u) ∷ met k) (after_apart k) cs [] (k, a) q
              begin,
        )

    -- some bytes are passed over, and then there is a run from the anchored start
    pub record IsSkip (k : ℕ) (cs : List ℕ) (q : ℕ × ℕ) : Type 0 where
      pub over : ℕ
      pub choices_then : List ℕ
      pub is : cs ≡ skip over choices_then
      pub within : k + over ≤ length text.bytes
      pub run : IsPath graph [] (k + over, a) choices_then q

    -- some bytes are passed over, and maybe one more is chosen to be
    pub record IsOnPrefix (k : ℕ) (cs : List ℕ) (q : ℕ × ℕ) : Type 0 where
      pub over : ℕ
      pub ends : ((cs ≡ pass over []) × (q ≡ (k + over, u))) ⊎ ((cs ≡ pass over (1 ∷ [])) × (q ≡ (k + over, x)))

    -- each run is of one of these shapes
    pub parted : (cs : List ℕ) (k : ℕ) (q : ℕ × ℕ) → k ≤ length text.bytes → IsPath graph (met k) (k, u) cs q
        → IsSkip k cs q ⊎ IsOnPrefix k cs q
    parted [] k q l p = let z : k + 0 ≡ k = omega arith in inr (record { over = 0; ends = inl (refl, rw z p.1) })
    parted (zero ∷ cs) k q l p =
        let e : (k, a) ≡ p.1.0 = some_injective (k, a) p.1.0 (rw (choices_u k) at p.1.1) in
        let z : k + 0 ≡ k = omega arith in
        inl (record {
          over = 0;
          choices_then = cs;
          is = refl;
          within = omega arith;
          run = rw z ((forget k cs q).0 (rw e p.1.2));
        })
    parted (suc zero ∷ []) k q l p =
        let e : (k, x) ≡ p.1.0 = some_injective (k, x) p.1.0 (rw (choices_u k) at p.1.1) in
        let z : k + 0 ≡ k = omega arith in inr (record { over = 0; ends = inr (refl, rw z (p.1.2.1 ∙ sym e)) })
    parted (suc zero ∷ c ∷ cs) k q l p =
        let e : (k, x) ≡ p.1.0 = some_injective (k, x) p.1.0 (rw (choices_u k) at p.1.1) in
        let r : IsPath graph ((k, u) ∷ met k) (k, x) (c ∷ cs) q = rw (← e) at p.1.2 in
        let f = from_x k c r.1.0 r.1.1 in
        further c (only c r.1.0 (rw (choices_x k f.0) at r.1.1)) (parted cs (suc k) q (omega arith) (rw f.1 at r.1.2))
      where
        only : (c : ℕ) (t : ℕ × ℕ) → slice_get ((suc k, u) ∷ []) c ≡ Some t → c ≡ 0
        only zero t e = refl
        only (suc c) t e = absurd (let w : None ≡ Some t = e in cc)

        over_more : (n : ℕ) → suc k + n ≡ k + suc n
        over_more n = omega arith

        further : (c : ℕ) → c ≡ 0 → IsSkip (suc k) cs q ⊎ IsOnPrefix (suc k) cs q
            → IsSkip k (1 ∷ c ∷ cs) q ⊎ IsOnPrefix k (1 ∷ c ∷ cs) q
        further c z d = rw z (by_cases d
            (λ s. inl (record {
              over = suc s.over;
              choices_then = s.choices_then;
              is = ap (λ w. 1 ∷ 0 ∷ w) s.is;
              within = rw (← over_more s.over) s.within;
              run = rw (← over_more s.over) s.run;
            }))
            (λ s. inr (record {
              over = suc s.over;
              ends = by_cases s.ends
                  (λ e. inl (ap (λ w. 1 ∷ 0 ∷ w) e.0, rw (over_more s.over) at e.1))
                  (λ e. inr (ap (λ w. 1 ∷ 0 ∷ w) e.0, rw (over_more s.over) at e.1));
            })))
    parted (suc (suc c) ∷ cs) k q l p = absurd (let z : None ≡ Some p.1.0 = rw (choices_u k) at p.1.1 in cc)

    -- a run to a pattern has left the prefix
    pub shape : (cs : List ℕ) (k : ℕ) (q : ℕ × ℕ) (pattern : ℕ) → k ≤ length text.bytes
        → pattern_of nfa q.1 ≡ Some pattern
        → IsPath graph (met k) (k, u) cs q → IsSkip k cs q
    shape cs k q y l m p = by_cases (parted cs k q l p)
        (λ s. s)
        (λ s. absurd (no_pattern q.1 y
        (by_cases s.ends (λ e. inl (ap (λ w. w.1) e.1)) (λ e. inr (ap (λ w. w.1) e.1))) m))

    not_met : (k s : ℕ) → ¬ (Contains (met k) (k, s))
    not_met k s w = absurd (omega (arith, met_before k (k, s) (Contains_In same_pairs (met k) (k, s) w)))

    not_met_x : (k : ℕ) → ¬ (Contains ((k, u) ∷ met k) (k, x))
    not_met_x k w = In_cases (k, x) (k, u) (met k) (Contains_In same_pairs ((k, u) ∷ met k) (k, x) w)
        (λ e. u_not_x (sym (ap (λ y. y.1) e)))
        (λ l. absurd (omega (arith, met_before k (k, x) l)))

    -- after some bytes a run is where the rest of it begins
    pub pass_run : (d k : ℕ) (cs : List ℕ) (q : ℕ × ℕ) → k + d ≤ length text.bytes
        → IsPath graph (met (k + d)) (k + d, u) cs q → IsPath graph (met k) (k, u) (pass d cs) q
    pass_run zero k cs q l p = let z : k + 0 ≡ k = omega arith in rw z at p
    pass_run (suc d) k cs q l p =
        let z : k + suc d ≡ suc k + d = omega arith in (
          not_met k u,
          (
            (k, x),
            ap (λ w. slice_get w 1) (choices_u k),
            (
              not_met_x k,
              (
                (suc k, u),
                ap (λ w. slice_get w 0) (choices_x k (omega arith)),
                pass_run d (suc k) cs q (omega arith) (rw z at p),
              ),
            ),
          ),
        )

    -- each choice of the first shape is a run
    pub unshape : (d k : ℕ) (cs : List ℕ) (q : ℕ × ℕ) → k + d ≤ length text.bytes
        → IsPath graph [] (k + d, a) cs q
        → IsPath graph (met k) (k, u) (skip d cs) q
    unshape d k cs q l p = pass_run d k (0 ∷ cs) q l (
      not_met (k + d) u,
      ((k + d, a), ap (λ w. slice_get w 0) (choices_u (k + d)), (forget (k + d) cs q).1 p),
    )

    -- and there is one to the start at each position
    pub pass_all : (d : ℕ) → d ≤ length text.bytes → IsPath graph [] (0, u) (pass d []) (d, u)
    pass_all d l = let z : 0 + d ≡ d = omega arith in
        pass_run d 0 [] (d, u) (omega arith) (not_met (0 + d) u, λ i. (sym z i, u))
