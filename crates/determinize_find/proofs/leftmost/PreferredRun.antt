-- The preferred match from a start state has the pattern and the end of the leftmost match.
-- Main statements: from_start, to_start, each_preferred_is_leftmost, each_anchored_is_leftmost.
-- Used by: `laws::prefix_law`, TwoSearches, InputMatches, Begun, and ListsOfPatterns of `determinize_regex`.
-- Idea: after the prefix a run that skips fewer bytes is preferred, so the preferred run begins leftmost.
use Rattle.determinize_find.proofs.Common.{Accepts, AcceptsFrom, All, ap, arith, Before, Before-asym, HasPrefix, length}
use Rattle.determinize_find.proofs.Common.{List, Match, Nfa, None, NothingFrom, pattern_in, refl, shape, skip}
use Rattle.determinize_find.proofs.Common.{skip_before, skip_same, Some, Text, true_at, unshape, ℕ, ◌+◌, ◌<◌, ◌∷◌, ◌≡◌, ◌≤◌, ◌⊎◌}
use Rattle.determinize_find.specs.Private.BestAt.{IsBestFrom}
use Rattle.determinize_find.proofs.leftmost.SearchInTurn.{leftmost_match}
use Rattle.determinize_find.specs.Laws.{EachAnchoredIsLeftmost, EachPreferredIsLeftmost}

-- of two runs, of which the first is the same as the second or before it, the second is not before the first
pub not_before : {cs ds : List ℕ} → (cs ≡ ds) ⊎ Before cs ds → Before ds cs → ⊥
not_before {cs} {ds} least before = grind (arith, Before-asym cs ds, Before-asym cs cs)

module _ (nfa : Nfa) (text : Text) (has : HasPrefix nfa) (small : All (λ b. b < 256) text.bytes) where
  -- a run from the anchored start at a position is one from the unanchored start
  pub from_start : (k : ℕ) (cs : List ℕ) (i pattern : ℕ) → k ≤ length text.bytes
      → AcceptsFrom nfa text k nfa.start_anchored cs i pattern
      → Accepts nfa text nfa.start_unanchored (skip k cs) i pattern
  from_start k cs i y l (s, run, is) =
      let z : 0 + k ≡ k = omega arith in
      (s, unshape nfa text (true_at nfa text) has small k 0 cs (i, s) (omega arith) (rw z run), is)

  -- and each that accepts is such a run
  pub to_start : (cs : List ℕ) (i pattern : ℕ) → Accepts nfa text nfa.start_unanchored cs i pattern
      → (k : ℕ) × (k ≤ length text.bytes) × (ds : List ℕ) × (cs ≡ skip k ds)
      × AcceptsFrom nfa text k nfa.start_anchored ds i pattern
  to_start cs i y (s, run, is) =
      let z : (k : ℕ) → 0 + k ≡ k = λ k. omega arith in
      let p = shape nfa text (true_at nfa text) has small cs 0 (i, s) y (omega arith) (ap pattern_in is) run in
      (p.over, (rw (z p.over) at p.within), p.choices_then, p.is, (s, (rw (z p.over) at p.run), is))

pub each_preferred_is_leftmost : EachPreferredIsLeftmost
each_preferred_is_leftmost nfa has text small None p =
    (None, λ k l cs i y acc. p (skip k cs) i y (from_start nfa text has small k cs i y l acc), refl)
each_preferred_is_leftmost nfa has text small (Some h) (cs, r) =
    let (k, within, ds, is, accepts) = to_start nfa text has small cs h.offset h.pattern r.accepts in
    let m : Match = record { pattern = h.pattern; start = k; end = h.offset } in
    let first : (j : ℕ) (es : List ℕ) (i y : ℕ) → j ≤ length text.bytes
    → AcceptsFrom nfa text j nfa.start_anchored es i y → (skip k ds ≡ skip j es) ⊎ Before (skip k ds) (skip j es)
    = λ j es i y l acc. rw is at (r.preferred (skip j es) i y (from_start nfa text has small j es i y l acc)) in
    let best : IsBestFrom nfa text k ds h.offset h.pattern
    = record { accepts = accepts; preferred = λ es i y acc. skip_same k ds es (first k es i y within acc) } in
    let none : (j : ℕ) → j < k → NothingFrom nfa text j
    = λ j l es i y acc. not_before (first j es i y (omega arith) acc) (skip_before j k es (0 ∷ ds) l) in
    (Some m, (within, leftmost_match m ds none best), refl)

pub each_anchored_is_leftmost : EachAnchoredIsLeftmost
each_anchored_is_leftmost nfa text None p =
    (None, λ k l cs i y acc. let z : k ≡ 0 = omega arith in p cs i y (rw z at acc), refl)
each_anchored_is_leftmost nfa text (Some h) (cs, r) =
    let m : Match = record { pattern = h.pattern; start = 0; end = h.offset } in
    let best : IsBestFrom nfa text 0 cs h.offset h.pattern = record { accepts = r.accepts; preferred = r.preferred } in
    (Some m, (omega arith, leftmost_match m cs (λ k l. absurd (omega arith)) best), refl)
