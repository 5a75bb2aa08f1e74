-- Each input has a list of all of its matches, which passes over none.
-- Main statements: each_input_has_matches, each_start_is_covered.
-- Used by: `laws::matches_law`, and StreamsOfPatterns of `determinize_regex`.
-- Idea: the walk from the anchored start at each position in turn gives the match that begins there, if any, and each
-- match leaves fewer indices. No run begins before the next match, as it is a leftmost one; where the first leftmost
-- match is skipped, it is empty and begins where the range does.
use Rattle.determinize_find.proofs.Common.{ap, AreMatches, arith, Asked, BeginsAt, Bool, by_cases, by_option, by_test}
use Rattle.determinize_find.proofs.Common.{cases_lt, chain, Contains, Covers, EachInputHasMatches, EachStartIsCovered}
use Rattle.determinize_find.proofs.Common.{false, from, inl, inr, is_anchored, is_touching, IsAccepted, IsEmptyAt}
use Rattle.determinize_find.proofs.Common.{IsLeftmost, IsLeftmostIn, IsNext, last_match, latest, left, LeftmostFirst}
use Rattle.determinize_find.proofs.Common.{length, List, Match, moved, nat_tests, Nfa, None, none-some, Option}
use Rattle.determinize_find.proofs.Common.{option_map, preferred, refl, since, Some, some_injective, suc, Text, text_of}
use Rattle.determinize_find.proofs.Common.{touches, zero, [], ℕ, ◌+◌, ◌-◌, ◌<◌, ◌∙◌, ◌∷◌, ◌≡◌, ◌≤◌, ◌⊎◌}
use Rattle.determinize_find.proofs.leftmost.PreferredRun.{each_anchored_is_leftmost}
use Rattle.determinize_find.proofs.matches.NextMatch.{fewer, next_further, next_plain}
use Rattle.determinize_find.proofs.streams.Rests.{leftmost_since}
use Rattle.determinize_find.proofs.matches.OneList.{next_lies}
use Rattle.determinize_find.proofs.leftmost.SearchInTurn.{found_past, in_text, later_run, leftmost_in, none_in_text, text-since}

module _ (nfa : Nfa) (accepted : IsAccepted nfa) where
  -- the match that begins with a text
  first : (text : Text) → (o : Option Match) × IsLeftmost nfa text 0 o
  first text =
      let found = last_match (chain nfa LeftmostFirst nfa.start_anchored text) in
      let (o, h, e) = each_anchored_is_leftmost nfa text found
      (preferred nfa LeftmostFirst nfa.start_anchored text found accepted refl refl) in
      (o, h)

  -- the leftmost match that begins at a position or before
  leftmost : (last : ℕ) (text : Text) → (o : Option Match) × IsLeftmost nfa text last o
  leftmost zero text = first text
  leftmost (suc last) text =
      let (o, h) = first text in
      let (p, r) = leftmost last (since text 1) in
      by_option o
      (λ e. let z : 1 + last ≡ suc last = omega arith in
      (option_map (moved 1) p, rw z at (leftmost_since nfa text 1 last p (λ k l. (rw e at h) k (omega arith)) r)))
      (λ m e. let (low, is) = rw e at h in (Some m, (omega arith, is)))

  leftmost_of : (asked : Asked) → (o : Option Match) × IsLeftmostIn nfa asked o
  leftmost_of asked = by_cases (cases_lt asked.end asked.start)
      (λ l. (None, found_past nfa asked l))
      (λ l. let r = leftmost (latest nfa asked) (text_of false asked) in
      (option_map (moved asked.start) r.0, leftmost_in nfa asked r.0 l r.1))

  next : (asked : Asked) (before : Option ℕ) → (found : Option Match) × IsNext nfa asked before found
  next asked before =
      let one = leftmost_of asked in
      by_test (is_touching before one.0)
      (λ t. let further = leftmost_of (from asked (asked.start + 1)) in
      (further.0, next_further nfa asked before one.0 further.0 one.1 t further.1))
      (λ t. (one.0, next_plain nfa asked before one.0 one.1 t))

  -- all matches, of which there are fewer than n
  matches : (n : ℕ) (asked : Asked) (before : Option ℕ) → left asked.end asked.start before < n
      → asked.end ≤ length asked.haystack → ((last : ℕ) → before ≡ Some last → last ≡ asked.start)
      → (ms : List Match) × AreMatches nfa asked before ms
  matches zero asked before few inside starts = absurd (omega arith)
  matches (suc n) asked before few inside starts =
      let (found, h) = next asked before in
      by_option found
      (λ e. ([], rw e at h))
      (λ m e. let is = rw e at h in
      let less = (fewer nfa asked asked.start before m inside starts is).0 in
      let (ms, all) = matches n (from asked m.end) (Some m.end) (omega arith) inside (λ last e. cc) in
      (m ∷ ms, (is, all)))

pub each_input_has_matches : EachInputHasMatches
each_input_has_matches nfa accepted asked before inside starts =
    matches nfa accepted (suc (left asked.end asked.start before)) asked before (omega arith) inside starts

-- a run that begins in a range begins in the range from a later start on
begins_later : (nfa : Nfa) (asked : Asked) (at start : ℕ) → asked.start ≤ start → start ≤ at → start ≤ asked.end
    → BeginsAt nfa asked at → BeginsAt nfa (from asked start) at
begins_later nfa asked at start l low high (k, at_is, cs, i, y, acc) =
    let text = text-since asked (from asked start) (start - asked.start) refl (omega arith) refl (omega arith) in (
      k - (start - asked.start),
      omega arith,
      cs,
      i - (start - asked.start),
      y,
      rw text (later_run nfa (text_of false asked) (start - asked.start) _ (omega arith) cs i y acc),
    )

-- the index is before the match; without one, a match may begin anywhere in the range
abbrev IsPassed : Bool → ℕ → Option Match → Type 0
IsPassed anchored at None = anchored ≡ false
IsPassed anchored at (Some m) = at < m.start

-- no run that accepts begins before the leftmost match
none_passed : (nfa : Nfa) (asked : Asked) (at : ℕ) (found : Option Match) → at ≤ asked.end
    → IsLeftmostIn nfa asked found → IsPassed (is_anchored nfa asked.anchored) at found → BeginsAt nfa asked at → ⊥
none_passed nfa asked at None l h free (k, at_is, cs, i, y, acc) =
    none_in_text h (omega arith) k (rw free (omega arith)) cs i y acc
none_passed nfa asked at (Some m) l h p (k, at_is, cs, i, y, acc) =
    let t = in_text h in t.leftmost.leftmost k (omega arith) cs i y acc

-- where a run begins that accepts, before the next match: the match before ended there, and an empty one was skipped
skipped : (nfa : Nfa) (asked : Asked) (before : Option ℕ) (at : ℕ) (found : Option Match)
    → ((last : ℕ) → before ≡ Some last → last ≡ asked.start) → IsNext nfa asked before found
    → IsPassed (is_anchored nfa asked.anchored) at found → at ≤ asked.end → BeginsAt nfa asked at
    → (before ≡ Some at) × IsEmptyAt nfa asked at
skipped nfa asked before at found starts (None, is, taken) p l b =
    absurd (none_passed nfa asked at None l is (rw taken at p) b)
skipped nfa asked before at found starts (Some m, is, taken) p l b = by_test (touches before m)
    (λ e. let ends : before ≡ Some m.start = grind (arith, nat_tests) in
    let empty : m.end ≡ m.start = grind (arith, nat_tests) in
    let start = starts m.start ends in
    let low : asked.start ≤ at = omega (arith, b.1) in
    by_cases (cases_lt asked.start at)
    (λ j. absurd (none_passed nfa (from asked (asked.start + 1)) at found l (taken.0 e) p
    (begins_later nfa asked at (asked.start + 1) (omega arith) (omega arith) (omega arith) b)))
    (λ j. let same : at ≡ asked.start = omega arith in
    let is_empty : m ≡ record { pattern = m.pattern; start = asked.start; end = asked.start }
    = λ i. record { pattern = m.pattern; start = start i; end = (empty ∙ start) i } in
    rw same (ends ∙ ap Some start, (m.pattern, rw is_empty at is))))
    (λ e. absurd (none_passed nfa asked at (Some m) l is (rw (taken.1 e) at p) b))

-- where a run begins that accepts: before the first match, or in one of the list
seen : (nfa : Nfa) (asked : Asked) (before : Option ℕ) (ms : List Match) (at : ℕ)
    → asked.end ≤ length asked.haystack → is_anchored nfa asked.anchored ≡ false
    → ((last : ℕ) → before ≡ Some last → last ≡ asked.start) → AreMatches nfa asked before ms
    → at ≤ asked.end → BeginsAt nfa asked at
    → ((before ≡ Some at) × IsEmptyAt nfa asked at) ⊎ ((m : Match) × Contains ms m × Covers nfa asked at m)
seen nfa asked before [] at l free starts h e b = inl (skipped nfa asked before at None starts h free e b)
seen nfa asked before (m ∷ ms) at l free starts h e b =
    let y = next_lies nfa asked before m l starts h.0 in
    by_cases (cases_lt at m.start)
    (λ j. inl (skipped nfa asked before at (Some m) starts h.0 j e b))
    (λ j. by_cases (cases_lt at m.end)
    (λ k. inr (m, (0, omega arith, refl), (j, inl k)))
    (λ k. by_cases (seen nfa (from asked m.end) (Some m.end) ms at l free (λ last z. cc) h.1 e
    (begins_later nfa asked at m.end (omega arith) k (omega arith) b))
    (λ z. inr (m, (0, omega arith, refl), (j, inr (some_injective m.end at z.0, z.1))))
    (λ z. inr (z.0, (suc z.1.0, omega (arith, z.1.1), z.1.2), z.2))))

pub each_start_is_covered : EachStartIsCovered
each_start_is_covered nfa asked ms at free l h e b =
    by_cases (seen nfa asked None ms at l free (λ last z. cc) h e b) (λ z. absurd (none-some at z.0)) (λ z. z)
