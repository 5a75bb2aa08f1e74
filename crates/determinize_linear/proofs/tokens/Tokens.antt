-- The tokens of an input, by the longest matches in its text.
-- Main statements: no_token, position_within, begins, more_tokens, all_tokens, is_token, none_longer, end_of_last-push,
-- steps_before, steps_of_all.
-- Used by: `tokens_with`.
-- Idea: the longest match from a position is that of the rest of the text, which is the text of the rest of the input.
use Rattle.std.proofs.Common.{◌≡◌, ◌<◌, ◌≤◌, ◌+◌, ◌-◌, ◌++◌, ◌∙◌, ◌∷◌, ℕ, List, None, Option, Some, [], ap, append-nil}
use Rattle.std.proofs.Common.{append_assoc, arith, false, length, refl, subst, sym}
use Rattle.std.specs.Option.{IfSome}
use Rattle.std.proofs.Math.Nat.{min-le_left, min-le_right}
use Rattle.determinize_below.specs.Search.{Asked}
use Rattle.determinize_below.specs.Semantics.{Accepts, Nfa, Text}
use Rattle.determinize_below.specs.declared.search.HalfMatch.{HalfMatch}
use Rattle.determinize_below.specs.declared.search.Match.{Match}
use Rattle.determinize_core.specs.LastMatch.{IsFarthestMatch}
use Rattle.determinize_core.proofs.walk.Farthest.{no_run_leaves_the_text}
use Rattle.determinize_engine.specs.Searches.{text_of}
use Rattle.determinize_find.specs.Matches.{from}
use Rattle.determinize_find.proofs.leftmost.SearchInTurn.{text-since}
use Rattle.determinize_find.proofs.matches.OneList.{length-range}
use Rattle.determinize_nfa.specs.Runs.{since}
use Rattle.determinize_linear.specs.Private.Found.{IsLongestAt, earlier}
use Rattle.determinize_linear.specs.Private.Paid.{in_haystack}
use Rattle.determinize_linear.specs.Tokens.{AreTokens, HasNoToken, IsToken, end_of_last, least_steps}

-- in no bytes there is none
pub no_token : (nfa : Nfa) (asked : Asked) → asked.end ≤ length asked.haystack → asked.end ≤ asked.start
    → HasNoToken nfa asked
no_token nfa asked within past = λ cs i pattern acc. omega (
  arith,
  (no_run_leaves_the_text nfa nfa.start_anchored (text_of false asked) cs i).1 pattern acc,
  length-range asked within,
  past,
)

-- a position of the text is an index of the range
pub position_within : (asked : Asked) (text : Text) (at : ℕ) → text ≡ text_of false asked
    → asked.end ≤ length asked.haystack → asked.start ≤ asked.end → at ≤ length text.bytes
    → asked.start + at ≤ asked.end
position_within asked text at is within order l =
    omega (arith, ap (λ (t : Text). length t.bytes) is, length-range asked within, within, order, l)

module _ (nfa : Nfa) (asked : Asked) where
  -- the first tokens, which end at an index
  abbrev pub AreFirstTokens : ℕ → List Match → Type 0
  AreFirstTokens at ms = (rest : List Match) → AreTokens nfa (from asked at) rest → AreTokens nfa asked (ms ++ rest)

  pub begins : AreFirstTokens (asked.start + 0) []
  begins = let none : asked.start + 0 ≡ asked.start = omega arith in λ rest h. rw none at h

  pub more_tokens : (at : ℕ) (ms : List Match) (m : Match) → AreFirstTokens at ms → IsToken nfa (from asked at) m
      → AreFirstTokens m.end (ms ++ m ∷ [])
  more_tokens at ms m first is = λ rest h. rw (append_assoc ms (m ∷ []) rest) (first (m ∷ rest) (is, h))

  pub all_tokens : (at : ℕ) (ms : List Match) → AreFirstTokens at ms → HasNoToken nfa (from asked at)
      → AreTokens nfa asked ms
  all_tokens at ms first none = subst (λ l. AreTokens nfa asked l) (append-nil ms) (first [] none)

  module _ (text : Text) (at : ℕ) (is : text ≡ text_of false asked) (within : asked.start + at ≤ asked.end) where
    rest_is : since text at ≡ text_of false (from asked (asked.start + at))
    rest_is = ap (λ w. since w at) is ∙ sym (text-since asked (from asked (asked.start + at)) at refl refl refl within)

    -- the longest match from a position is a token
    pub is_token : (m : HalfMatch) → IsLongestAt nfa text at (Some m) → at < m.offset
        → IsToken nfa (from asked (asked.start + at)) (in_haystack asked.start at m)
    is_token m longest l =
        let size : m.offset - at ≡ asked.start + m.offset - (asked.start + at) = omega arith in
        record {
          start = refl;
          nonempty = omega (arith, l);
          longest = subst (λ n. IsFarthestMatch nfa nfa.start_anchored (text_of false (from asked (asked.start + at)))
              (Some record { pattern = m.pattern; offset = n })) size
              (subst (λ w. IsFarthestMatch nfa nfa.start_anchored w (Some (earlier at m))) rest_is longest);
        }

    -- and if it is empty, or there is none, no token begins there
    pub none_longer : (found : Option HalfMatch) → IsLongestAt nfa text at found
        → IfSome found (λ m. m.offset ≤ at) → HasNoToken nfa (from asked (asked.start + at))
    none_longer None none empty = λ cs i pattern acc. absurd (none cs i pattern
        (subst (λ w. Accepts nfa w nfa.start_anchored cs i pattern) (sym rest_is) acc))
    none_longer (Some m) longest empty = λ cs i pattern acc. omega (
      arith,
      longest.1 cs i pattern (subst (λ w. Accepts nfa w nfa.start_anchored cs i pattern) (sym rest_is) acc),
      empty,
    )

-- a token more is the last
pub end_of_last-push : (start : ℕ) (ms : List Match) (m : Match) → end_of_last start (ms ++ m ∷ []) ≡ m.end
end_of_last-push start [] m = refl
end_of_last-push start (n ∷ ns) m = end_of_last-push n.end ns m

-- the fewest steps, where the list ends at an index, and where this is the end of the range
module _ (asked : Asked) (ms : List Match) (at : ℕ) where
  pub steps_before : end_of_last asked.start ms ≡ asked.start + at → least_steps asked ms ≤ length ms + at + 1
  steps_before last = omega (arith, min-le_left (end_of_last asked.start ms + 1) asked.end, last)

  pub steps_of_all : asked.end ≤ asked.start + at → least_steps asked ms ≤ length ms + at
  steps_of_all past = omega (arith, min-le_right (end_of_last asked.start ms + 1) asked.end, past)
