-- What searches that go on from one another cost, and where they end.
use Rattle.std.specs.Prelude.{◌≤◌, ◌+◌, ◌<◌, ℕ, None, Option, Some}
use Rattle.determinize_below.specs.declared.search.HalfMatch.{HalfMatch}
use Rattle.determinize_below.specs.declared.search.Match.{Match}

-- a search from a position on, which found a match with this end, took at most `extra` tries more
-- than those that were left before and are no longer; at the end itself more may be left
pub record IsPaid (left : ℕ → ℕ) (most left_before from end extra old new : ℕ) : Type 0 where
  pub low : from ≤ end
  pub further : (k : ℕ) → end < k → new + left k ≤ old + extra + left_before
  pub here : new + left end ≤ old + extra + left_before + most

-- where the match ends; where the search began, if there is none
abbrev pub end_of : ℕ → Option HalfMatch → ℕ
end_of k None = k
end_of k (Some m) = m.offset

-- the match in the haystack of a text that starts at an index, where it begins at a position
abbrev pub in_haystack : ℕ → ℕ → HalfMatch → Match
in_haystack base at m = record { pattern = m.pattern; start = base + at; end = base + m.offset }
