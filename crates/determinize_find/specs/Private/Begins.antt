-- The start of a leftmost match that has a given end.
use Rattle.std.specs.Prelude.{◌≡◌, ◌≤◌, ℕ, List, Some, length}
use Rattle.determinize_below.specs.Semantics.{Nfa}
use Rattle.determinize_below.specs.Search.{Asked}
use Rattle.determinize_below.specs.declared.search.Match.{Match}
use Rattle.determinize_find.specs.LeftmostIn.{IsLeftmostIn}

-- the match is the leftmost one of some range that starts at this index, and has this end
pub record IsEnded (nfa : Nfa) (haystack : List ℕ) (start end : ℕ) (asked : Asked) (m : Match)
    : Type 0 where
  pub same : asked.haystack ≡ haystack
  pub starts : asked.start ≡ start
  pub within : asked.end ≤ length haystack
  pub leftmost : IsLeftmostIn nfa asked (Some m)
  pub ends : m.end ≡ end

-- each leftmost match that has this end begins here
abbrev pub IsBeginOf : Nfa → List ℕ → ℕ → ℕ → ℕ → Type 0
IsBeginOf nfa haystack start end begin =
    (asked : Asked) (m : Match) → IsEnded nfa haystack start end asked m → m.start ≡ begin
