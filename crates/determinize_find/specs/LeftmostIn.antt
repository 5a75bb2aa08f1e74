-- The leftmost match of an input.
use Rattle.std.specs.Prelude.{◌≡◌, ◌+◌, ◌-◌, ◌≤◌, ℕ, Bool, Option, None, cond, false, nat_eq, option_map, true}
use Rattle.determinize_below.specs.Semantics.{Nfa}
use Rattle.determinize_below.specs.Search.{Asked, is_done}
use Rattle.determinize_below.specs.declared.search.Anchored.{Anchored}
use Rattle.determinize_below.specs.declared.search.Anchored.TheVariants.{No, Pattern, Yes}
use Rattle.determinize_below.specs.declared.search.Match.{Match}
use Rattle.determinize_engine.specs.Searches.{text_of}
use Rattle.determinize_nfa.specs.Leftmost.{IsLeftmost}

-- a match in a text, as a match in the haystack where the text starts at an index
abbrev pub moved : ℕ → Match → Match
moved start m = record m { start = start + m.start; end = start + m.end }

-- whether a match may begin only where the search starts
abbrev pub is_anchored : Nfa → Anchored → Bool
is_anchored nfa No = nat_eq nfa.start_unanchored nfa.start_anchored
is_anchored nfa Yes = true
is_anchored nfa (Pattern pattern) = true

-- the match is in the range of an input
abbrev pub IsWithin : Asked → Match → Type 0
IsWithin asked m = (asked.start ≤ m.start) × (m.start ≤ m.end) × (m.end ≤ asked.end)

-- the last position of the range at which a match may begin
abbrev pub latest : Nfa → Asked → ℕ
latest nfa asked = cond (is_anchored nfa asked.anchored) 0 (asked.end - asked.start)

-- the leftmost match of an input, in the haystack; `None` if the range starts past its end
pub record IsLeftmostIn (nfa : Nfa) (asked : Asked) (answer : Option Match) : Type 0 where
  pub done : is_done asked ≡ true → answer ≡ None
  pub found : is_done asked ≡ false
      → (m : Option Match) × IsLeftmost nfa (text_of false asked) (latest nfa asked) m
      × (answer ≡ option_map (moved asked.start) m)
