-- What a search by a table finds.
use Rattle.std.specs.Prelude.{◌≡◌, ◌<◌, ◌+◌, [], All, Bool, cond, None, Option, option_map}
use Rattle.std.specs.Prelude.{take, true}
use Rattle.determinize_below.specs.Nfa.{IsAccepted}
use Rattle.determinize_below.specs.Search.{Asked, is_anchored, is_done}
use Rattle.determinize_below.specs.Semantics.{Nfa, Text}
use Rattle.determinize_below.specs.declared.search.HalfMatch.{HalfMatch}
use Rattle.determinize_core.specs.Chain.{units}
use Rattle.determinize_core.specs.Walk.{last_listed}
use Rattle.determinize_engine.specs.Searches.{has_start, in_haystack, last_in, text_of}
use Rattle.determinize_dense.specs.Automaton.{IsStoredOf, first_row}
use Rattle.determinize_dense.specs.Bytes.{Stored}
use Rattle.determinize_dense.specs.Reading.{lists_along}
use Rattle.determinize_dense.specs.Table.{Table, patterns_at}

-- the first pattern of the last row along a text that lists one, and the number of bytes before
-- the unit over which the row is entered
abbrev pub last_along : Stored → Bool → Text → Option HalfMatch
last_along s anchored text =
    last_listed 0 (lists_along s.table (first_row s anchored text.behind) (units text))

-- that of the text of an input, in the haystack
abbrev pub last_found : Stored → Asked → Option HalfMatch
last_found s asked = cond (is_done asked) None (option_map (in_haystack s.reverse asked)
    (last_along s (is_anchored asked.anchored) (text_of s.reverse asked)))

-- row 0 lists no pattern, and row 0 follows it in each column
pub record HasDeadRow (d : Table) : Type 0 where
  pub lists : patterns_at d 0 ≡ []
  pub stays : All (λ r. r ≡ 0) (take (d.class_count + 1) d.next)

-- a search of what is stored of a DFA finds the last match of the walk
abbrev pub FindsAll : Type 0
FindsAll = (nfa : Nfa) (s : Stored) (asked : Asked) → IsAccepted nfa → IsStoredOf nfa s
    → has_start asked.anchored ≡ true → All (λ byte. byte < 256) asked.haystack
    → last_found s asked ≡ last_in nfa s.kind asked
