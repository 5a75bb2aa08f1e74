-- What the rows of a DFA list where a text ends, in words of runs.
use Rattle.std.specs.Prelude.{◌≡◌, ◌<◌, ℕ, All, Bool, List, length}
use Rattle.determinize_below.specs.Nfa.{IsAccepted}
use Rattle.determinize_below.specs.Semantics.{Nfa, Text}
use Rattle.determinize_below.specs.Truth.{IsUnit}
use Rattle.determinize_below.specs.declared.search.MatchKind.{MatchKind}
use Rattle.determinize_below.specs.declared.search.MatchKind.TheVariants as kinds
use Rattle.determinize_core.specs.Chain.{units}
use Rattle.determinize_core.specs.Walk.{ListsAccepted}
use Rattle.determinize_dense.specs.Dfa.{IsDfaOf, start_in}
use Rattle.determinize_dense.specs.Table.{Table, patterns_at, row_after, start_row}
use Rattle.determinize_engine.specs.Lists.{ListsPreferred}

-- the patterns that the row after a start and the units of a text lists
abbrev pub list_after : Nfa → Table → Bool → Text → List ℕ
list_after nfa d anchored text =
    patterns_at d (row_after d (start_row nfa d anchored text.behind) (units text))

-- after the units of each text, the row lists what matches where the text ends: under `All` by all
-- runs, and under `LeftmostFirst` by the most preferred of all accepting runs
abbrev pub EachTextIsListed : Type 0
EachTextIsListed = (nfa : Nfa) (kind : MatchKind) (d : Table) → IsAccepted nfa → IsDfaOf nfa kind d
    → (anchored : Bool) (text : Text) → IsUnit text.behind → All (λ byte. byte < 256) text.bytes
    → IsUnit text.ahead
    → (kind ≡ kinds.All → ListsAccepted nfa text (start_in nfa anchored) (length text.bytes)
    (list_after nfa d anchored text))
    × (kind ≡ kinds.LeftmostFirst → ListsPreferred nfa text (start_in nfa anchored)
    (length text.bytes) (list_after nfa d anchored text))
