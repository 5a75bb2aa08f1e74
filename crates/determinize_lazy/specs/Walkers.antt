-- A walk by steps.
use Rattle.std.specs.Prelude.{◌≡◌, ℕ, Some, slice_get}
use Rattle.determinize_below.specs.Semantics.{Nfa, Text}
use Rattle.determinize_below.specs.declared.search.MatchKind.{MatchKind}
use Rattle.determinize_core.specs.Chain.{chain}
use Rattle.determinize_core.specs.Value.{Value}

-- the value at this index of the walk from an NFA state over a text
abbrev pub IsWalkedTo : Nfa → MatchKind → ℕ → Text → ℕ → Value → Type 0
IsWalkedTo nfa kind start text index v = slice_get (chain nfa kind start text) index ≡ Some v
