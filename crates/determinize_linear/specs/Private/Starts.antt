-- Where anchored walks over a text begin.
use Rattle.std.specs.Prelude.{◌≡◌, ℕ, None, true}
use Rattle.determinize_below.specs.Semantics.{Text, before_at}
use Rattle.determinize_below.specs.Truth.{IsUnit}
use Rattle.determinize_dense.specs.Automaton.{first_row}
use Rattle.determinize_dense.specs.Bytes.{Stored}

-- from each position of a text they begin in the row where they begin with no byte before
pub record BeginAlike (dfa : Stored) (text : Text) : Type 0 where
  pub row : (k : ℕ) → first_row dfa true (before_at text k) ≡ first_row dfa true None
  pub unit : (k : ℕ) → IsUnit (before_at text k)
