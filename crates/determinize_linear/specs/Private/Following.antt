-- What the rows of a DFA list after a position of a text, and marks of pairs after which it is
-- nothing.
use Rattle.std.specs.Prelude.{◌≡◌, ◌+◌, ◌-◌, ◌<◌, ◌≤◌, ℕ, None, Option, drop, length, true}
use Rattle.determinize_below.specs.Semantics.{Text}
use Rattle.determinize_below.specs.declared.search.HalfMatch.{HalfMatch}
use Rattle.determinize_core.specs.Chain.{units}
use Rattle.determinize_core.specs.Walk.{last_listed}
use Rattle.determinize_dense.specs.Automaton.{HasRowsIn}
use Rattle.determinize_dense.specs.Bytes.{Stored}
use Rattle.determinize_dense.specs.Reading.{lists_along}
use Rattle.determinize_dense.specs.Table.{Table}
use Rattle.determinize_linear.specs.Private.RowMarks.{HasBits, RowMarks, count_unset, is_set}

-- the last match that is listed after a position, where a walk is in a row
abbrev pub following : Table → Text → ℕ → ℕ → Option HalfMatch
following d text at row = last_listed at (lists_along d row (drop at (units text)))

-- from a position on, none is listed after a marked pair
abbrev pub NoneFollows : Table → Text → ℕ → RowMarks → Type 0
NoneFollows d text k m = (at row : ℕ) → k ≤ at → at ≤ length text.bytes → row < length d.patterns
    → is_set d m at row ≡ true → following d text at row ≡ None

-- walks by this DFA, with these marks, may go on from a position of a text
pub record IsWalkable (dfa : Stored) (m : RowMarks) (text : Text) (k : ℕ) : Type 0 where
  pub rows : HasRowsIn dfa
  pub bits : HasBits dfa.table (length text.bytes + 1) m
  pub none : NoneFollows dfa.table text k m

-- the pairs of a position of a text and a row that are not marked
abbrev pub unmarked : Table → Text → RowMarks → ℕ
unmarked d text m = count_unset (is_set d m) (length text.bytes + 1) (length d.patterns)

-- the steps that are left: one for each pair that is not marked, and for each position
abbrev pub steps_left : Table → Text → RowMarks → ℕ → ℕ
steps_left d text m k = unmarked d text m + (length text.bytes + 1 - k)
