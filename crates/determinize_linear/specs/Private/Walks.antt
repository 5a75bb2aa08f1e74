-- How far a walk by a DFA has come.
use Rattle.std.specs.Prelude.{◌≡◌, ◌+◌, ◌-◌, ◌<◌, ◌≤◌, ◌⊎◌, ℕ, Bool, None, Option, Some, length, true}
use Rattle.std.specs.Option.{IfSome, option_or}
use Rattle.determinize_below.specs.Semantics.{Text}
use Rattle.determinize_below.specs.declared.search.HalfMatch.{HalfMatch}
use Rattle.determinize_core.specs.LastMatch.{ended_at}
use Rattle.determinize_dense.specs.Bytes.{Stored}
use Rattle.determinize_dense.specs.Table.{Table, patterns_at, row_over}
use Rattle.determinize_linear.specs.Private.Following.{IsWalkable, following, unmarked}
use Rattle.determinize_linear.specs.Private.Paid.{end_of}
use Rattle.determinize_linear.specs.Private.RowMarks.{RowMarks, is_set}
use Rattle.determinize_state.specs.Value.{is_nonempty}

-- where a walk is: a row and a position, and the last match that its rows have listed
pub record WalkValue : Type 0 where
  pub dfa : Stored
  pub row : ℕ
  pub at : ℕ
  pub found : Option HalfMatch

-- a step over a unit, and whether the next row lists a match
pub record HasStepped (old : WalkValue) (u : Option ℕ) (new : WalkValue) (is_match : Bool)
    : Type 0 where
  pub dfa : new.dfa ≡ old.dfa
  pub row : new.row ≡ row_over old.dfa.table old.row u
  pub at : new.at ≡ old.at + 1
  pub found : new.found ≡ option_or (ended_at old.at (patterns_at old.dfa.table new.row)) old.found
  pub lists : is_match ≡ is_nonempty (patterns_at old.dfa.table new.row)

-- a walk from a position that is in a row at another, with its marks and the match so far: what
-- follows a marked pair after that match is nothing, or what follows the pair where it is
pub record IsFollowed (d : Table) (text : Text) (m : RowMarks) (from at row : ℕ)
    (found all : Option HalfMatch) : Type 0 where
  pub so_far : option_or (following d text at row) found ≡ all
  pub low : end_of from found ≤ at
  pub order : from ≤ end_of from found
  pub spent : (p r : ℕ) → end_of from found ≤ p → p ≤ length text.bytes → r < length d.patterns
      → is_set d m p r ≡ true
      → (following d text p r ≡ None)
      ⊎ ((p < at) × (following d text p r ≡ following d text at row))

-- the number of positions up to the match so far
abbrev pub matched : ℕ → Option HalfMatch → ℕ
matched from None = 0
matched from (Some m) = m.offset + 1 - from

-- a walk that began where `first` is, with the marks at its start and now and the most steps that
-- were counted: each finds a match at one of the positions up to the last match, or it marks a
-- pair, or it is one of `more` that do neither
pub record IsWalked (text : Text) (first : WalkValue) (old m : RowMarks) (now : WalkValue)
    (more : ℕ) (before total : ℕ) : Type 0 where
  pub dfa : now.dfa ≡ first.dfa
  pub followed : IsFollowed first.dfa.table text m first.at now.at now.row now.found
      (following first.dfa.table text first.at first.row)
  pub below : now.row < length first.dfa.table.patterns
  pub passed : first.at + matched first.at now.found ≤ now.at
  pub within : IfSome now.found (λ f. f.offset ≤ length text.bytes)
  pub span : m.span ≡ old.span
  pub words : length m.words ≡ length old.words
  pub cost : total + unmarked first.dfa.table text m
      ≤ before + unmarked first.dfa.table text old + matched first.at now.found + more

-- the walk from a position found this match, and left these marks; two of its steps found none and
-- marked no pair
pub record HasWalked (dfa : Stored) (text : Text) (from : ℕ) (old m : RowMarks)
    (found : Option HalfMatch) (before total : ℕ) : Type 0 where
  pub order : from ≤ end_of from found
  pub within : IfSome found (λ f. f.offset ≤ length text.bytes)
  pub walkable : (k : ℕ) → end_of from found ≤ k → IsWalkable dfa m text k
  pub cost : total + unmarked dfa.table text m
      ≤ before + unmarked dfa.table text old + matched from found + 2
