-- How far a search of a text has come, and what it finds.
use Rattle.std.specs.Option.{option_or}
use Rattle.std.specs.Prelude.{◌≡◌, ◌+◌, ◌/◌, ◌<◌, ◌≤◌, ℕ, Bool, drop, false, is_some, length, Option, Some}
use Rattle.std.specs.Prelude.{slice_get, true}
use Rattle.determinize_below.specs.Semantics.{Text}
use Rattle.determinize_below.specs.declared.search.HalfMatch.{HalfMatch}
use Rattle.determinize_below.specs.Truth.{IsUnit}
use Rattle.determinize_core.specs.Chain.{chain, units}
use Rattle.determinize_core.specs.LastMatch.{ended_at, last_match}
use Rattle.determinize_core.specs.Walk.{last_listed}
use Rattle.determinize_dense.specs.Dfa.{start_in}
use Rattle.determinize_dense.specs.declared.search.Reached.{Reached}
use Rattle.determinize_dense.specs.Private.Rows.{IsNext, IsOffset, offset_of}
use Rattle.determinize_dense.specs.Reading.{lists_along}
use Rattle.determinize_dense.specs.Table.{DfaValue, Table, patterns_at}
use Rattle.determinize_below.specs.Nfa.{IsAccepted}

-- the last match of the walk over the text; if any match will do, whether there is one
pub record IsFound (dfa : DfaValue) (earliest anchored : Bool) (text : Text)
    (found : Option HalfMatch) : Type 0 where
  pub accepted : IsAccepted dfa.nfa
  pub last : earliest ≡ false → found
      ≡ last_match (chain dfa.nfa dfa.kind (start_in dfa.nfa anchored) text)
  pub some : is_some found ≡ is_some
      (last_match (chain dfa.nfa dfa.kind (start_in dfa.nfa anchored) text))

-- the match of the row at an offset, for a match that ends here
abbrev pub IsMatch : Table → ℕ → ℕ → Option HalfMatch → Type 0
IsMatch d row end found = (r : ℕ) → r < length d.patterns → row ≡ offset_of d r
    → found ≡ ended_at end (patterns_at d r)

-- the unit at an index of a text leads from the row at an offset to that at the next offset
pub record IsRead (d : Table) (text : Text) (index row next : ℕ) : Type 0 where
  pub unit : Option ℕ
  pub at : slice_get (units text) index ≡ Some unit
  pub is_unit : IsUnit unit
  pub goes : IsNext d row unit next

-- the row at an offset does not change over the bytes of a text from one index up to another
abbrev pub StaysOver : Table → ℕ → Text → ℕ → ℕ → Type 0
StaysOver d row text from to = (i : ℕ) → from ≤ i → i < to → IsRead d text i row row

-- a scan in the row at an offset, over bytes that do not leave the row, comes this far
pub record IsScan (d : Table) (row : ℕ) (text : Text) (from until to : ℕ) : Type 0 where
  pub stays : StaysOver d row text from to
  pub more : from ≤ to
  pub within : to ≤ until

-- the number of the row at an offset
abbrev pub row_at : Table → ℕ → ℕ
row_at d offset = offset / (d.class_count + 1)

-- the match of the last row that listed patterns, if some row did
abbrev pub match_so_far : Table → Reached → Option HalfMatch
match_so_far d r = ended_at r.offset (patterns_at d (row_at d r.matched))

-- what a search finds that has come this far: the match of the last row that lists patterns, of
-- those along the units that are left, or else the match so far
abbrev pub found_from : Table → Text → Reached → Option HalfMatch
found_from d text r = option_or (last_listed r.read
    (lists_along d (row_at d r.row) (drop r.read (units text)))) (match_so_far d r)

-- there is a match so far, if some row listed patterns
abbrev pub HasMatched : Table → Reached → Type 0
HasMatched d r = (r.matched ≡ 0 → ⊥) → is_some (match_so_far d r) ≡ true

-- this is found by a search that has come this far; if any match will do, whether there is one
pub record FindsFrom (dfa : DfaValue) (earliest : Bool) (text : Text) (from : Reached)
    (found : Option HalfMatch) : Type 0 where
  pub last : earliest ≡ false → found ≡ found_from dfa.table text from
  pub some : HasMatched dfa.table from → is_some found ≡ is_some (found_from dfa.table text from)

-- a search that had come from there has now come this far
pub record HasCome (dfa : DfaValue) (text : Text) (from now : Reached) : Type 0 where
  pub at : IsOffset dfa.table now.row
  pub listing : IsOffset dfa.table now.matched
  pub same : found_from dfa.table text now ≡ found_from dfa.table text from
  pub matched : HasMatched dfa.table from → HasMatched dfa.table now

-- a search that had come from there has now come this far, and has read up to an index at most
pub record HasReadUpTo (dfa : DfaValue) (text : Text) (from : Reached) (until : ℕ)
    (now : Reached) : Type 0 where
  pub come : HasCome dfa text from now
  pub more : from.read ≤ now.read
  pub within : now.read ≤ until
