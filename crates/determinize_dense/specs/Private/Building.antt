-- A table that is being built: the values found so far, and the entries of their rows.
use Rattle.std.specs.Prelude.{◌≡◌, ◌<◌, ◌≤◌, ◌+◌, ◌++◌, ◌*◌, ◌/◌, ◌%◌, ℕ, Bool, cond, Option, Some, None}
use Rattle.std.specs.Prelude.{List, length, nat_lt}
use Rattle.std.specs.Prelude.{slice_get, slice_index}
use Rattle.determinize_below.specs.ByteClasses.{AreClasses, AreClassesOf, Classes, first_of}
use Rattle.determinize_below.specs.Nfa.{AllResolve, IsAccepted}
use Rattle.determinize_below.specs.Semantics.{Nfa}
use Rattle.determinize_below.specs.Truth.{IsUnit}
use Rattle.determinize_below.specs.declared.search.MatchKind.{MatchKind}
use Rattle.determinize_engine.specs.States.{EachApart}
use Rattle.determinize_engine.specs.declared.state_table.TheConstants.{MAX_STATES}
use Rattle.determinize_core.specs.Alike.{AreChanges}
use Rattle.determinize_core.specs.Step.{start_value, step}
use Rattle.determinize_core.specs.Value.{Value, dead}
use Rattle.determinize_dense.specs.Dfa.{HasStates, IsReachedValue, start_in}
use Rattle.determinize_dense.specs.Table.{DfaValue}
use Rattle.determinize_start.specs.StartKinds.{start_kind_of}
use Rattle.determinize_start.specs.StartSlots.{slot_number}
use Rattle.determinize_start.specs.declared.start.StartSlot.{StartSlot}
use Rattle.determinize_start.specs.declared.start.TheConstants.StartSlot.{COUNT}

pub record Building : Type 0 where
  pub nfa : Nfa
  pub kind : MatchKind
  pub classes : Classes
  pub limit : ℕ
  pub values : List Value
  pub next : List ℕ

-- the value of a builder of these parts
abbrev pub building : Nfa → MatchKind → Classes → ℕ → List Value → List ℕ → Building
building nfa kind classes limit values next = record {
  nfa = nfa;
  kind = kind;
  classes = classes;
  limit = limit;
  values = values;
  next = next;
}

-- the number of columns
abbrev pub columns_of : Classes → ℕ
columns_of p = length p.firsts + 1

-- the unit for which a column is computed: the least byte of its class, or the end of input
abbrev pub unit_at : Classes → ℕ → Option ℕ
unit_at p c = cond (nat_lt c (length p.firsts)) (Some (first_of p c)) None

-- row r has the value after that of a row, over the unit of a column
abbrev pub IsNextRow : Building → ℕ → ℕ → ℕ → Type 0
IsNextRow b row column r = (v : Value) × (slice_get b.values row ≡ Some v)
    × (slice_get b.values r ≡ Some (step b.nfa b.kind v (unit_at b.classes column)))

-- an entry is the row after its row, over the unit of its column
abbrev pub IsEntry : Building → ℕ → ℕ → Type 0
IsEntry b e r = IsNextRow b (e / columns_of b.classes) (e % columns_of b.classes) r

-- the marks are those of the value of a row
abbrev pub HasChanges : Building → ℕ → List Bool → Type 0
HasChanges b row marks = (v : Value) → slice_get b.values row ≡ Some v
    → AreChanges b.nfa v.states marks

-- the value of a row has these NFA states, and they test no assertion
abbrev pub HasIds : Building → ℕ → List ℕ → Type 0
HasIds b row ids = (v : Value) → slice_get b.values row ≡ Some v
    → (v.look_need ≡ 0) × (v.states ≡ ids)

-- the value of a row has the NFA states of that of an earlier row, its base, behind further ones,
-- and they test no assertion
pub record IsBase (b : Building) (row base : ℕ) (further : List ℕ) : Type 0 where
  pub before : base < row
  pub ids : List ℕ
  pub of_base : HasIds b base ids
  pub of_row : HasIds b row (further ++ ids)

-- the values are reached and apart, the first of them is the dead one, and the entries so far are
-- right
pub record IsBuilding (b : Building) : Type 0 where
  pub accepted : IsAccepted b.nfa
  pub classes : AreClassesOf b.nfa b.classes
  pub sound : AreClasses b.classes
  pub apart : EachApart b.values
  pub first : slice_get b.values 0 ≡ Some dead
  pub reached : (i : ℕ) (v : Value) → slice_get b.values i ≡ Some v → IsReachedValue b.nfa b.kind v
  pub resolve : (i : ℕ) (v : Value) → slice_get b.values i ≡ Some v → AllResolve b.nfa v.states
  pub entries : (e r : ℕ) → slice_get b.next e ≡ Some r → IsEntry b e r
  pub within : length b.next ≤ length b.values * columns_of b.classes
  pub few : length b.values ≤ b.limit
  pub limit : b.limit ≤ MAX_STATES

-- what a call leaves: each value that was found stays at its place
pub record Stays (old new : Building) : Type 0 where
  pub nfa : new.nfa ≡ old.nfa
  pub kind : new.kind ≡ old.kind
  pub classes : new.classes ≡ old.classes
  pub limit : new.limit ≡ old.limit
  pub longer : length old.values ≤ length new.values
  pub values : (i : ℕ) (v : Value) → slice_get old.values i ≡ Some v → slice_get new.values i
      ≡ Some v

-- this is the row of the start of a slot, for any byte of its kind before it
abbrev pub IsStart : Nfa → List Value → StartSlot → ℕ → Type 0
IsStart nfa values slot r = (p : Option ℕ) → IsUnit p → start_kind_of nfa.terminator p ≡ slot.kind
    → slice_get values r ≡ Some (start_value nfa (start_in nfa slot.is_anchored) p)

-- these are the rows of the starts of the first n slots
pub record AreStarts (nfa : Nfa) (values : List Value) (n : ℕ) (starts : List ℕ) : Type 0 where
  pub count : length starts ≡ COUNT
  pub within : (i : ℕ) → i < n → slice_index starts i < length values
  pub rows : (slot : StartSlot) → slot_number slot < n
      → IsStart nfa values slot (slice_index starts (slot_number slot))

-- of the NFA and the kind of the builder, with a row for each state that is reached, at most its
-- limit
pub record IsBuilt (b : Building) (rows : DfaValue) : Type 0 where
  pub nfa : rows.nfa ≡ b.nfa
  pub kind : rows.kind ≡ b.kind
  pub states : HasStates b.nfa b.kind (length rows.table.patterns)
  pub few : length rows.table.patterns ≤ b.limit
