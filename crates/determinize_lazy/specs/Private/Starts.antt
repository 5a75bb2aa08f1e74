-- The cached start states of searches: by the start state of the NFA and the kind of start.
use Rattle.std.specs.Prelude.{◌≡◌, ℕ, false, true, cond, Option, Some, None, nat_eq, slice_get}
use Rattle.std.specs.Prelude.{slice_index_or}
use Rattle.determinize_below.specs.Semantics.{Nfa}
use Rattle.determinize_core.specs.Step.{start_value}
use Rattle.determinize_start.specs.StartKinds.{start_kind_of}
use Rattle.determinize_start.specs.StartSlots.{slot_number, slot_of}
use Rattle.determinize_start.specs.declared.start.StartSlot.{StartSlot}
use Rattle.determinize_table.specs.Rows.{StoredTable}

-- the slot in which a start is kept, if the NFA state is the anchored or the unanchored start
abbrev pub start_slot : Nfa → ℕ → Option ℕ → Option StartSlot
start_slot nfa start p =
    cond (nat_eq start nfa.start_anchored)
    (Some (slot_of true (start_kind_of nfa.terminator p)))
    (cond (nat_eq start nfa.start_unanchored)
    (Some (slot_of false (start_kind_of nfa.terminator p))) None)

-- each kept start is the index of the start state of each start that is kept there
abbrev pub AreStarts : Nfa → StoredTable → Type 0
AreStarts nfa stored = (start : ℕ) (p : Option ℕ) (slot : StartSlot) (index : ℕ)
    → start_slot nfa start p ≡ Some slot
    → slice_index_or stored.starts (slot_number slot) None ≡ Some index
    → slice_get stored.states index ≡ Some (start_value nfa start p)
