-- The slots of a table of start states: one for each kind of start, anchored and unanchored.
use Rattle.std.specs.Prelude.{ℕ, ◌+◌, ◌++◌, Bool, true, false, cond, List, map, Option, slice_get}
use Rattle.determinize_start.specs.StartKinds.{each_start, number_of}
use Rattle.determinize_start.specs.declared.start.Start.{Start as Kind}
use Rattle.determinize_start.specs.declared.start.StartSlot.{StartSlot}
use Rattle.determinize_start.specs.declared.start.TheConstants.Start.{COUNT}

-- the slot of a kind of start
abbrev pub slot_of : Bool → Kind → StartSlot
slot_of anchored kind = record { is_anchored = anchored; kind = kind }

-- all slots, in the order of their numbers
abbrev pub each_slot : List StartSlot
each_slot = map (slot_of true) each_start ++ map (slot_of false) each_start

-- the slot with this number, if there is one
abbrev pub slot_of_number : ℕ → Option StartSlot
slot_of_number n = slice_get each_slot n

-- the number of the slot
abbrev pub slot_number : StartSlot → ℕ
slot_number s = cond s.is_anchored 0 COUNT + number_of s.kind
