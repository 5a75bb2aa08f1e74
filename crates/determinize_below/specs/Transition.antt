-- Transitions on bytes. A unit is `Some byte`, or `None` for EOI.
use Rattle.std.specs.List.{find}
use Rattle.std.specs.Option.{option_map, option_map_or}
use Rattle.std.specs.Prelude.{ℕ, suc, Bool, true, false, Option, Some, None, List, [], ◌∷◌, nat_le, nat_eq, slice_index, if◌then◌else◌}
use mathlib.Core.Bool.{◌&&◌}
use Rattle.determinize_below.specs.Semantics.{within}
use Rattle.determinize_below.specs.declared.nfa.transitions.Transition.{Transition}

-- whether the transition is on the byte
abbrev pub matches : Transition → ℕ → Bool
matches t byte = within t.start t.end byte

-- whether the transition is on the unit
abbrev pub matches_unit : Transition → Option ℕ → Bool
matches_unit t u = option_map_or (matches t) u false

-- the target of the first range that contains the byte
abbrev pub sparse_target : List Transition → ℕ → Option ℕ
sparse_target ts byte = option_map (λ t. t.next) (find (λ t. within t.start t.end byte) ts)

-- the target at the byte, where 0 means no transition
abbrev pub dense_target : List ℕ → ℕ → Option ℕ
dense_target ids byte =
    if nat_eq (slice_index ids byte) 0 then None else Some (slice_index ids byte)

-- each range begins above the end of the previous one, the first at `low` or above, and none is
-- empty
abbrev pub ascends_from : ℕ → List Transition → Bool
ascends_from low [] = true
ascends_from low (t ∷ ts) =
    nat_le low t.start && nat_le t.start t.end && ascends_from (suc t.end) ts

-- the ranges are sorted, do not overlap, and none is empty
abbrev pub is_ascending : List Transition → Bool
is_ascending ts = ascends_from 0 ts
