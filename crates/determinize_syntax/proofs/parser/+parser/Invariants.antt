use Rattle.determinize_syntax.proofs.Common.{◌*◌, ◌+◌, ◌<◌, ◌≡◌, Bool, Branches, Flags, FromAtom, FromItem}
use Rattle.determinize_syntax.proofs.Common.{FromOperator, IsNotAt, List, Passes, Reads, Repeated, length, map, meaning}
use Rattle.determinize_syntax.proofs.Common.{rest, true}
use Rattle.determinize_syntax.specs.Spells.{Items}
use Rattle.determinize_syntax.proofs.parser.+parser.Given as goal

abbrev pub decreases-choice : goal.decreases-choice
decreases-choice l = 5 * l.levels + 4

abbrev pub decreases-items : goal.decreases-items
decreases-items l = 5 * l.levels + 3

abbrev pub decreases-repeated : goal.decreases-repeated
decreases-repeated l = 5 * l.levels + 2

abbrev pub decreases-atom : goal.decreases-atom
decreases-atom l = 5 * l.levels + 1

abbrev pub decreases-group : goal.decreases-group
decreases-group l = 5 * l.levels

abbrev pub invariant-choice-loop-branches : goal.invariant-choice-loop-branches
invariant-choice-loop-branches l =
    Reads l.fn.cursor l.cursor (Branches l.fn.flags l.flags (map meaning l.branches.items))
    × ((k : List Flags) → FromItem k l.fn.flags (rest l.fn.cursor) → FromItem k l.flags (rest l.cursor))
    × Passes l.fn.context (rest l.fn.cursor) l.depth l.context (rest l.cursor)

abbrev pub decreases-choice-loop-branches : goal.decreases-choice-loop-branches
decreases-choice-loop-branches l = length (rest l.cursor)

abbrev pub invariant-items-loop-cursor : goal.invariant-items-loop-cursor
invariant-items-loop-cursor l =
    Reads l.fn.cursor l.cursor (Items l.fn.flags l.flags (map meaning l.items.items))
    × ((k : List Flags) → FromItem k l.fn.flags (rest l.fn.cursor) → FromItem k l.flags (rest l.cursor))
    × Passes l.fn.context (rest l.fn.cursor) l.depth l.context (rest l.cursor)

abbrev pub decreases-items-loop-cursor : goal.decreases-items-loop-cursor
decreases-items-loop-cursor l = length (rest l.cursor)

abbrev pub invariant-repeated-loop-bounds : goal.invariant-repeated-loop-bounds
invariant-repeated-loop-bounds l =
    Reads l.fn.cursor l.cursor
    (λ t. (e : Bool) × Repeated l.fn.flags e (meaning l.pattern) t × (e ≡ true → IsNotAt 0x3F l.cursor))
    × (length (rest l.cursor) < length (rest l.fn.cursor))
    × ((k : List Flags) → FromAtom k l.fn.flags (rest l.fn.cursor) → (e : Bool)
    × FromOperator k l.fn.flags e (rest l.cursor))
    × Passes l.fn.context (rest l.fn.cursor) l.context.depth l.context (rest l.cursor)

abbrev pub decreases-repeated-loop-bounds : goal.decreases-repeated-loop-bounds
decreases-repeated-loop-bounds l = length (rest l.cursor)
