use Rattle.determinize_syntax.proofs.Common.{◌≡◌, Bytes, Inner, Listing, Reads, char_pairs, knows_cases, length, rest}
use Rattle.determinize_syntax.proofs.Common.{true}
use Rattle.determinize_syntax.specs.Private.Brackets.{IsBegun}
use Rattle.determinize_syntax.proofs.bracket.inside.Given as goal

abbrev pub invariant-loop-alloc : goal.invariant-loop-alloc
invariant-loop-alloc l =
    Reads l.fn.cursor l.cursor (IsBegun l.fn.flags l.items.before (char_pairs l.items.ranges.items) l.cursor)
    × ((u : Bytes) → Inner l.fn.flags u (rest l.fn.cursor) → knows_cases l.fn.flags ≡ true
    → Listing l.fn.flags u l.items.before (rest l.cursor))

abbrev pub decreases-loop-alloc : goal.decreases-loop-alloc
decreases-loop-alloc l = length (rest l.cursor)
