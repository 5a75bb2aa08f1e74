use Rattle.std.proofs.Common.{◌≡◌, false, take}
use Rattle.std.specs.List.{list_any}
use Rattle.determinize_below.specs.Semantics.{within}
use Rattle.determinize_pattern.specs.declared.class.ClassBytesRange.{ClassBytesRange}
use Rattle.determinize_pattern.proofs.class.is_in_some.Given as goal

abbrev pub invariant-loop-range : goal.invariant-loop-range
invariant-loop-range l =
    list_any (λ (r : ClassBytesRange). within r.start r.end l.byte) (take l.range-index l.ranges) ≡ false
