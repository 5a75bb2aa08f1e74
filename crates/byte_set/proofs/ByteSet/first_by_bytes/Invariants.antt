use Rattle.byte_set.specs.Sets.{HasNone, is_member}
use Rattle.byte_set.proofs.ByteSet.first_by_bytes.Given as goal

abbrev pub invariant-loop-index : goal.invariant-loop-index
invariant-loop-index l = HasNone (is_member l.self) l.text l.from l.index
