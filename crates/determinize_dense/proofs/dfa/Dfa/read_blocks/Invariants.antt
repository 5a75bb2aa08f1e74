use Rattle.determinize_dense.proofs.Common.{HasReadUpTo, length, ◌-◌}
use Rattle.determinize_dense.proofs.dfa.Dfa.read_blocks.Given as goal

abbrev pub invariant-loop-left : goal.invariant-loop-left
invariant-loop-left g l = HasReadUpTo l.self l.text l.fn.from (length l.text.bytes) l.at

abbrev pub decreases-loop-left : goal.decreases-loop-left
decreases-loop-left g l = length l.text.bytes - l.at.read
