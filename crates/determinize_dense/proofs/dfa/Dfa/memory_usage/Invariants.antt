use Rattle.determinize_dense.proofs.Common.{length, min, sum_by, take, ◌*◌, ◌+◌, ◌≡◌}
use Rattle.std.below.core.specs.declared.int.usize.TheConstants.{MAX}
use Rattle.determinize_dense.proofs.dfa.Dfa.memory_usage.Given as goal

abbrev pub invariant-loop-list : goal.invariant-loop-list
invariant-loop-list g l = l.bytes ≡ min (length l.fn.self.table.patterns * (l.fn.self.table.class_count + 1) * 4
    + sum_by (λ list. 24 + length list * 4) (take l.list-index l.fn.self.table.patterns)) MAX
