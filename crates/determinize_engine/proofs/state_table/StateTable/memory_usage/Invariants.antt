use Rattle.determinize_core.proofs.Common.{length, take, ◌+◌, ◌≡◌}
use Rattle.std.below.core.specs.declared.int.usize.TheConstants.{MAX}
use Rattle.std.specs.Prelude.{min, sum_by, ◌*◌}
use Rattle.determinize_engine.specs.StateBytes.{heap_bytes}
use Rattle.determinize_engine.proofs.state_table.StateTable.memory_usage.Given as goal

abbrev pub invariant-loop-state : goal.invariant-loop-state
invariant-loop-state g l = l.bytes ≡ min (length l.fn.self * 72
    + sum_by (λ v. heap_bytes v * 2) (take l.state-index l.fn.self)) MAX
