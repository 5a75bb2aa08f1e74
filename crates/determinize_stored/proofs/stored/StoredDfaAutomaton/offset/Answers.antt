use Rattle.determinize_core.proofs.Common.{arith, ◌+◌}
use Rattle.std.proofs.Common.{◌^◌}
use Rattle.std.proofs.lemmas.Nat.{mul-add-lt}
use Rattle.determinize_stored.proofs.stored.StoredDfaAutomaton.offset.Goals as goal

pub overflow_mul-result : goal.overflow_mul-result
overflow_mul-result c = rw c.as_usize.ensures (omega (
  arith,
  mul-add-lt c.args.row (c.self.inside.head.class_count + 1) 0 (2 ^ 32) c.requires (omega arith),
  c.self.invariant.whole.few_classes,
))
