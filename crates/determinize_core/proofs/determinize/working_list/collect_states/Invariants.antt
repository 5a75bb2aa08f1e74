use Rattle.determinize_core.proofs.Common.{distinct, ◌<◌, ◌≡◌}
use Rattle.std.proofs.Common.{All}
use Rattle.determinize_core.proofs.determinize.working_list.collect_states.Given as goal

abbrev pub invariant-loop-id : goal.invariant-loop-id
invariant-loop-id g l = record {
  ids : l.set.ids ≡ distinct l.yielded;
  capacity : l.set.capacity ≡ l.initial.set.capacity;
  left : All (λ id. id < l.initial.set.capacity) l.id-iterator;
}
