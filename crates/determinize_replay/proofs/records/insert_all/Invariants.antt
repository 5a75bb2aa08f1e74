use Rattle.std.proofs.Common.{◌≡◌}
use Rattle.determinize_replay.proofs.records.insert_all.Given as goal

abbrev pub invariant-loop-word : goal.invariant-loop-word
invariant-loop-word g l = l.set.capacity ≡ l.fn.set.capacity
