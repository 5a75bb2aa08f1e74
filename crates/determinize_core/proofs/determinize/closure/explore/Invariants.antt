use Rattle.determinize_core.proofs.Common.{AllResolve, has, tries_left, ◌++◌, ◌≡◌, ◌⊎◌}
use Rattle.std.proofs.Common.{reverse}
use Rattle.determinize_core.proofs.closure.ClosureSteps.{IsSoFar}
use Rattle.determinize_core.proofs.determinize.closure.explore.Given as goal

abbrev pub invariant-loop-id : goal.invariant-loop-id
invariant-loop-id g l = record {
  so_far : IsSoFar l.nfa (has l.look_have) (g.W.Recorder.with_one l.nfa) g.C.Counter.counts l.initial.set.ids
      (l.fn.first ++ l.fn.stack.items) l.initial.recorder (g.C.Counter.total l.initial.counter) l.set.ids
      (l.current ++ reverse l.stack.items) l.recorder (g.C.Counter.total l.counter);
  capacity : l.set.capacity ≡ l.initial.set.capacity;
  resolve : (l.fn.first ++ l.fn.stack.items ≡ l.current ++ reverse l.stack.items) ⊎ AllResolve l.nfa l.set.ids;
}

abbrev pub decreases-loop-id : goal.decreases-loop-id
decreases-loop-id g l = tries_left l.nfa (has l.look_have) l.set.ids (l.current ++ reverse l.stack.items)
