use Rattle.determinize_dense.proofs.Common.{AreStarts, Stays, ◌-◌, ◌≡◌, ◌≤◌}
use Rattle.determinize_start.specs.declared.start.TheConstants.StartSlot.{COUNT}
use Rattle.determinize_dense.proofs.build.Builder.starts.Given as goal

abbrev pub invariant-loop-slot : goal.invariant-loop-slot
invariant-loop-slot g l = record {
  stays : Stays l.fn.self l.self;
  next : l.self.next ≡ l.fn.self.next;
  starts : AreStarts l.fn.self.nfa l.self.values l.number l.starts;
  below : l.number ≤ COUNT;
}

abbrev pub decreases-loop-slot : goal.decreases-loop-slot
decreases-loop-slot g l = COUNT - l.number
