use Rattle.determinize_core.proofs.Common.{AllResolve}
use Rattle.determinize_core.specs.Alike.{AreChanges}
use Rattle.determinize_core.proofs.determinize.changes.changes.Given as goal

abbrev pub invariant-loop-id : goal.invariant-loop-id
invariant-loop-id g l = record {
  changes : AreChanges l.nfa l.yielded l.marks;
  left : AllResolve l.nfa l.id-iterator;
}
