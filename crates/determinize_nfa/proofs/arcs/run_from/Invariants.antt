use Rattle.determinize_nfa.proofs.Common.{drop, runs, ◌≡◌, ◌≤◌}
use Rattle.determinize_nfa.proofs.arcs.run_from.Given as goal

abbrev pub invariant-loop-byte : goal.invariant-loop-byte
invariant-loop-byte l = record {
  begun : l.start ≤ l.byte;
  left : runs l.from l.from (drop l.from l.targets) ≡ runs l.start l.byte (drop l.byte l.targets);
}
