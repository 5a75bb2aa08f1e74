use Rattle.determinize_dense.proofs.Common.{HasCome, length, ◌-◌, ◌≤◌}
use Rattle.determinize_dense.proofs.dfa.Dfa.search_rest.Given as goal

abbrev pub invariant-loop-at : goal.invariant-loop-at
invariant-loop-at g l = record {
  come : HasCome l.self l.text l.fn.from l.at;
  within : l.at.read ≤ length l.text.bytes;
}

abbrev pub decreases-loop-at : goal.decreases-loop-at
decreases-loop-at g l = length l.text.bytes - l.at.read
