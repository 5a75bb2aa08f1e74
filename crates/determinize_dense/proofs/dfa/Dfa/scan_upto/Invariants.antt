use Rattle.determinize_dense.proofs.Common.{StaysOver, ◌-◌, ◌≤◌}
use Rattle.determinize_dense.proofs.dfa.Dfa.scan_upto.Given as goal

abbrev pub invariant-loop-read : goal.invariant-loop-read
invariant-loop-read g l = record {
  more : l.fn.read ≤ l.read;
  within : l.read ≤ l.until;
  stays : StaysOver l.self.table l.row l.text l.fn.read l.read;
}

abbrev pub decreases-loop-read : goal.decreases-loop-read
decreases-loop-read g l = l.until - l.read
