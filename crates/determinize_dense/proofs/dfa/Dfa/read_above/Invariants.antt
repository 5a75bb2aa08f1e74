use Rattle.determinize_dense.proofs.Common.{HasCome, HasReadUpTo, ◌+◌, ◌-◌, ◌≡◌}
use Rattle.determinize_dense.proofs.dfa.Dfa.read_above.Given as goal

-- the bytes that are read with one comparison of the index
abbrev pub invariant-loop : goal.invariant-loop
invariant-loop g l = record {
  come : HasCome l.self l.text l.fn.from l.at;
  read : l.at.read ≡ l.initial.at.read + l.counter;
}

abbrev pub invariant-loop-at : goal.invariant-loop-at
invariant-loop-at g l = HasReadUpTo l.self l.text l.fn.from l.until l.at

abbrev pub decreases-loop-at : goal.decreases-loop-at
decreases-loop-at g l = l.until - l.at.read

abbrev pub invariant-loop-at-2 : goal.invariant-loop-at-2
invariant-loop-at-2 g l = HasReadUpTo l.self l.text l.fn.from l.until l.at

abbrev pub decreases-loop-at-2 : goal.decreases-loop-at-2
decreases-loop-at-2 g l = l.until - l.at.read
