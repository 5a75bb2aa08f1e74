use Rattle.determinize_nfa.proofs.runs.Shifts.{each_run_reads_forward, each_run_moves}
use Rattle.determinize_nfa.proofs.laws.shift_law.Goals as goal

pub returns-clause-moves : goal.returns-clause-moves
returns-clause-moves c = each_run_moves

pub returns-clause-forward : goal.returns-clause-forward
returns-clause-forward c = each_run_reads_forward
