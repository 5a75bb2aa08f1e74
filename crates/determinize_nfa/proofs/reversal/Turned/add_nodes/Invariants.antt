use Rattle.determinize_nfa.proofs.Common.{drop, turned_over}
use Rattle.determinize_nfa.proofs.reversing.Counts.{IsOver}
use Rattle.determinize_nfa.proofs.reversal.Turned.add_nodes.Given as goal

abbrev pub invariant-loop-id : goal.invariant-loop-id
invariant-loop-id g l = IsOver l.nfa (turned_over l.nfa l.ids) l.self (drop l.id-index l.ids)
