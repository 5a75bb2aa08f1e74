use Rattle.determinize_below.proofs.Common.{arith, length-map, map, node_of}
use Rattle.determinize_below.proofs.nfas.Failures.{few_states}
use Rattle.determinize_below.proofs.nfa.NFA.len.Goals as goal

pub returns-clause-limit : goal.returns-clause-limit
returns-clause-limit g c =
    let nfa = c.self.inside in
    let few =
    few_states (map node_of nfa.states.items) nfa.start_anchored nfa.start_unanchored c.self.invariant.passes in
    omega (arith, few, length-map nfa.states.items node_of, nfa.states.ok, c.len.ensures)

pub returns-clause-count : goal.returns-clause-count
returns-clause-count g c =
    let nfa = c.self.inside in
    rw (← c.self.view_is) (omega (arith, length-map nfa.states.items node_of, nfa.states.ok, c.len.ensures))
