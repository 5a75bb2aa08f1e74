use Rattle.determinize_linear.proofs.walks.Walked.{cost_most, cost_none, cost_some}
use Rattle.determinize_linear.proofs.dense.WalksMatcher.search_from.Goals as goal

pub walk_from-requires-clause-walkable : goal.walk_from-requires-clause-walkable
walk_from-requires-clause-walkable g c = c.requires.ready.3

pub walk_from-requires-clause-alike : goal.walk_from-requires-clause-alike
walk_from-requires-clause-alike g c = c.requires.ready.2

pub returns-clause-best : goal.returns-clause-best
returns-clause-best g c = λ nfa f.
    (c.walk_from.ensures.found nfa (c.requires.ready.0 nfa f)).preferred c.requires.ready.1

pub returns-clause-order : goal.returns-clause-order
returns-clause-order g c = c.walk_from.ensures.walked.order

pub returns-clause-within : goal.returns-clause-within
returns-clause-within g c = c.walk_from.ensures.walked.within

pub returns-clause-ready : goal.returns-clause-ready
returns-clause-ready g c = λ k l.
    (c.requires.ready.0, c.requires.ready.1, c.requires.ready.2, c.walk_from.ensures.walked.walkable k l)

pub returns-clause-paid : goal.returns-clause-paid
returns-clause-paid g c = cost_some (g.D.Automaton.stored c.args.self.now.dfa.now) c.args.text.now c.args.from
    c.args.self.now.marks c.walk_from.new.marks c.walk_from.result (g.C.Counter.total c.args.counter.now)
    (g.C.Counter.total c.walk_from.new.counter) c.walk_from.ensures.walked

pub returns-clause-unpaid : goal.returns-clause-unpaid
returns-clause-unpaid g c = cost_none (g.D.Automaton.stored c.args.self.now.dfa.now) c.args.text.now c.args.from
    c.args.self.now.marks c.walk_from.new.marks c.walk_from.result (g.C.Counter.total c.args.counter.now)
    (g.C.Counter.total c.walk_from.new.counter) c.walk_from.ensures.walked

pub returns-clause-bounded : goal.returns-clause-bounded
returns-clause-bounded g c = cost_most (g.D.Automaton.stored c.args.self.now.dfa.now) c.args.text.now c.args.from
    c.args.self.now.marks c.walk_from.new.marks c.walk_from.result (g.C.Counter.total c.args.counter.now)
    (g.C.Counter.total c.walk_from.new.counter) c.walk_from.ensures.walked
