use Rattle.determinize_lazy.proofs.{IfOk-weaker, known-start}
use Rattle.determinize_lazy.proofs.lazy.LazyDfa.start_state.Goals as goal

pub returns-clause-known : goal.returns-clause-known
returns-clause-known g c = rw (← c.self.view_is) (IfOk-weaker c.start.result _ _
    (λ state is. rw is (known-start _ c.self.invariant.sound.accepted _ c.args.look_behind
    (rw (← c.self.view_is) at c.requires))) (rw c.nfa.ensures at c.start.ensures.ok))
