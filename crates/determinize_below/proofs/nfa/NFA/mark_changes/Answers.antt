use Rattle.determinize_below.proofs.Common.{refl, ◌+◌}
use Rattle.determinize_below.proofs.nfas.Boundaries.{read_at}
use Rattle.determinize_below.proofs.nfa.NFA.mark_changes.Goals as goal

pub returns : goal.returns
returns g c = record {
  was = c.mark_state.ensures.was;
  same = λ b low h.
      read_at c.args.self.now _ _ _ b (b + 1) refl c.state.ensures.state (c.mark_state.ensures.same b low h);
}
