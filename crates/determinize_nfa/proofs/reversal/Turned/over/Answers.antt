use Rattle.determinize_nfa.proofs.Common.{if_err_and}
use Rattle.determinize_nfa.proofs.Limits.{no_memory}
use Rattle.determinize_nfa.proofs.reversal.Turned.over.Goals as goal

pub returns-clause-ok : goal.returns-clause-ok
returns-clause-ok g c = record {
  met = c.in_ok-found.found.ids;
  closed = c.in_ok-found.ensures.closed;
  below = c.in_ok-found.ensures.below;
  distinct = c.in_ok-found.ensures.distinct;
  is = rw c.as_slice.ensures.ids at c.in_ok-add_nodes.ensures.turned;
  count = c.in_ok-add_nodes.ensures.count;
}

pub returns-in_err-add_nodes-clause-err : goal.returns-in_err-add_nodes-clause-err
returns-in_err-add_nodes-clause-err g c = if_err_and c.from_residual-in_err-add_nodes.result _ _
    (λ e h. rw h c.in_err-add_nodes.ensures.err) c.from_residual-in_err-add_nodes.ensures.1

pub returns-in_err-found-clause-err : goal.returns-in_err-found-clause-err
returns-in_err-found-clause-err g c = no_memory c.from_residual.result _ c.from_residual.ensures.1

pub returns-in_err-turned-clause-err : goal.returns-in_err-turned-clause-err
returns-in_err-turned-clause-err g c =
    no_memory c.from_residual-in_err-turned.result _ c.from_residual-in_err-turned.ensures.1
