use Rattle.determinize_dense.proofs.Common.{rules, sym, take_all}
use Rattle.determinize_dense.proofs.Lists.{lists-push, unwrapped}
use Rattle.determinize_dense.proofs.build.lists_of.Goals as goal

pub loop-state-preserved : goal.loop-state-preserved
loop-state-preserved g c = record {
  lists = lists-push (λ list. list.items) _ _ c.loop-state.invariant.lists c.in_ok-push.ensures.items
      (rw c.unwrap_or.ensures (unwrapped _ _ _ _ c.in_ok-match_pattern_ids.ensures.ids c.new.ensures.items))
      (search rules) (sym c.state-item.is);
}

pub returns : goal.returns
returns g c = rw (take_all c.loop-state.state-index c.args.states.now (search rules)) at c.loop-state.invariant.lists
