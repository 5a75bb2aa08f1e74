use Rattle.determinize_dense.proofs.Common.{refl, rules, take_all, ◌/◌, ◌∙◌, ◌≡◌}
use Rattle.determinize_dense.proofs.Lists.{mapped-push}
use Rattle.determinize_dense.proofs.dfa.Dfa.entries.Goals as goal

pub loop-offset-init : goal.loop-offset-init
loop-offset-init g c =
    let items : c.deref-offset-items.result.now ≡ c.self.inside.next.items = search rules in record {
      all = rw (items, c.alphabet_len-columns.ensures.count, ← c.self.view_is) refl;
      rows = search rules;
    }

pub loop-offset-preserved : goal.loop-offset-preserved
loop-offset-preserved g c = record {
  all = c.loop-offset.invariant.all;
  rows = mapped-push (λ offset. offset / c.alphabet_len-columns.result) _ _ _ _ 0 c.loop-offset.invariant.rows
      c.in_ok-push.ensures.items c.loop-offset-test.true;
}

pub returns : goal.returns
returns g c =
    let all = take_all c.loop-offset.offset-index _ c.loop-offset-test.false in
    (rw all at c.loop-offset.invariant.rows) ∙ c.loop-offset.invariant.all
