use Rattle.determinize_lazy.proofs.{ap, arith, cursor_value, get_or, inl, inr, length, mark-next, Value, ◌∙◌, ◌≡◌}
use Rattle.determinize_lazy.proofs.lazy.LazyDfa.mark.Goals.{else-id-found, then-id-found}
use Rattle.determinize_lazy.proofs.lazy.LazyDfa.mark.Goals as goal

pub loop-index-preserved : goal.loop-index-preserved
loop-index-preserved g c =
    let v : Value = cursor_value c.args.self.now.states c.args.at.now.cursor in
    let listed : c.state-state.result.now ≡ v = cc in
    mark-next v.patterns c.loop-index.index c.as_usize-id.result c.loop-index.invariant
    (omega (arith, c.loop-index-test.true, c.match_len-index-end.ensures, ap (λ (w : Value). length w.patterns) listed))
    (c.as_usize-id.ensures.value ∙ c.match_pattern.ensures
    ∙ ap (λ (w : Value). get_or w.patterns c.loop-index.index 0) listed)
    (elim c.if-id-found.branch [
      | then-id-found w ↦ inl (omega arith, w.found-is)
      | else-id-found w ↦ inr (omega arith, w.found-is)
    ])
