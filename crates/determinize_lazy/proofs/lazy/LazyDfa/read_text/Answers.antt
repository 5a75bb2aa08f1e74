use Rattle.determinize_lazy.proofs.{all_read, ap, arith, cache, cached_place, dead, first_place, get_or_from_slice_get}
use Rattle.determinize_lazy.proofs.{HasCome, inl, inr, LazyValue, match_of, match_reported, option_or, over-at}
use Rattle.determinize_lazy.proofs.{slice_get, slice_get-get_or, slice_index_or, start_value, Tag, tag-last, tag_in, tag_of, units, Value, ◌∙◌, ◌≡◌}
use Rattle.determinize_lazy.proofs.lazy.LazyDfa.read_text.Goals.{then-at-len-via-else-at-len+then-is_last, then-at-len-via-then-at-len, After-len}
use Rattle.determinize_lazy.proofs.lazy.LazyDfa.read_text.Goals as goal

-- the search of what is cached
cached : (g : _) (c : After-len g) → HasCome c.args.earliest (units c.args.text.now)
    (first_place (cache c.args.self.now) (start_value c.args.self.now.nfa c.args.start c.args.text.now.behind))
    (cached_place c.args.self.now c.follow_to_end-at.result)
cached g c = rw (get_or_from_slice_get c.args.self.now.states c.in-Some.id _ dead
    (rw c.behind.ensures at c.in-Some.ensures.at)) at c.follow_to_end-at.ensures.come

pub returns-then-at-len-clause-reached : goal.returns-then-at-len-clause-reached
returns-then-at-len-clause-reached g c =
    let d = (goal.at.returns-then-at-len-clause-reached g c).After-len in
    let at = c.follow_to_end-at.result in
    let v : Value = slice_index_or c.args.self.now.states at.id dead in
    let tag : tag_in c.tag-tag.result.bits ≡ tag_of v = c.tag-tag.ensures _
    (ap (λ (x : LazyValue). slice_get x.states at.id) c.self.view_is
    ∙ slice_get-get_or c.args.self.now.states at.id dead c.follow_to_end-at.ensures.position.ready.cursor) in
    over-at (cached g d) (elim c.then-at-len.branch [
      | then-at-len-via-then-at-len w ↦ inl
          (all_read c.args.text.now (omega (arith, w.if-at-len.true)) c.len.ensures.value)
      | then-at-len-via-else-at-len+then-is_last w ↦
          inr (tag-last c.args.earliest c.tag-tag.result.bits v tag w.is_last.ensures w.if-is_last.true)
    ]) (c.get.ensures ∙ c.or_match.ensures c.follow_to_end-at.ensures.position.unmatched
    ∙ ap (λ (k : Tag). option_or (match_reported at.read k.pattern) (match_of at.last)) tag)
