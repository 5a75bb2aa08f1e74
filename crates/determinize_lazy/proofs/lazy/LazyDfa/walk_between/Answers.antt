use Rattle.determinize_lazy.proofs.{ap, between, cache, future, has_read, IfOk-weaker, IsCacheAfter, LazyValue, List, Option, start_value, subst, Text, units, ℕ, ◌∙◌}
use Rattle.determinize_core.proofs.walk.ReturnedWalk.{is_walk}
use Rattle.determinize_core.specs.Chain.{chain}
use Rattle.determinize_lazy.proofs.lazy.LazyDfa.walk_between.Goals as goal

pub returns : goal.returns
unfolding chain
returns g c =
    let v = c.args.self.now in
    let us : List (Option ℕ) = units c.new-text.result in
    let left = rw (c.in_ok-first.ensures.value, c.in_ok-first.ensures.unchanged, c.behind.ensures)
    at c.walk_on.ensures.left in record {
      walk = IfOk-weaker c.walk_on.result _ _ (λ states is. is_walk v.nfa v.kind c.args.start (between
          c.args.look_behind c.args.text.now c.args.look_ahead) states.items c.in_ok-first.ensures.sound.accepted
          c.requires (is
          ∙ ap (λ w. future c.start.new.self.nfa c.start.new.self.kind w us) c.in_ok-first.ensures.value
          ∙ ap (λ (x : LazyValue). future x.nfa x.kind (start_value v.nfa c.args.start c.behind.result) us)
          c.in_ok-first.ensures.unchanged
          ∙ ap (λ b. future v.nfa v.kind (start_value v.nfa c.args.start b) us) c.behind.ensures
          ∙ ap (λ (t : Text). future v.nfa v.kind (start_value v.nfa c.args.start t.behind) (units t))
          c.new-text.ensures))
          c.walk_on.ensures.values;
      cache = has_read c.in_ok-first.ensures.sound (subst (λ (t : Text). IsCacheAfter (cache v)
          (start_value v.nfa c.args.start t.behind) (units t) c.walk_on.result (cache c.walk_on.new.self))
          c.new-text.ensures left);
    }
