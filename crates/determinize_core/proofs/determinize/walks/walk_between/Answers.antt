use Rattle.determinize_core.proofs.Common.{[], arith, length, length_push, refl, ◌∙◌, ◌∷◌, ◌≡◌}
use Rattle.determinize_core.proofs.walk.ReturnedWalk.{is_walk, walk_begins, walk_pushes, walk_pushes_last}
use Rattle.determinize_core.proofs.determinize.walks.walk_between.Goals as goal

pub loop-index-init : goal.loop-index-init
loop-index-init g c =
    let first : c.push.new.self.items ≡ c.in_ok-start.field-0 ∷ []
    = rw c.new-states.ensures.items at c.in_ok-push.ensures.items in
    record {
      count = rw first refl;
      whole = rw first (walk_begins c.args.nfa.now c.args.match_kind c.args.start c.args.look_behind
          c.args.look_ahead c.args.text.now c.in_ok-start.field-0 [] c.in_ok-start.ensures.ok refl);
      resolve = rw first c.in_ok-start.ensures.resolve;
    }

pub push_next-requires-clause-resolve : goal.push_next-requires-clause-resolve
push_next-requires-clause-resolve g c = c.loop-index.invariant.resolve

pub loop-index-preserved : goal.loop-index-preserved
loop-index-preserved g c = record {
  count = rw (c.in_ok-push_next.ensures.pushed, length_push, c.loop-index.invariant.count) refl;
  whole = walk_pushes c.args.nfa.now c.args.match_kind c.args.look_ahead c.args.text.now
      c.loop-index.index c.loop-index.states.items c.push_next.new.states.items c.loop-index.invariant.count
      c.loop-index-test.true
      (rw c.u8-unit.ensures at c.in_ok-push_next.ensures.pushed)
      ∙ c.loop-index.invariant.whole;
  resolve = c.in_ok-push_next.ensures.resolve;
}

pub push_next-requires-2-clause-resolve : goal.push_next-requires-2-clause-resolve
push_next-requires-2-clause-resolve g c =
    let end : c.loop-index.index ≡ length c.args.text.now =
    omega (arith, c.loop-index-test.false, c.loop-index.auto.index-end) in
    rw (← end) c.loop-index.invariant.resolve

pub returns : goal.returns
returns g c =
    let end : c.loop-index.index ≡ length c.args.text.now =
    omega (arith, c.loop-index-test.false, c.loop-index.auto.index-end) in
    is_walk c.args.nfa.now c.args.match_kind c.args.start _ c.push_next-2.new.states.items
    c.in_ok-start.ensures.accepted c.requires
    (walk_pushes_last c.args.nfa.now c.args.match_kind c.args.look_ahead c.args.text.now
    c.loop-index.index c.loop-index.states.items c.push_next-2.new.states.items c.loop-index.invariant.count
    (omega (arith, end))
    (rw (← end, c.from-unit.ensures.0) at c.in_ok-push_next-2.ensures.pushed)
    ∙ c.loop-index.invariant.whole)
