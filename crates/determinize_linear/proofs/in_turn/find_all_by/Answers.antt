use Rattle.std.proofs.Common.{rules, ◌≡◌, ◌≤◌, ◌+◌, ◌++◌, ◌∷◌, ◌∙◌, [], ap, arith, false, length, refl, subst}
use Rattle.determinize_below.specs.Semantics.{Text}
use Rattle.determinize_engine.specs.Searches.{text_of}
use Rattle.determinize_linear.specs.Private.Turns.{most_left}
use Rattle.determinize_linear.proofs.search.Collected.{collected_all, collected_more, collected_none}
use Rattle.determinize_linear.proofs.in_turn.find_all_by.Goals as goal

pub loop-next-init : goal.loop-next-init
loop-next-init g c =
    let asked = c.new-cursor.ensures.asked in record {
      collected = rw c.new-found.ensures.items
          (collected_none _ c.args.input.now (text_of false c.args.input.now) _ _ _ _ _
          c.new-cursor.result c.new-cursor.ensures.inside
          (λ nfa f. c.new-cursor.ensures.cursor nfa (c.requires.anchored nfa f)) asked c.new-cursor.ensures.before
          (c.new-cursor.ensures.at c.requires.order)
          (c.new-cursor.ensures.inside.text (rw asked c.requires.order) ∙ ap (text_of false) asked)
          c.requires.ready);
      by = refl;
      anchored = c.new-cursor.ensures.anchored;
    }

pub loop-next-preserved : goal.loop-next-preserved
loop-next-preserved g c =
    let is = c.in-Ok-Some.field-0-is in
    let by = c.loop-next.invariant.by in
    let text = c.loop-next.invariant.collected.same_text in
    let moved = c.in-Ok-Some.ensures.moved in
    let items : c.push.new.self.items ≡ c.loop-next.found.items ++ c.in-Ok-Some.next ∷ [] = search rules in record {
      collected = rw items (collected_more _ c.args.input.now (text_of false c.args.input.now) _ _ _ _ _ _ _
          c.loop-next.cursor c.loop-next.found.items c.loop-next.invariant.collected c.advance.new.self
          c.in-Ok-Some.next (rw (is, by) at moved)
          (g.S.Matcher.is_ready c.advance.new.search (text_of false c.args.input.now))
          (g.S.Matcher.left c.advance.new.search (text_of false c.args.input.now))
          (g.C.Counter.total c.advance.new.counter) (rw text at c.in-Ok-Some.ensures.ready)
          (λ k. subst (λ (t : Text). g.C.Counter.total c.advance.new.counter
          + most_left (g.S.Matcher.left c.advance.new.search t)
          (g.S.Matcher.most (g.S.Matcher.by c.args.search.now) + g.S.Matcher.extra) c.advance.new.self
          ≤ g.C.Counter.total c.loop-next.counter
          + most_left (g.S.Matcher.left c.loop-next.search t)
          (g.S.Matcher.most (g.S.Matcher.by c.args.search.now) + g.S.Matcher.extra) c.loop-next.cursor) text
          (rw by at c.in-Ok-Some.ensures.paid))
          c.in-Ok-Some.ensures.more (λ k. rw is at (c.in-Ok-Some.ensures.counted k)));
      by = c.advance.ensures.by ∙ by;
      anchored = moved.anchored ∙ c.loop-next.invariant.anchored;
    }

pub loop-next-smaller : goal.loop-next-smaller
loop-next-smaller g c =
    let on = rw c.in-Ok-Some.field-0-is at c.in-Ok-Some.ensures.on in
    let size = ap (λ (t : Text). length t.bytes) c.loop-next.invariant.collected.same_text in
    omega (arith, on.0, on.1, size)

pub returns-in-Ok-None-clause-all : goal.returns-in-Ok-None-clause-all
returns-in-Ok-None-clause-all g c = collected_all _ c.args.input.now (text_of false c.args.input.now)
    _ _ _ _ _ _ _ c.loop-next.cursor c.loop-next.found.items c.loop-next.invariant.collected c.advance.new.self
    (rw (c.in-Ok-None.field-0-is, c.loop-next.invariant.by) at c.in-Ok-None.ensures.moved)
