use Rattle.std.proofs.Common.{◌≤◌, ◌+◌, ◌-◌, ◌∙◌, arith, length}
use Rattle.determinize_linear.proofs.search.Left.{if_none}
use Rattle.determinize_linear.proofs.search.Passing.{rest_same}
use Rattle.determinize_linear.proofs.dense.Searcher.advance_with.Goals as goal

pub advance-requires-clause-ready : goal.advance-requires-clause-ready
advance-requires-clause-ready g c = λ k l.
    (c.self.invariant.known, c.self.invariant.kind, c.self.invariant.alike, c.self.invariant.walkable k l)

pub invariant_of-self : goal.invariant_of-self
invariant_of-self g c =
    let ready = c.in-Ok.ensures.ready c.advance.new.self.at (omega arith) in
    let moved = c.in-Ok.ensures.moved in record {
      known = ready.0;
      kind = ready.1;
      alike = rw moved.text ready.2;
      walkable = λ k l. rw moved.text ((c.in-Ok.ensures.ready k l).3);
      inside = moved.inside;
      cursor = λ nfa f. moved.is nfa (rw (← c.in-Ok.ensures.by) f);
    }

pub returns-clause-next : goal.returns-clause-next
returns-clause-next g c = rw (← c.self.view_is) (λ nfa f. c.in-Ok.ensures.moved.next nfa f)

pub returns-clause-past : goal.returns-clause-past
returns-clause-past g c = rw (← c.self.view_is) (λ nfa f k free.
    let same = rest_same c.self.inside.cursor.asked c.self.inside.cursor.before in
    let cursor = c.self.invariant.cursor nfa f in
    if_none (g.C.Counter.total c.args.counter.now
    + (length c.self.inside.cursor.text.bytes + 1 - c.self.inside.cursor.at)
    ≤ g.C.Counter.total c.advance.new.counter) _ _ (λ h. omega (arith, h, c.self.invariant.inside.count, same.1))
    (c.in-Ok.ensures.past k (cursor.anchored ∙ (rw same.0 at free))))
