use Rattle.determinize_lazy.proofs.{ap, arith, come-next, come_twice, lazy-sound, length, next-cached, Some, sym, true, unit-here, unit-last, ◌∙◌, ◌≡◌}
use Rattle.determinize_lazy.proofs.lazy.LazyDfa.follow_to_end.Goals as goal

pub returns-then-at-len-clause-come : goal.returns-then-at-len-clause-come
returns-then-at-len-clause-come g c = c.follow_first-at.ensures.come true _ (unit-here c.args.text.now)

pub returns-in_default-clause-come : goal.returns-in_default-clause-come
returns-in_default-clause-come g c = c.follow_first-at.ensures.come true _ (unit-here c.args.text.now)

pub returns-in_default-2-clause-come : goal.returns-in_default-2-clause-come
returns-in_default-2-clause-come g c = c.follow_first-at.ensures.come true _ (unit-here c.args.text.now)

-- the step over the unit ahead
pub returns-in-Some : goal.returns-in-Some
returns-in-Some g c =
    let (more, next) = next-cached c.args.self.now (lazy-sound c.self.invariant c.self.view_is) c.follow_first-at.result
    c.follow_first-at.ensures.position c.ahead.result c.in-Some.id (rw (← c.self.view_is) c.in-Some.ensures)
    c.tag-tag.result.bits (rw (← c.self.view_is) c.tag-tag.ensures) c.args.earliest c.is_last.ensures
    c.if-not-is_last.true c.or_match.result c.or_match.ensures in
    let all : c.follow_first-at.result.read ≡ length c.args.text.now.bytes =
    omega (arith, c.if-at-len.false, c.follow_first-at.ensures.within, c.len.ensures.value) in record {
      position = next.position;
      come = come_twice (c.follow_first-at.ensures.come true _ (unit-here c.args.text.now))
          (come-next (unit-last c.args.text.now c.follow_first-at.result.read all ∙ ap Some (sym c.ahead.ensures)) more
          next.place next.grows);
      within = omega (arith, all);
    }
