use Rattle.determinize_lazy.proofs.{all-some, all_read, ap, arith, cache, come-next, come_none, come_twice}
use Rattle.determinize_lazy.proofs.{cursor_value, fails-next, false, first_place, grows-more, HasCome, inl, inr}
use Rattle.determinize_lazy.proofs.{is_last, left-at, left_err, listed_from, marking-end, marking-first, marking-over}
use Rattle.determinize_lazy.proofs.{marking-some, marking-step, place, Place, refl, rules, start_value, tag-last, true, unit-here, units, ◌≡◌}
use Rattle.determinize_lazy.proofs.lazy.LazyDfa.mark_text.Goals.{After-mark, After-unit-unit}
use Rattle.determinize_lazy.proofs.lazy.LazyDfa.mark_text.Goals as goal

pub loop-at-init : goal.loop-at-init
loop-at-init g c =
    let v = c.args.self.now in
    let at : place v c.start-at.result ≡ first_place (cache v) (start_value v.nfa c.args.start c.args.text.now.behind)
    = rw c.start-at.ensures (ap (first_place (cache v))
    (rw (c.in_ok-start.ensures.unchanged, c.behind.ensures) at c.in_ok-start.ensures.value)) in record {
      position = search rules;
      within = omega (arith, ap (λ (p : Place). p.read) at);
      marking = rw c.in_ok-start.ensures.unchanged (marking-first (ap (listed_from (units c.args.text.now)) at));
      come = rw c.in_ok-start.ensures.unchanged (come_none at);
    }

pub returns-in_err-at-clause-left : goal.returns-in_err-at-clause-left
returns-in_err-at-clause-left g c = left_err c.from_residual-in_err-at.ensures.0
    (c.loop-at.invariant.come.failed _ (c.in_err-at.ensures.failed false _ (unit-here c.args.text.now)))
    (grows-more c.loop-at.invariant.come.grows c.in_err-at.ensures.grows)

pub returns-in_err-at-clause-some : goal.returns-in_err-at-clause-some
returns-in_err-at-clause-some g c = marking-some c.loop-at.invariant.marking

-- the walk to the next match state
come : (g : _) (c : After-mark g) → HasCome false (units c.args.text.now)
    (first_place (cache c.args.self.now) (start_value c.args.self.now.nfa c.args.start c.args.text.now.behind))
    (place c.search_bytes.new.self c.in_ok-at.at)
come g c = come_twice c.loop-at.invariant.come (c.in_ok-at.ensures.at.come false _ (unit-here c.args.text.now))

-- it does not end there
more : (g : _) (c : After-unit-unit g)
    → is_last false (cursor_value c.search_bytes.new.self.states c.in_ok-at.at.cursor) ≡ false
more g c = tag-last false c.tag_at.result.bits (cursor_value c.search_bytes.new.self.states c.in_ok-at.at.cursor)
    c.tag_at.ensures c.is_last.ensures c.if-is_last.false

pub returns-then-is_last : goal.returns-then-is_last
returns-then-is_last g c =
    let last : is_last false (cursor_value c.search_bytes.new.self.states c.in_ok-at.at.cursor) ≡ true =
    tag-last false c.tag_at.result.bits (cursor_value c.search_bytes.new.self.states c.in_ok-at.at.cursor)
    c.tag_at.ensures c.is_last.ensures c.if-is_last.true in
    let are = marking-over (c.in_ok-at.ensures.at.come true _ (unit-here c.args.text.now)) c.loop-at.invariant.marking
    c.mark.ensures last in record {
      marked = are;
      some = all-some are;
      left = left-at (come g (goal.at.returns-then-is_last g c).After-mark) (inr last) _;
    }

pub returns-in_err-at-2-clause-some : goal.returns-in_err-at-2-clause-some
returns-in_err-at-2-clause-some g c =
    marking-some (marking-step (c.in_ok-at.ensures.at.come true _ (unit-here c.args.text.now))
    c.loop-at.invariant.marking c.mark.ensures c.unit-unit.ensures refl)

pub returns-in_err-at-2-clause-left : goal.returns-in_err-at-2-clause-left
returns-in_err-at-2-clause-left g c =
    let d = goal.at.returns-in_err-at-2-clause-left g c in
    let h = come g d.After-mark in
    left_err c.from_residual-in_err-at-2.ensures.0
    (fails-next h c.unit-unit.ensures (more g d.After-unit-unit) c.in_err-at-2.ensures.failed)
    (grows-more h.grows c.in_err-at-2.ensures.grows)

pub loop-at-preserved : goal.loop-at-preserved
loop-at-preserved g c =
    let d = goal.at.loop-at-preserved g c in
    let next = c.in_ok-at-2.ensures.next in record {
      position = next.position;
      within = omega (arith, ap (λ (p : Place). p.read) next.place, c.in_ok-at.ensures.at.within);
      marking = marking-step (c.in_ok-at.ensures.at.come true _ (unit-here c.args.text.now))
          c.loop-at.invariant.marking c.mark.ensures c.unit-unit.ensures next.place;
      come = come_twice (come g d.After-mark)
          (come-next c.unit-unit.ensures (more g d.After-unit-unit) next.place next.grows);
    }

pub returns : goal.returns
returns g c =
    let past = all_read c.args.text.now c.loop-at-test.false c.len.ensures.value in
    let are = marking-end (units c.args.text.now) (place c.loop-at.self c.loop-at.at) c.loop-at.invariant.marking past
    c.mark-2.ensures in record {
      marked = are;
      some = all-some are;
      left = left-at c.loop-at.invariant.come (inl past) _;
    }
