use Rattle.std.proofs.Common.{rules, ◌≡◌, ◌≤◌, ◌+◌, ◌∙◌, ℕ, None, ap, arith, length, refl, subst, sym}
use Rattle.determinize_below.specs.Semantics.{Text}
use Rattle.determinize_linear.specs.Private.Turns.{most_left, passed, taken}
use Rattle.determinize_linear.proofs.search.Passing.{next_further, sought_further, sought_more, sought_moved}
use Rattle.determinize_linear.proofs.search.Passing.{sought_none, sought_paid, sought_past}
use Rattle.determinize_linear.proofs.in_turn.Cursor.advance.Goals as goal

pub loop-text-init : goal.loop-text-init
loop-text-init g c = record {
  sought = record {
    inside = c.requires.inside;
    is = c.requires.cursor;
    later = omega arith;
    same_text = c.text-text.ensures;
    same = refl;
    ready = rw c.text-text.ensures c.requires.ready;
    paid = omega arith;
    counted = λ k f. omega arith;
    more = λ k. omega arith;
  };
  by = refl;
}

pub loop-text-preserved : goal.loop-text-preserved
loop-text-preserved g c =
    let none : taken c.loop-text.self c.in_ok-found.found ≡ None = sym c.pass.ensures.taken ∙ search rules in
    rw c.pass.ensures.passed record {
      sought = sought_more _ c.text-text.result _ _ _ _ _ _ _ _ _ c.loop-text.self
          c.loop-text.invariant.sought c.position-in-loop-text.result c.position-in-loop-text.ensures
          (omega (arith, c.loop-text-test.true, c.len.ensures.value)) c.in_ok-found.found c.in_ok-found.ensures.order
          (λ nfa f. c.in_ok-found.ensures.best nfa (rw c.loop-text.invariant.by f))
          (g.S.Matcher.left c.search_from.new.self c.text-text.result)
          (g.C.Counter.total c.search_from.new.counter) (rw c.loop-text.invariant.by at c.in_ok-found.ensures.paid)
          c.in_ok-found.ensures.unpaid
          c.in_ok-found.ensures.counted (g.S.Matcher.is_ready c.search_from.new.self c.text-text.result)
          c.in_ok-found.ensures.ready none;
      by = c.search_from.ensures.by ∙ c.loop-text.invariant.by;
    }

pub loop-text-smaller : goal.loop-text-smaller
loop-text-smaller g c =
    let same : length c.text-text.result.bytes ≡ length c.loop-text.self.text.bytes
    = ap (λ (t : Text). length t.bytes) c.loop-text.invariant.sought.same_text in
    let high : c.loop-text.self.at ≤ length c.text-text.result.bytes
    = omega (arith, c.position.ensures, c.loop-text-test.true, c.len.ensures.value) in
    rw c.pass.ensures.passed (omega (
      arith,
      high,
      next_further c.loop-text.self (omega (arith, high, same)) c.in_ok-found.found,
    ))

pub returns-clause-moved : goal.returns-clause-moved
returns-clause-moved g c = sought_none _ c.text-text.result _ _ _ _ _ _ _ _ _ c.loop-text.self
    c.loop-text.invariant.sought (omega (arith, c.position.ensures, c.loop-text-test.false, c.len.ensures.value))

pub returns-clause-past : goal.returns-clause-past
returns-clause-past g c = λ k free. sought_past _ c.text-text.result _ _ _ _ _ _ _ _ _ c.loop-text.self
    c.loop-text.invariant.sought (omega (arith, c.position.ensures, c.loop-text-test.false, c.len.ensures.value)) k free

pub returns-clause-more : goal.returns-clause-more
returns-clause-more g c = c.loop-text.invariant.sought.more

pub returns-clause-by : goal.returns-clause-by
returns-clause-by g c = c.loop-text.invariant.by

pub returns-clause-ready : goal.returns-clause-ready
returns-clause-ready g c = subst (λ (t : Text). (k : ℕ) → c.loop-text.self.at ≤ k
    → g.S.Matcher.is_ready c.loop-text.search t k) c.text-text.ensures c.loop-text.invariant.sought.ready

pub returns-clause-paid : goal.returns-clause-paid
returns-clause-paid g c = subst (λ (t : Text). g.C.Counter.total c.loop-text.counter
    + most_left (g.S.Matcher.left c.loop-text.search t)
    (g.S.Matcher.most (g.S.Matcher.by c.args.search.now) + g.S.Matcher.extra)
    c.loop-text.self ≤ g.C.Counter.total c.args.counter.now
    + most_left (g.S.Matcher.left c.args.search.now t)
    (g.S.Matcher.most (g.S.Matcher.by c.args.search.now) + g.S.Matcher.extra) c.args.self.now) c.text-text.ensures
    c.loop-text.invariant.sought.paid

pub returns-in-Some-clause-moved : goal.returns-in-Some-clause-moved
returns-in-Some-clause-moved g c = rw c.pass.ensures.passed
    (sought_moved _ c.text-text.result _ _ _ _ _ _ _ _
    _ c.loop-text.self c.loop-text.invariant.sought c.position-in-loop-text.result c.position-in-loop-text.ensures
    (omega (arith, c.position.ensures, c.position-in-loop-text.ensures, c.loop-text-test.true, c.len.ensures.value))
    c.in_ok-found.found c.in_ok-found.ensures.order
    (λ nfa f. c.in_ok-found.ensures.best nfa (rw c.loop-text.invariant.by f)) c.in-Some.next
    (sym c.pass.ensures.taken ∙ c.in-Some.is))

pub returns-in-Some-clause-paid : goal.returns-in-Some-clause-paid
returns-in-Some-clause-paid g c = rw c.pass.ensures.passed
    (subst (λ (t : Text). g.C.Counter.total c.search_from.new.counter
    + most_left (g.S.Matcher.left c.search_from.new.self t)
    (g.S.Matcher.most (g.S.Matcher.by c.args.search.now) + g.S.Matcher.extra)
    (passed c.loop-text.self c.in_ok-found.found) ≤ g.C.Counter.total c.args.counter.now
    + most_left (g.S.Matcher.left c.args.search.now t)
    (g.S.Matcher.most (g.S.Matcher.by c.args.search.now) + g.S.Matcher.extra) c.args.self.now) c.text-text.ensures
    (sought_paid _ c.text-text.result _ _ _ _ _ _ _ _ _ c.loop-text.self c.loop-text.invariant.sought
    c.position-in-loop-text.result c.position-in-loop-text.ensures
    (omega (arith, c.position.ensures, c.position-in-loop-text.ensures, c.loop-text-test.true, c.len.ensures.value))
    c.in_ok-found.found c.in_ok-found.ensures.order
    (λ nfa f. c.in_ok-found.ensures.best nfa (rw c.loop-text.invariant.by f))
    (g.S.Matcher.left c.search_from.new.self c.text-text.result)
    (g.C.Counter.total c.search_from.new.counter) (rw c.loop-text.invariant.by at c.in_ok-found.ensures.paid)
    c.in_ok-found.ensures.unpaid
    c.in_ok-found.ensures.counted))

pub returns-in-Some-clause-on : goal.returns-in-Some-clause-on
returns-in-Some-clause-on g c = rw (c.pass.ensures.passed, ← c.text-text.ensures)
    (sought_further _ c.text-text.result _ _ _ _ _ _ _ _ _ c.loop-text.self c.loop-text.invariant.sought
    c.position-in-loop-text.result c.position-in-loop-text.ensures
    (omega (arith, c.position.ensures, c.position-in-loop-text.ensures, c.loop-text-test.true, c.len.ensures.value))
    c.in_ok-found.found c.in_ok-found.ensures.order
    (λ nfa f. c.in_ok-found.ensures.best nfa (rw c.loop-text.invariant.by f)))
