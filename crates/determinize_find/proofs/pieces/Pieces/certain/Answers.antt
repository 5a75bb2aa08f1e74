use Rattle.determinize_find.proofs.Common.{None, rules, ◌≡◌}
use Rattle.determinize_find.proofs.streams.Steps.{moved_begun, moved_on}
use Rattle.determinize_find.proofs.pieces.Pieces.certain.Goals as goal

pub returns-in_err-begin_scan-clause-step : goal.returns-in_err-begin_scan-clause-step
returns-in_err-begin_scan-clause-step g c searching =
    let move = moved_begun c.begin_scan.ensures.value (c.begin_scan.ensures.searching searching) in
    record { moved = move; certain = search rules; few = search rules }

pub returns-in_err-next-clause-step : goal.returns-in_err-next-clause-step
returns-in_err-next-clause-step g c searching =
    let move = moved_begun c.begin_scan.ensures.value (c.begin_scan.ensures.searching searching) in
    record { moved = move; certain = search rules; few = search rules }

pub returns-then-is_some-clause-step : goal.returns-then-is_some-clause-step
returns-then-is_some-clause-step g c searching =
    let certain = rw c.in_ok-begin_scan.ensures.same at c.in_ok-next.ensures.certain in
    record {
      moved = moved_begun {scan = None} (search rules) tt;
      certain = rw (← c.self.view_is) at (certain (c.begin_scan.ensures.searching searching));
      few = search rules;
    }

pub returns-in_err-settle-clause-step : goal.returns-in_err-settle-clause-step
returns-in_err-settle-clause-step g c searching =
    let now = c.begin_scan.ensures.searching searching in
    let settle = rw (c.in_ok-next.ensures.same, c.in_ok-begin_scan.ensures.same) at c.settle.ensures.moved in
    let move = moved_on (moved_begun c.begin_scan.ensures.value now) (settle now) in
    record { moved = move; certain = search rules; few = search rules }

pub returns-clause-step : goal.returns-clause-step
returns-clause-step g c searching =
    let none : c.in_ok-next.next ≡ None = search rules in
    let now = c.begin_scan.ensures.searching searching in
    let settle = rw (c.in_ok-next.ensures.same, c.in_ok-begin_scan.ensures.same) at c.settle.ensures.moved in
    let few = rw (c.in_ok-next.ensures.same, c.in_ok-begin_scan.ensures.same) at c.in_ok-settle.ensures.few in
    let unsettled = rw (c.in_ok-begin_scan.ensures.same, none) at c.in_ok-next.ensures.unsettled in
    let move = moved_on (moved_begun c.begin_scan.ensures.value now) (settle now) in
    record { moved = move; certain = tt; few = few now c.in_ok-begin_scan.ensures.begun (unsettled now) }
