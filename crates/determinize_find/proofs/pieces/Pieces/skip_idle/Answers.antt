use Rattle.determinize_find.proofs.Common.{arith, by_cases, cases_lt, drop, drop_all, false≢true, IfSome_then, length, refl, rules, sym, [], ◌∙◌, ◌≡◌, ◌≤◌}
use Rattle.determinize_find.proofs.streams.Steps.{fed_later, moved_begun, unread_unsettled}
use Rattle.determinize_find.proofs.pieces.Pieces.skip_idle.Goals as goal

pub returns-then-not-is_idle-clause-moved : goal.returns-then-not-is_idle-clause-moved
returns-then-not-is_idle-clause-moved g c searching = moved_begun refl searching

pub returns-then-not-is_idle-clause-idle : goal.returns-then-not-is_idle-clause-idle
returns-then-not-is_idle-clause-idle g c =
    let within : c.args.self.now.start ≤ length c.args.self.now.kept
    = rw (← c.self.view_is) c.self.invariant.within in
    IfSome_then c.args.self.now.scan c.is_idle.ensures.idle (λ scan busy apart idle.
    by_cases (cases_lt c.args.self.now.start (length c.args.self.now.kept))
    (λ l. absurd (false≢true (sym c.if-not-is_idle.true ∙ busy apart idle l)))
    (λ l. omega (arith, within, l)))

pub returns-clause-moved : goal.returns-clause-moved
returns-clause-moved g c searching =
    let count : c.len-self-inside.result ≡ length c.self.inside.kept.items = search rules in
    let fresh = c.is_idle.ensures.fresh searching c.if-not-is_idle.false in record {
      fed = λ list. rw (c.begin_scan.ensures.value, ← c.self.view_is, count) (fed_later c.args.regex.now.nfa _
          c.begin_scan.new.self.scan list c.self.invariant (rw (← c.self.view_is) at fresh));
      searching = c.begin_scan.ensures.searching tt;
    }

pub returns-clause-unsettled : goal.returns-clause-unsettled
returns-clause-unsettled g c _ =
    let unread : drop c.len-self-inside.result c.self.inside.kept.items ≡ []
    = drop_all c.len-self-inside.result c.self.inside.kept.items (search rules) in
    IfSome_then c.begin_scan.new.self.scan (c.begin_scan.ensures.searching tt)
    (λ scan is. unread_unsettled (rw c.begin_scan.ensures.value unread) is)

pub returns-clause-idle : goal.returns-clause-idle
returns-clause-idle g c =
    let count : c.len-self-inside.result ≡ length c.self.inside.kept.items = search rules in
    IfSome_then c.begin_scan.new.self.scan (c.begin_scan.ensures.searching tt)
    (λ scan is apart idle. rw c.begin_scan.ensures.value count)

pub returns-clause-left : goal.returns-clause-left
returns-clause-left g c =
    let count : c.len-self-inside.result ≡ length c.self.inside.kept.items = search rules in
    let some = rw (← c.self.view_is) at (c.is_idle.ensures.some c.if-not-is_idle.false) in
    rw (c.begin_scan.ensures.value, ← c.self.view_is) (omega (arith, count, some))
