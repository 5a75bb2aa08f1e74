use Rattle.determinize_find.proofs.Common.{None, rules, ◌≡◌}
use Rattle.determinize_find.proofs.leftmost.TwoSearches.{before_end, begin_found, some_found}
use Rattle.determinize_find.proofs.regex.Regex.search_start.Goals as goal

pub returns-in_default-clause-start : goal.returns-in_default-clause-start
returns-in_default-clause-start g c asked m e =
    let own : c.anchored-before.result ≡ before_end c.args.haystack.now c.args.start c.args.end = search rules in
    let none : c.in_ok-begin.field-0 ≡ None = search rules in
    absurd (some_found (rw (← c.self.view_is) at e) c.self.invariant.reverse c.self.invariant.reads_forward
    (rw (own, none, c.self.invariant.kind_backward) at c.in_ok-begin.ensures.search))

pub returns-clause-start : goal.returns-clause-start
returns-clause-start g c asked m e =
    let own : c.anchored-before.result ≡ before_end c.args.haystack.now c.args.start c.args.end = search rules in
    begin_found (rw (← c.self.view_is) at e) c.self.invariant.reverse c.self.invariant.reads_forward c.in-Some.begin
    (rw (own, c.in-Some.is, c.self.invariant.kind_backward) at c.in_ok-begin.ensures.search)
