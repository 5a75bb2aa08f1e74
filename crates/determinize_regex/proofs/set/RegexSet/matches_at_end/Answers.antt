use Rattle.determinize_regex.proofs.Common.{by_test, IfOk-weaker, is_done, sym, true≢false, ◌∙◌}
use Rattle.determinize_regex.proofs.SetsOfPatterns.{at_end_in}
use Rattle.determinize_regex.proofs.set.RegexSet.matches_at_end.Goals as goal

pub returns-clause-at_end : goal.returns-clause-at_end
returns-clause-at_end g c =
    let at_end = at_end_in _ _ _ c.self.invariant.regex c.args.input.now c.input_law.ensures.within
    c.input_law.ensures.bytes c.requires.start c.self.invariant.forward in
    rw (← c.self.view_is) (by_test (is_done c.args.input.now)
    (λ d. IfOk-weaker c.patterns_after.result _ _
    (λ found none. at_end found.items (λ e. none) (λ more. absurd (true≢false (sym d ∙ more))))
    (c.patterns_after.ensures.done d))
    (λ d. IfOk-weaker c.patterns_after.result _ _
    (λ found lists. at_end found.items (λ e. absurd (true≢false (sym e ∙ d)))
    (λ more. rw c.self.invariant.kind at lists))
    (c.patterns_after.ensures.lists d)))
