use Rattle.determinize_regex.proofs.Common.{IfOk-weaker}
use Rattle.determinize_regex.proofs.FoundOfPatterns.{each_leftmost_in_is_of, next_by}
use Rattle.determinize_regex.proofs.regex.Regex.next_match.Goals as goal

pub returns-clause-next : goal.returns-clause-next
returns-clause-next g c =
    let is = c.self.invariant.regex in
    rw (← c.self.view_is) (IfOk-weaker c.advance.result _ _ (next_by _ _
    (λ asked first. (each_leftmost_in_is_of _ _ is.means is.prefix asked first).0)
    c.args.searcher.now.asked c.args.searcher.now.before) c.advance.ensures.next)
