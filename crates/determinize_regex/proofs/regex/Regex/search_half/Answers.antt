use Rattle.determinize_regex.proofs.Common.{IfOk-weaker}
use Rattle.determinize_regex.proofs.FoundOfPatterns.{each_leftmost_in_is_of}
use Rattle.determinize_regex.proofs.regex.Regex.search_half.Goals as goal

pub returns-clause-leftmost : goal.returns-clause-leftmost
returns-clause-leftmost g c =
    let is = c.self.invariant.regex in
    rw (← c.self.view_is) (IfOk-weaker c.search_half.result _ _
    (λ found e. (e.match, (each_leftmost_in_is_of _ _ is.means is.prefix c.args.input.now e.match).0 e.leftmost, e.is))
    c.search_half.ensures.leftmost)
