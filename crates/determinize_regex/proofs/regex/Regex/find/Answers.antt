use Rattle.determinize_regex.proofs.Common.{IfOk-weaker}
use Rattle.determinize_regex.proofs.FoundOfPatterns.{each_leftmost_in_is_of}
use Rattle.determinize_regex.proofs.regex.Regex.find.Goals as goal

pub returns-clause-leftmost : goal.returns-clause-leftmost
returns-clause-leftmost g c =
    let is = c.self.invariant.regex in
    rw (← c.self.view_is) (IfOk-weaker c.find.result _ _
    (λ found. (each_leftmost_in_is_of _ _ is.means is.prefix c.args.input.now found).0)
    c.find.ensures.leftmost)
