use Rattle.determinize_regex.proofs.Common.{IfOk-weaker}
use Rattle.determinize_regex.proofs.FoundOfPatterns.{matched_by}
use Rattle.determinize_regex.proofs.regex.Regex.is_match.Goals as goal

pub returns-clause-found : goal.returns-clause-found
returns-clause-found g c =
    let is = c.self.invariant.regex in
    rw (← c.self.view_is) (IfOk-weaker c.is_match.result _ _ (matched_by _ _ is.means is.prefix c.args.input.now)
    c.is_match.ensures.found)
