use Rattle.determinize_regex.proofs.Common.{IfOk-weaker}
use Rattle.determinize_regex.proofs.FoundOfPatterns.{full_by}
use Rattle.determinize_regex.proofs.regex.Regex.is_full_match.Goals as goal

pub returns-clause-full : goal.returns-clause-full
returns-clause-full g c =
    let is = c.self.invariant.regex in
    rw (← c.self.view_is) (IfOk-weaker c.is_full_match.result _ _ (full_by _ _ is.means c.args.input.now)
    c.is_full_match.ensures.found)
