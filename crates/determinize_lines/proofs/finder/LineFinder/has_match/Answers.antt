use Rattle.determinize_lines.proofs.Alone.{matched_by_dfa, matched_by_regex}
use Rattle.determinize_lines.proofs.finder.LineFinder.has_match.Goals as goal
use Rattle.determinize_regex.proofs.Common.{IfOk-weaker}

pub returns-in-Some-clause-found : goal.returns-in-Some-clause-found
returns-in-Some-clause-found c =
    let is = c.self.invariant in
    let for = is.built c.in-Some.dfa c.in-Some.is in
    rw (← c.self.view_is) (matched_by_dfa c.self.inside.matcher c.self.inside.nfa.now is.is c.args.line.now
    (rw c.new-input.ensures.value at c.input_law.ensures.bytes) c.is_match.result
    (rw (for.over, c.new-input.ensures.value) at (c.is_match.ensures.accepts c.new-input.ensures.open)))

pub returns-in-None-clause-found : goal.returns-in-None-clause-found
returns-in-None-clause-found c =
    rw (← c.self.view_is) (IfOk-weaker c.is_match-in-None.result _ _
    (matched_by_regex c.self.inside.matcher c.args.line.now)
    (rw c.new-input.ensures.value at c.is_match-in-None.ensures.found))
