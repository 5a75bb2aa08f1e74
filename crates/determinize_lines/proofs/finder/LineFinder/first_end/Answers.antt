use Rattle.determinize_lines.proofs.Alone.{end_by_dfa, end_by_regex}
use Rattle.determinize_lines.proofs.finder.LineFinder.first_end.Goals as goal
use Rattle.determinize_regex.proofs.Common.{IfOk-weaker}

pub returns-in-Some-clause-end : goal.returns-in-Some-clause-end
returns-in-Some-clause-end c =
    let is = c.self.invariant in
    let for = is.built c.in-Some.dfa c.in-Some.is in
    rw (← c.self.view_is) (end_by_dfa c.self.inside.matcher c.self.inside.nfa.now is.is c.args.text.now
    (rw c.new-input.ensures.value at c.input_law.ensures.bytes) c.search_input.result
    (rw (for.over, for.kind, c.new-input.ensures.value) at c.search_input.ensures.search))

pub returns-in-None-clause-end : goal.returns-in-None-clause-end
returns-in-None-clause-end c =
    rw (← c.self.view_is) (IfOk-weaker c.search_half.result _ _ (end_by_regex c.self.inside.matcher c.args.text.now)
    (rw c.new-input.ensures.value at c.search_half.ensures.leftmost))
