use Rattle.determinize_find.proofs.Common.{ap, is_match_node, length, rules, sym, ◌∙◌, ◌≡◌}
use Rattle.std.proofs.lemmas.List.Sums.{length-filter}
use Rattle.determinize_find.proofs.regex.Regex+LazyDfa+NFA+A+A+LazyDfa+NFA+A+A.from_nfa.Goals as goal

pub returns-clause-pattern : goal.returns-clause-pattern
returns-clause-pattern g c =
    let same : c.new.result.backward ≡ c.in_ok-backward.backward = search rules in
    rw same (sym (length-filter is_match_node c.in_ok-backward.backward.states)
    ∙ ap length c.in_ok-backward.ensures.pattern)
