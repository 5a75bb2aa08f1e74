use Rattle.determinize_nfa.proofs.Common.{node_of, rules, true, ◌≡◌}
use Rattle.determinize_nfa.proofs.prefixes.Parts.{Decides-apart}
use Rattle.determinize_nfa.proofs.prefix.has_prefix_apart.Goals as goal

pub returns-then-has_prefix : goal.returns-then-has_prefix
returns-then-has_prefix g c =
    let h : c.has_prefix.result ≡ true = search rules in
    Decides-apart c.args.nfa.now c.start_unanchored-start.result c.second_alternate-skip.result
    (node_of c.state.result.now) c.leads_alone.result (c.has_prefix.ensures.0 h)
    c.start_unanchored-start.ensures.value c.state.ensures.state c.second_alternate-skip.ensures c.leads_alone.ensures
