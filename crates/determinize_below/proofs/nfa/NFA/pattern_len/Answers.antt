use Rattle.determinize_below.proofs.Common.{Nfa, ap, arith, length, length-map, node_of, sym, ◌∙◌}
use Rattle.determinize_below.specs.Edges.{is_match_node, pattern_count}
use Rattle.std.proofs.lemmas.List.Folds.{fold-map}
use Rattle.std.specs.List.{count_by}
use Rattle.determinize_below.proofs.nfa.NFA.pattern_len.Goals as goal

pub returns-clause-count : goal.returns-clause-count
returns-clause-count g c =
    c.match_count.ensures.count ∙ ap (λ xs. count_by (λ s. is_match_node (node_of s)) xs) c.as_slice.ensures.value
    ∙ sym (fold-map _ node_of 0 c.self.inside.states.items) ∙ ap pattern_count c.self.view_is

pub returns-clause-limit : goal.returns-clause-limit
returns-clause-limit g c =
    omega (
      arith,
      c.match_count.ensures.limit,
      length-map c.self.inside.states.items node_of,
      ap (λ (n : Nfa). length n.states) c.self.view_is,
      ap length c.as_slice.ensures.value,
    )

pub returns-clause-accepted : goal.returns-clause-accepted
returns-clause-accepted g c = rw c.self.view_is at c.self.invariant
