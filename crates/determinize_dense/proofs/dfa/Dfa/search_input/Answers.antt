use Rattle.determinize_dense.proofs.Common.{false, is-result, is_done, none-done, offset-within, rules, sym, text_of}
use Rattle.determinize_dense.proofs.Common.{◌∙◌, ◌≡◌}
use Rattle.determinize_dense.proofs.Searching.{found-search}
use Rattle.determinize_dense.proofs.dfa.Dfa.search_input.Goals as goal

pub returns-then-is_done-clause-search : goal.returns-then-is_done-clause-search
returns-then-is_done-clause-search g c = none-done c.args.input.now (sym c.is_done.ensures ∙ c.if-is_done.true)

pub in_haystack-requires-clause-within : goal.in_haystack-requires-clause-within
in_haystack-requires-clause-within g c =
    offset-within c.args.input.now
    (found-search c.args.input.now.anchored
    (text_of c.args.self.now.nfa.reverse c.args.input.now) c.search_range-found.ensures)

pub returns-clause-search : goal.returns-clause-search
returns-clause-search g c =
    let more : is_done c.args.input.now ≡ false = sym c.is_done.ensures ∙ c.if-is_done.false in
    let direction : c.is_reverse.result ≡ c.args.self.now.nfa.reverse = search rules in
    is-result c.search_range-found.ensures.accepted more direction c.in_haystack.ensures.value
    c.in_haystack.ensures.within (found-search c.args.input.now.anchored
    (text_of c.args.self.now.nfa.reverse c.args.input.now) c.search_range-found.ensures)
