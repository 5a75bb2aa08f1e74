use Rattle.determinize_lazy.proofs.{ap, over-text, rules, start_for, sym, text_of, ◌∙◌, ◌≡◌}
use Rattle.determinize_lazy.proofs.lazy.LazyDfa.search_range.Goals as goal

pub returns-then-is_reverse-clause-over : goal.returns-then-is_reverse-clause-over
returns-then-is_reverse-clause-over g c =
    let direction : c.is_reverse-is_reverse.result ≡ c.args.self.now.nfa.reverse = search rules in
    let start : c.start_for-start.result ≡ start_for c.args.self.now.nfa c.get_anchored.result
    = search rules in
    over-text (start ∙ ap (λ a. start_for c.args.self.now.nfa a) c.get_anchored.ensures)
    (c.of_input.ensures ∙ ap (λ b. text_of b c.args.input.now) (sym c.if-is_reverse.true ∙ direction))
    c.search_text.ensures.over

pub returns-else-is_reverse-clause-over : goal.returns-else-is_reverse-clause-over
returns-else-is_reverse-clause-over g c =
    let direction : c.is_reverse-is_reverse.result ≡ c.args.self.now.nfa.reverse = search rules in
    let start : c.start_for-start.result ≡ start_for c.args.self.now.nfa c.get_anchored.result
    = search rules in
    over-text (start ∙ ap (λ a. start_for c.args.self.now.nfa a) c.get_anchored.ensures)
    (c.of_input-else-is_reverse.ensures ∙ ap (λ b. text_of b c.args.input.now) (sym c.if-is_reverse.false ∙ direction))
    c.search_text-else-is_reverse.ensures.over
