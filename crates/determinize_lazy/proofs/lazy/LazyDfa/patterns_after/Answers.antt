use Rattle.determinize_lazy.proofs.{ap, arith, at-text, cache, end-left, EndsAt, false, first_place, has_read}
use Rattle.determinize_lazy.proofs.{IfOk-weaker, inl, inr, length, lists-end, read_none, rules, searched-in, start_for}
use Rattle.determinize_lazy.proofs.{start_value, sym, Text, text_of, true≢false, units, ◌∙◌, ◌≡◌}
use Rattle.determinize_lazy.proofs.lazy.LazyDfa.patterns_after.Goals.{After-search_to_end}
use Rattle.determinize_lazy.proofs.lazy.LazyDfa.patterns_after.Goals as goal

-- the text that is read
text : (g : _) (c : After-search_to_end g)
    → c.of_input-text.result ≡ text_of c.args.self.now.nfa.reverse c.args.input.now
text g c =
    let direction : c.is_reverse.result ≡ c.args.self.now.nfa.reverse = search rules in
    c.of_input-text.ensures ∙ ap (λ b. text_of b c.args.input.now) direction

-- where the search of it ends
end : (g : _) (c : After-search_to_end g) → let t = text_of c.args.self.now.nfa.reverse c.args.input.now in
    EndsAt false (units t) (first_place (cache c.args.self.now) (start_value c.args.self.now.nfa
    (start_for c.args.self.now.nfa c.args.input.now.anchored) t.behind)) c.search_to_end.result c.search_to_end.new.self
end g c =
    let start : c.start_for-start.result ≡ start_for c.args.self.now.nfa c.get_anchored.result = search rules in
    at-text (λ s t. EndsAt false (units t) (first_place (cache c.args.self.now)
    (start_value c.args.self.now.nfa s t.behind)) c.search_to_end.result c.search_to_end.new.self)
    (start ∙ ap (λ a. start_for c.args.self.now.nfa a) c.get_anchored.ensures) (text g c)
    (rw (c.start-2.ensures, c.in_ok-cursor.ensures.value, c.in_ok-cursor.ensures.unchanged, c.behind.ensures)
    at c.search_to_end.ensures)

pub returns-in_err-cursor-clause-cache : goal.returns-in_err-cursor-clause-cache
returns-in_err-cursor-clause-cache g c = searched-in (sym c.is_done.ensures ∙ c.if-is_done.false)
    (read_none c.from_residual.ensures.0 c.in_err-cursor.ensures.unchanged)

pub returns-then-at-len : goal.returns-then-at-len
returns-then-at-len g c =
    let d = (goal.at.returns-then-at-len g c).After-search_to_end in
    let more = sym c.is_done.ensures ∙ c.if-is_done.false in
    let ends = rw c.in_ok-at.was at (end g d) in record {
      lists = λ _. lists-end (cache c.args.self.now) _ _ _ _ c.in_ok-cursor.ensures.sound.accepted ends.place (inl (
        omega (arith, c.if-at-len.true, c.len.ensures.value, ap (λ (t : Text). length t.bytes) (text g d)),
        c.new-then-at-len.ensures.items,
      ));
      done = λ e. absurd (true≢false (sym e ∙ more));
      cache = searched-in more (has_read c.in_ok-cursor.ensures.sound (end-left ends _));
    }

pub returns : goal.returns
returns g c =
    let d = (goal.at.returns g c).After-search_to_end in
    let more = sym c.is_done.ensures ∙ c.if-is_done.false in
    let ends = rw c.in_ok-at.was at (end g d) in record {
      lists = λ _. IfOk-weaker c.patterns_at.result _ _ (λ ids is. lists-end (cache c.args.self.now) _ _ _ _
          c.in_ok-cursor.ensures.sound.accepted ends.place (inr (
            omega (arith, c.if-at-len.false, c.len.ensures.value, ap (λ (t : Text). length t.bytes) (text g d)),
            is,
          ))) c.patterns_at.ensures;
      done = λ e. absurd (true≢false (sym e ∙ more));
      cache = searched-in more (has_read c.in_ok-cursor.ensures.sound (end-left ends _));
    }
