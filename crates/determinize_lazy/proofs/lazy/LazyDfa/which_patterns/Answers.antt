use Rattle.determinize_lazy.proofs.{ap, AreMarked, AreSomeMarked, at-text, cache, Contains, false, first_place}
use Rattle.determinize_lazy.proofs.{has_read, IsLeftBy, lazy-sound, listed_over, marked-matches, on_ok_weaker, OnOk}
use Rattle.determinize_lazy.proofs.{rules, searched-in, some-matches, start_for, start_value, sym, text_of, true≢false, units, ◌∙◌, ◌≡◌}
use Rattle.determinize_lazy.proofs.lazy.LazyDfa.which_patterns.Goals as goal

pub returns : goal.returns
returns g c =
    let v = c.args.self.now in
    let from : c.start_for-start.result ≡ start_for v.nfa c.get_anchored.result = search rules in
    let start = from ∙ ap (λ a. start_for v.nfa a) c.get_anchored.ensures in
    let direction : c.is_reverse.result ≡ v.nfa.reverse = search rules in
    let text = c.of_input-text.ensures ∙ ap (λ b. text_of b c.args.input.now) direction in
    let more = sym c.is_done.ensures ∙ c.if-is_done.false in
    let sound = lazy-sound c.self.invariant c.self.view_is in record {
      marked = λ all _. on_ok_weaker c.mark_text.result
          (marked-matches v.nfa sound.accepted c.args.input.now v.kind all)
          (at-text (λ s t. OnOk c.mark_text.result (AreMarked c.args.found.now (Contains (listed_over v.nfa v.kind s t))
          c.mark_text.new.found)) start text c.mark_text.ensures.marked);
      some = λ _. some-matches v.nfa sound.accepted c.args.input.now v.kind
          (at-text (λ s t. AreSomeMarked c.args.found.now (Contains (listed_over v.nfa v.kind s t))
          c.mark_text.new.found) start text c.mark_text.ensures.some);
      done = λ e. absurd (true≢false (sym e ∙ more));
      cache = searched-in more (has_read sound (at-text (λ s t. IsLeftBy false (units t) (first_place (cache v)
          (start_value v.nfa s t.behind)) c.mark_text.result (cache c.mark_text.new.self)) start text
          c.mark_text.ensures.left));
    }
