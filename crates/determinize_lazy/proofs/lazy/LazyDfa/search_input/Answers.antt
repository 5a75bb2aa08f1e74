use Rattle.determinize_lazy.proofs.{cache, false, has_read, is-result, is_done, IsSearch, left_whole, none-done}
use Rattle.determinize_lazy.proofs.{offset-within, rules, search-is, searched-in, start_for, sym, text_of, ◌∙◌, ◌≡◌}
use Rattle.determinize_lazy.proofs.lazy.LazyDfa.search_input.Goals.{In_ok-found}
use Rattle.determinize_lazy.proofs.lazy.LazyDfa.search_input.Goals as goal

pub returns-then-is_done-clause-search : goal.returns-then-is_done-clause-search
returns-then-is_done-clause-search g c = none-done c.args.input.now (sym c.is_done.ensures ∙ c.if-is_done.true)

-- the search of the text
answer : (g : _) (c : In_ok-found g) → let v = c.args.self.now in IsSearch v.nfa v.kind
    (start_for v.nfa c.args.input.now.anchored) (text_of v.nfa.reverse c.args.input.now) c.in_ok-found.found
answer g c = search-is (cache c.args.self.now) _ _ c.search_range.ensures.sound.accepted
    c.in_ok-found.ensures.over.last

pub in_haystack-requires-clause-within : goal.in_haystack-requires-clause-within
in_haystack-requires-clause-within g c =
    offset-within c.args.input.now (answer g (goal.at.in_haystack-requires-clause-within g c).In_ok-found)

pub returns : goal.returns
returns g c =
    let more : is_done c.args.input.now ≡ false = sym c.is_done.ensures ∙ c.if-is_done.false in
    let direction : c.is_reverse.result ≡ c.args.self.now.nfa.reverse = search rules in record {
      search = is-result c.search_range.ensures.sound.accepted more direction c.in_haystack.ensures.value
          c.in_haystack.ensures.within (answer g (goal.at.returns g c).In_ok-found);
      done = search rules;
      cache = searched-in more (has_read c.search_range.ensures.sound (left_whole _
          c.in_ok-found.ensures.over.left.after c.in_ok-found.ensures.over.left.grows));
    }
