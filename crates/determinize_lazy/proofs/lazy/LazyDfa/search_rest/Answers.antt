use Rattle.determinize_lazy.proofs.{ap, cache, come_none, first_place, grows-more, HasCome, IfOk-from_err, left_err, over-end, place, start_value, units}
use Rattle.determinize_lazy.proofs.lazy.LazyDfa.search_rest.Goals.{in-Some, in-None+in_ok-find_start-in-None, After-search_to_end}
use Rattle.determinize_lazy.proofs.lazy.LazyDfa.search_rest.Goals as goal

-- how far the search has come
come : (g : _) (c : After-search_to_end g) → HasCome c.args.earliest (units c.args.text.now)
    (first_place (cache c.args.self.now) (start_value c.args.self.now.nfa c.args.start c.args.text.now.behind))
    (place c.match-reached.self c.match-reached.from)
come g c = elim c.match-reached.branch [
  | in-Some w ↦ rw (w.self-is, w.from-is, w.with_cursor-from.ensures) (rw w.in-Some.is at c.requires.reached).2
  | in-None+in_ok-find_start-in-None w ↦
      let same = w.in_ok-find_start-in-None.ensures.unchanged in
      rw (w.self-is, w.from-is, w.start-from.ensures, same) (come_none (ap (first_place (cache c.args.self.now))
      (rw (same, w.behind.ensures) at w.in_ok-find_start-in-None.ensures.value)))
]

pub returns-in_err-at : goal.returns-in_err-at
returns-in_err-at g c =
    let h = come g (goal.at.returns-in_err-at g c).After-search_to_end in record {
      last = IfOk-from_err _ _ c.from_residual-in_err-at.ensures.0;
      left = left_err c.from_residual-in_err-at.ensures.0 (h.failed _ c.in_err-at.ensures.failed)
          (grows-more h.grows c.in_err-at.ensures.grows);
    }

pub returns : goal.returns
returns g c = over-end (come g (goal.at.returns g c).After-search_to_end) c.in_ok-at.ensures c.found.ensures
