use Rattle.determinize_lazy.proofs.{ap, at-end, cache, cursor_value, false, first_place, HasCome, HasStopped}
use Rattle.determinize_lazy.proofs.{last_match-within, lazy-known, LazyValue, left-at, left_err, length, length-map, map, place, rules, Some, true, ◌∙◌}
use Rattle.determinize_lazy.proofs.lazy.LazyDfa.read_piece.Goals.{After-found-last}
use Rattle.determinize_lazy.proofs.lazy.LazyDfa.read_piece.Goals as goal

pub returns-in_err-at-clause-left : goal.returns-in_err-at-clause-left
returns-in_err-at-clause-left g c = left_err c.from_residual.ensures.0
    (rw c.start.ensures at (c.in_err-at.ensures.failed true (map Some c.args.piece.now)
    (rw c.new-text.ensures (λ i b at. at)))) c.in_err-at.ensures.grows

-- the search of the piece, and that it stops there
come : (g : _) (c : After-found-last g) → HasCome false (map Some c.args.piece.now)
    (first_place (cache c.args.self.now) (cursor_value c.args.self.now.states c.args.start))
    (place c.search_bytes.new.self c.in_ok-at.at)
come g c = rw c.start.ensures at (c.in_ok-at.ensures.at.come true (map Some c.args.piece.now)
    (rw c.new-text.ensures (λ i b at. at)))

stopped : (g : _) (c : After-found-last g)
    → HasStopped false (length (map Some c.args.piece.now)) (place c.search_bytes.new.self c.in_ok-at.at)
stopped g c = rw (c.new-text.ensures, ← length-map c.args.piece.now Some) at c.in_ok-at.ensures.stopped

pub returns-in_err-state-clause-left : goal.returns-in_err-state-clause-left
returns-in_err-state-clause-left g c =
    let d = (goal.at.returns-in_err-state-clause-left g c).After-found-last in left-at (come g d) (stopped g d) _

pub invariant_of-result : goal.invariant_of-result
invariant_of-result g c =
    let d = (goal.at.invariant_of-result g c).After-found-last in
    let last = c.found-last.ensures ∙ (at-end (come g d) (stopped g d)).0 in
    rw (last, ← length-map c.args.piece.now Some) (last_match-within c.args.self.now.nfa c.args.self.now.kind
    (cursor_value c.args.self.now.states c.args.start) (map Some c.args.piece.now))

pub returns : goal.returns
returns g c =
    let d = (goal.at.returns g c).After-found-last in
    let (last, value) = at-end (come g d) (stopped g d) in
    let is = c.in_ok-state.ensures
    ∙ ap (λ (x : LazyValue). cursor_value x.states c.in_ok-at.at.cursor) c.self.view_is in record {
      read = record { state = is ∙ value; last = c.found-last.ensures ∙ last; read = search rules };
      resolve = rw (c.in_ok-state.ensures, ← c.self.view_is) (lazy-known c.self.invariant c.self.view_is
          c.in_ok-at.at.cursor c.in_ok-at.ensures.at.position.ready).resolve;
      left = left-at (come g d) (stopped g d) _;
    }
