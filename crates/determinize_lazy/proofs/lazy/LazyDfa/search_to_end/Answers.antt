use Rattle.determinize_lazy.proofs.{all_read, ap, below_next, come-next, come_twice, cursor_value, end-here, fails-next}
use Rattle.determinize_lazy.proofs.{false, grows-more, IfOk-from_err, IfOk-weaker, inl, inr, is_last, length, of_err}
use Rattle.determinize_lazy.proofs.{on_err_weaker, Place, place, read_all, slice_get, Some, sym, tag-last, true, unit-here, unit-last, units, ◌∙◌, ◌≡◌}
use Rattle.determinize_lazy.proofs.lazy.LazyDfa.search_to_end.Goals.{After-ahead}
use Rattle.determinize_lazy.proofs.lazy.LazyDfa.search_to_end.Goals as goal

-- the search does not stop after the bytes
more : (g : _) (c : After-ahead g)
    → is_last c.args.earliest (cursor_value c.search_bytes.new.self.states c.in_ok-at.at.cursor) ≡ false
more g c = tag-last c.args.earliest c.tag_at.result.bits (cursor_value c.search_bytes.new.self.states
    c.in_ok-at.at.cursor) c.tag_at.ensures c.is_last.ensures c.if-is_last.false

-- so all of them are read
ahead : (g : _) (c : After-ahead g) → (c.in_ok-at.at.read ≡ length c.args.text.now.bytes)
    × (slice_get (units c.args.text.now) c.in_ok-at.at.read ≡ Some c.ahead.result)
ahead g c =
    let all = read_all c.args.earliest _ (place c.search_bytes.new.self c.in_ok-at.at) c.in_ok-at.ensures.stopped
    c.in_ok-at.ensures.at.within (more g c) in
    (all, unit-last c.args.text.now c.in_ok-at.at.read all ∙ ap Some (sym c.ahead.ensures))

pub returns-in_err-at : goal.returns-in_err-at
returns-in_err-at g c = record {
  position = IfOk-from_err _ _ c.from_residual.ensures.0;
  place = IfOk-from_err _ _ c.from_residual.ensures.0;
  failed = of_err _ (c.in_err-at.ensures.failed true _ (unit-here c.args.text.now));
  grows = c.in_err-at.ensures.grows;
}

pub returns-then-is_last : goal.returns-then-is_last
returns-then-is_last g c =
    let h = c.in_ok-at.ensures.at.come true _ (unit-here c.args.text.now) in record {
      position = c.in_ok-at.ensures.at.position;
      place = sym (end-here h (inr (tag-last c.args.earliest c.tag_at.result.bits
          (cursor_value c.search_bytes.new.self.states c.in_ok-at.at.cursor) c.tag_at.ensures c.is_last.ensures
          c.if-is_last.true)));
      failed = tt;
      grows = h.grows;
    }

pub returns : goal.returns
returns g c =
    let d = (goal.at.returns g c).After-ahead in
    let h = c.in_ok-at.ensures.at.come true _ (unit-here c.args.text.now) in record {
      position = IfOk-weaker c.advance.result _ _ (λ at n. n.position) c.advance.ensures.next;
      place = IfOk-weaker c.advance.result _ _ (λ at n. sym (end-here
          (come_twice h (come-next (ahead g d).1 (more g d) n.place n.grows))
          (inl (rw (ap (λ (p : Place). p.read) n.place)
          (all_read c.args.text.now (below_next c.in_ok-at.at.read) (ahead g d).0))))) c.advance.ensures.next;
      failed = on_err_weaker c.advance.result (fails-next h (ahead g d).1 (more g d)) c.advance.ensures.failed;
      grows = grows-more h.grows c.advance.ensures.grows;
    }
