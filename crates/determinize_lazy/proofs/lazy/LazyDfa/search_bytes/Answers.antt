use Rattle.determinize_lazy.proofs.{cache, cursor_value, Fails, fails-next, false, goes-next, goes_twice, is_last, more-still, of_err, place, tag-last, ◌≡◌}
use Rattle.determinize_lazy.proofs.lazy.LazyDfa.search_bytes.Goals.{After-byte-byte}
use Rattle.determinize_lazy.proofs.lazy.LazyDfa.search_bytes.Goals as goal

-- the search does not stop at the position
more : (g : _) (c : After-byte-byte g)
    → is_last c.args.earliest (cursor_value c.loop-at.self.states c.loop-at.at.cursor) ≡ false
more g c = tag-last c.args.earliest c.tag_at.result.bits (cursor_value c.loop-at.self.states c.loop-at.at.cursor)
    c.tag_at.ensures c.is_last.ensures c.if-is_last.false

pub returns-in_err-next-clause-failed : goal.returns-in_err-next-clause-failed
returns-in_err-next-clause-failed g c =
    of_err _ {P = Fails c.args.earliest c.args.text.now (place c.args.self.now c.args.from) (cache c.advance.new.self)}
    (λ e us begins. fails-next (c.loop-at.invariant.come e us begins) (begins _ _ c.byte-byte.ensures)
    (more-still e c.args.earliest
    (cursor_value c.loop-at.self.states c.loop-at.at.cursor)
    (more g (goal.at.returns-in_err-next-clause-failed g c).After-byte-byte))
    c.in_err-next.ensures.failed)

pub loop-at-preserved : goal.loop-at-preserved
loop-at-preserved g c =
    goes_twice (goes-next c.loop-at.invariant c.byte-byte.ensures
    (more g (goal.at.loop-at-preserved g c).After-byte-byte) c.in_ok-next.ensures.next) c.run-at.ensures.goes
