use Rattle.determinize_lazy.proofs.{cached_place, goes-next, GoesToCached, lazy-sound, next-cached, Some, ◌+◌}
use Rattle.determinize_lazy.proofs.lazy.LazyDfa.follow.Goals.{After-or_match-at}
use Rattle.determinize_lazy.proofs.lazy.LazyDfa.follow.Goals as goal

-- one byte more
next : (g : _) (c : After-or_match-at g) → GoesToCached c.args.earliest c.args.text.now
    (cached_place c.args.self.now c.args.from) c.args.self.now
    (record { id = c.in-Some.id; read = c.loop-at.at.read + 1; last = c.or_match-at.result })
next g c =
    let (more, next) = next-cached c.args.self.now (lazy-sound c.self.invariant c.self.view_is) c.loop-at.at
    c.loop-at.invariant.position (Some c.byte-byte.result) c.in-Some.id (rw (← c.self.view_is) c.in-Some.ensures)
    c.tag-tag.result.bits (rw (← c.self.view_is) c.tag-tag.ensures) c.args.earliest c.is_last.ensures
    c.if-is_last.false c.or_match-at.result c.or_match-at.ensures in
    goes-next c.loop-at.invariant c.byte-byte.ensures more next

pub returns-then-row-stop : goal.returns-then-row-stop
returns-then-row-stop g c = next g (goal.at.returns-then-row-stop g c).After-or_match-at

pub loop-at-preserved : goal.loop-at-preserved
loop-at-preserved g c = next g (goal.at.loop-at-preserved g c).After-or_match-at
