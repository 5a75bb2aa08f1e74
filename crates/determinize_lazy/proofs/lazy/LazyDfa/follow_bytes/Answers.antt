use Rattle.determinize_lazy.proofs.{dead, followed-next, lazy-sound, rules, slice_get-get_or, unit-here, ◌≡◌}
use Rattle.determinize_lazy.proofs.lazy.LazyDfa.follow_bytes.Goals as goal

pub loop-read-preserved : goal.loop-read-preserved
loop-read-preserved g c =
    let state_is : c.in_ok-clone.field-0 ≡ c.get.result.now = search rules in
    rw (c.in_ok-push.ensures.items, state_is)
    (followed-next (lazy-sound c.self.invariant c.self.view_is) c.loop-read.invariant
    (unit-here c.args.text.now _ _ c.byte.ensures)
    (rw (← c.self.view_is) c.in-Some.ensures) (rw (← c.self.view_is) c.get.ensures))

pub get-requires : goal.get-requires
get-requires g c =
    (c.in-Some.ensures _ (slice_get-get_or c.self.inside.table.states c.loop-read.id dead
    (rw (← c.self.view_is) at c.loop-read.invariant.inside))).1
