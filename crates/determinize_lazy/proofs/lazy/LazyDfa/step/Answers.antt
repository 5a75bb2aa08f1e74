use Rattle.determinize_lazy.proofs.{dead, lazy-sound, refl, slice_get-get_or, stepped_at}
use Rattle.determinize_lazy.proofs.lazy.LazyDfa.step.Goals as goal

pub returns-in-Some : goal.returns-in-Some
returns-in-Some g c =
    let inside = rw (← c.self.view_is, c.in-Cached.is) at c.requires.cursor in
    rw (← c.self.view_is, c.in-Cached.is) (stepped_at _ _ c.args.unit c.in-Some.next (lazy-sound c.self.invariant refl)
    (c.in-Some.ensures _ (slice_get-get_or c.self.inside.table.states c.in-Cached.id dead inside)))
