use Rattle.determinize_dense.proofs.Common.{arith, length, refl, slice_get_within, ◌<◌}
use Rattle.determinize_dense.proofs.Building.{read-at}
use Rattle.determinize_dense.proofs.build.Builder.entry_above.Goals.{In-Some}
use Rattle.determinize_dense.proofs.build.Builder.entry_above.Goals as goal

inside : (g : _) (c : In-Some g) → c.in-Some.entry < length c.self.inside.next.items
inside g c = omega (arith, c.in-Some.ensures.0, c.in-Some.ensures.1, c.len.ensures, c.alphabet_len.ensures.some)

pub index-requires : goal.index-requires
index-requires g c =
    omega (arith, c.in-Some.ensures.0, c.in-Some.ensures.1, c.len.ensures, c.alphabet_len.ensures.some)

pub returns-in-Some : goal.returns-in-Some
returns-in-Some g c =
    let at = read-at (inside g (goal.at.returns-in-Some g c).In-Some) refl c.index.ensures in
    rw (← c.self.view_is) (slice_get_within c.self.inside.states _ _ (c.self.invariant.entries _ _ at).2)

pub returns-in-None : goal.returns-in-None
returns-in-None g c = rw (← c.self.view_is) (slice_get_within c.self.inside.states 0 _ c.self.invariant.first)
