use Rattle.determinize_dense.proofs.Common.{AllResolve, arith, Building, byte_of, columns_of, dead, get_or_append_left}
use Rattle.determinize_dense.proofs.Common.{IsBase, IsBuilding, length, length-append, List, mul-add-lt, mul_comm, refl}
use Rattle.determinize_dense.proofs.Common.{slice_get-get_or, unit_at, ℕ, ◌*◌, ◌+◌, ◌<◌, ◌≡◌}
use Rattle.determinize_dense.proofs.Building.{next_row-base, read-at}
use Rattle.determinize_dense.proofs.build.Builder.of_base.Goals.{After-alphabet_len}
use Rattle.determinize_dense.proofs.build.Builder.of_base.Goals as goal

is-base : (g : _) (c : After-alphabet_len g)
    → IsBase c.args.self.now c.args.row c.in-Some.base.row c.in-Some.base.further.now
is-base g c = rw c.in-Some.is at c.requires.base

entry-at : (g : _) (c : After-alphabet_len g)
    → c.in-Some.base.row * columns_of c.self.inside.classes + c.args.column < length c.self.inside.next.items
entry-at g c =
    let below = mul-add-lt c.in-Some.base.row (columns_of c.self.inside.classes) c.args.column c.args.row
    (is-base g c).before (rw (← c.self.view_is) at c.requires.column) in
    let count : length c.self.inside.next.items ≡ c.args.row * columns_of c.self.inside.classes + c.args.column =
    rw (← c.self.view_is) at c.requires.entry in
    omega (arith, below, count, mul_comm (columns_of c.self.inside.classes) c.args.row)

pub index-requires : goal.index-requires
index-requires g c = rw c.alphabet_len.ensures.count (grind (arith, entry-at g c))

pub returns : goal.returns
returns g c =
    let d = (goal.at.returns g c).After-alphabet_len in
    let unit : byte_of c.unit.result ≡ unit_at c.self.inside.classes c.args.column =
    rw (← c.self.view_is) at c.unit.ensures in
    rw (← c.self.view_is) (next_row-base _ c.self.invariant c.args.row c.in-Some.base.row c.args.column
    c.index.result.now c.in-Some.base.further.now (rw (← c.self.view_is) at c.requires.row)
    (rw (← c.self.view_is) at (is-base g d)) (rw (← c.self.view_is) at c.requires.column)
    (read-at (entry-at g d) refl (rw c.alphabet_len.ensures.count at c.index.ensures))
    (rw (← c.nfa.ensures, ← unit) (c.none_gives.ensures c.if-not-none_gives.false)))

-- the further states of a row are states of the NFA
further-resolve : (b : Building) → IsBuilding b → (row base : ℕ) (further : List ℕ) → row < length b.values
    → IsBase b row base further → AllResolve b.nfa further
further-resolve b is row base further room base_is =
    let at = slice_get-get_or b.values row dead room in
    let all = rw (base_is.of_row _ at).1 at (is.resolve row _ at) in
    λ i d h. grind (arith, all i d, get_or_append_left, length-append)

pub none_gives-requires : goal.none_gives-requires
none_gives-requires g c = rw c.nfa.ensures (further-resolve _ c.self.invariant c.args.row c.in-Some.base.row _
    (rw (← c.self.view_is) at c.requires.row) (rw (← c.self.view_is) at (rw c.in-Some.is at c.requires.base)))
