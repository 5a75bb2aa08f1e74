use Rattle.determinize_dense.proofs.Common.{arith, columns_of, length, refl, rules, slice_get, Some, ◌*◌, ◌+◌, ◌-◌, ◌<◌}
use Rattle.determinize_dense.proofs.Common.{◌≡◌}
use Rattle.determinize_dense.proofs.Building.{next_row-before, read-at}
use Rattle.determinize_dense.proofs.build.Builder.repeated.Goals.{After-nfa}
use Rattle.determinize_dense.proofs.build.Builder.repeated.Goals as goal

at-row : (g : _) (c : After-nfa g) → slice_get c.self.inside.states c.args.row ≡ Some c.index-as_slice-row.result
at-row g c =
    let room : c.args.row < length c.self.inside.states = rw (← c.self.view_is) at c.requires.row in
    read-at room c.as_slice.ensures c.index-as_slice-row.is

-- the column is that of a byte
inside : (g : _) (c : After-nfa g) → c.args.column < length c.self.inside.classes.firsts
inside g c =
    let below : c.args.column < length c.representatives-bytes.result.now = grind (arith, c.if-column-bytes.false) in
    rw c.representatives-bytes.ensures.firsts at below

pub steps_alike-requires-clause-changes : goal.steps_alike-requires-clause-changes
steps_alike-requires-clause-changes g c =
    let d = (goal.at.steps_alike-requires-clause-changes g c).After-nfa in
    rw c.nfa.ensures ((rw (← c.self.view_is) at c.requires.changes) c.index-as_slice-row.result (at-row g d))

pub steps_alike-requires-clause-order : goal.steps_alike-requires-clause-order
steps_alike-requires-clause-order g c =
    let d = (goal.at.steps_alike-requires-clause-order g c).After-nfa in
    let from : 0 < c.args.column = grind (arith, c.if-column-eq0.false) in
    let ascends = c.self.invariant.sound.ascend (c.args.column - 1) c.args.column (omega (arith, from)) (inside g d) in
    rw c.representatives-bytes.ensures.firsts (omega (arith, ascends))

pub returns : goal.returns
returns g c =
    let d = (goal.at.returns g c).After-nfa in
    let from : 0 < c.args.column = grind (arith, c.if-column-eq0.false) in
    let count : length c.self.inside.next.items ≡ c.args.row * columns_of c.self.inside.classes + c.args.column =
    rw (← c.self.view_is) at c.requires.entry in
    let long : c.len.result ≡ length c.self.inside.next.items = search rules in
    let place : c.len.result - 1 ≡ c.args.row * columns_of c.self.inside.classes + (c.args.column - 1) =
    omega (arith, from, count, long) in
    let there : c.args.row * columns_of c.self.inside.classes + (c.args.column - 1) < length c.self.inside.next.items =
    omega (arith, from, count) in
    rw (← c.self.view_is) (next_row-before _ c.self.invariant c.args.row c.args.column c.index.result.now
    c.index-as_slice-row.result (at-row g d) from (inside g d)
    (read-at there refl (rw place at c.index.ensures))
    (rw (c.nfa.ensures, c.representatives-bytes.ensures.firsts)
    at (c.steps_alike.ensures c.if-not-steps_alike.false c.self.inside.match_kind)))

pub bounds-as_slice-row : goal.bounds-as_slice-row
bounds-as_slice-row g c = rw c.as_slice.ensures (rw (← c.self.view_is) at c.requires.row)

pub index-requires : goal.index-requires
index-requires g c =
    let from : 0 < c.args.column = grind (arith, c.if-column-eq0.false) in
    let count : length c.self.inside.next.items ≡ c.args.row * columns_of c.self.inside.classes + c.args.column =
    rw (← c.self.view_is) at c.requires.entry in
    omega (arith, from, count, c.len.ensures)

pub bounds-bytes-column : goal.bounds-bytes-column
bounds-bytes-column g c = omega (arith, c.if-column-bytes.false)

pub overflow_sub-len : goal.overflow_sub-len
overflow_sub-len g c =
    let count : length c.self.inside.next.items ≡ c.args.row * columns_of c.self.inside.classes + c.args.column =
    rw (← c.self.view_is) at c.requires.entry in
    omega (arith, c.if-column-eq0.false, count, c.len.ensures)

pub overflow_sub-before : goal.overflow_sub-before
overflow_sub-before g c = omega (arith, c.if-column-eq0.false)

pub bounds-bytes-column-2 : goal.bounds-bytes-column-2
bounds-bytes-column-2 g c = c.if-column-bytes.false
