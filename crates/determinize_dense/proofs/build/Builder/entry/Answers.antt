use Rattle.determinize_dense.proofs.Common.{byte_of, length, refl, rules, slice_get, Some, unit_at, ◌<◌, ◌≡◌}
use Rattle.determinize_dense.proofs.Building.{err-as, next_row-placed, out-of-memory, read-at, stays-same, unit_at-unit}
use Rattle.determinize_dense.proofs.Reached.{reached-step}
use Rattle.determinize_dense.proofs.build.Builder.entry.Goals.{After-next_lent}
use Rattle.determinize_dense.proofs.build.Builder.entry.Goals as goal

at-row : (g : _) (c : After-next_lent g)
    → slice_get c.self.inside.states c.args.row ≡ Some c.index-as_slice-row.result
at-row g c =
    let room : c.args.row < length c.self.inside.states = rw (← c.self.view_is) at c.requires.row in
    read-at room c.as_slice.ensures c.index-as_slice-row.is

unit-is : (g : _) (c : After-next_lent g) → byte_of c.unit-unit.result ≡ unit_at c.self.inside.classes c.args.column
unit-is g c = rw (← c.self.view_is) at c.unit-unit.ensures

pub place-requires-clause-reached : goal.place-requires-clause-reached
place-requires-clause-reached g c =
    let d = (goal.at.place-requires-clause-reached g c).After-next_lent in
    rw (c.in_ok-next.ensures.ok, c.nfa.ensures, unit-is g d)
    (reached-step _ _ _ _ (c.self.invariant.reached c.args.row _ (at-row g d))
    (unit_at-unit c.self.inside.classes c.self.invariant.sound c.args.column))

pub returns-in_err-entry-clause-many : goal.returns-in_err-entry-clause-many
returns-in_err-entry-clause-many g c = λ same.
    rw (← c.self.view_is) (c.in_err-entry.ensures.many (err-as same (search rules)))

pub returns-clause-at : goal.returns-clause-at
returns-clause-at g c =
    let d = (goal.at.returns-clause-at g c).After-next_lent in
    rw (← c.self-2.view_is) at (next_row-placed c.in_ok-entry.ensures.stays
    c.args.row c.args.column c.in_ok-entry.entry c.index-as_slice-row.result c.in_ok-next.next (at-row g d)
    (rw (← c.nfa.ensures, ← unit-is g d) c.in_ok-next.ensures.ok) c.in_ok-entry.ensures.at)

pub of_base-requires : goal.of_base-requires
of_base-requires g c = record {
  row = c.requires.row;
  column = c.requires.column;
  base = c.requires.base;
  entry = c.requires.entry;
}

pub repeated-requires : goal.repeated-requires
repeated-requires g c = record { row = c.requires.row; changes = c.requires.changes; entry = c.requires.entry }

pub next_lent-requires : goal.next_lent-requires
next_lent-requires g c = rw c.nfa.ensures (c.self.invariant.resolve c.args.row _
    (read-at (rw (← c.self.view_is) at c.requires.row) c.as_slice.ensures c.index-as_slice-row.is))

pub place-requires-clause-resolve : goal.place-requires-clause-resolve
place-requires-clause-resolve g c = rw c.nfa.ensures at c.in_ok-next.ensures.resolve

pub place-requires-clause-likely : goal.place-requires-clause-likely
place-requires-clause-likely g c = c.entry_above.ensures

pub returns-in-Some-clause-stays : goal.returns-in-Some-clause-stays
returns-in-Some-clause-stays g c = stays-same c.args.self.now

pub returns-clause-stays : goal.returns-clause-stays
returns-clause-stays g c = rw (← c.self.view_is) (rw (← c.self-2.view_is) at c.in_ok-entry.ensures.stays)

pub returns-clause-next : goal.returns-clause-next
returns-clause-next g c = rw (← c.self.view_is) (rw (← c.self-2.view_is) at c.in_ok-entry.ensures.next)

pub returns-in_err-next-clause-many : goal.returns-in_err-next-clause-many
returns-in_err-next-clause-many g c = out-of-memory c.from_residual.ensures.1

pub returns-in_err-next-clause-next : goal.returns-in_err-next-clause-next
returns-in_err-next-clause-next g c = rw (← c.self.view_is) refl

pub returns-in_err-entry-clause-next : goal.returns-in_err-entry-clause-next
returns-in_err-entry-clause-next g c = rw (← c.self.view_is) c.in_err-entry.ensures.next

pub returns-in-Some-repeated-clause-at : goal.returns-in-Some-repeated-clause-at
returns-in-Some-repeated-clause-at g c = c.in-Some-repeated.ensures

pub returns-in-Some-clause-at : goal.returns-in-Some-clause-at
returns-in-Some-clause-at g c = c.in-Some.ensures

pub bounds-as_slice-row : goal.bounds-as_slice-row
bounds-as_slice-row g c = rw c.as_slice.ensures (rw (← c.self.view_is) at c.requires.row)
