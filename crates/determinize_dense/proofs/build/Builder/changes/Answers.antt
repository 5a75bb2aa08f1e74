use Rattle.determinize_dense.proofs.Common.{arith, false, false≢true, get_or-replicate, of_some, slice_get, Some, sym}
use Rattle.determinize_dense.proofs.Common.{true, ◌+◌, ◌∙◌, ◌≡◌}
use Rattle.determinize_dense.proofs.Building.{read-at}
use Rattle.determinize_dense.proofs.build.Builder.changes.Goals as goal

pub returns-then-alphabet_len-lt-SHARING : goal.returns-then-alphabet_len-lt-SHARING
returns-then-alphabet_len-lt-SHARING g c = λ v got b below no.
    absurd (false≢true (sym no ∙ get_or-replicate 256 (b + 1) true false (omega (arith, below))))

pub changes-requires : goal.changes-requires
changes-requires g c =
    let here : slice_get c.self.inside.states c.args.row ≡ Some c.index-as_slice-row.result =
    read-at (rw (← c.self.view_is) at c.requires) c.as_slice.ensures c.index-as_slice-row.is in
    rw c.nfa.ensures (c.self.invariant.resolve c.args.row _ here)

pub returns : goal.returns
returns g c = λ v got.
    let here : slice_get c.self.inside.states c.args.row ≡ Some c.index-as_slice-row.result =
    read-at (rw (← c.self.view_is) at c.requires) c.as_slice.ensures c.index-as_slice-row.is in
    let same : c.index-as_slice-row.result ≡ v = of_some (sym here ∙ (rw (← c.self.view_is) at got)) in
    rw (← same, ← c.self.view_is, ← c.nfa.ensures) c.changes.ensures

pub bounds-as_slice-row : goal.bounds-as_slice-row
bounds-as_slice-row g c = rw c.as_slice.ensures (rw (← c.self.view_is) at c.requires)
