use Rattle.determinize_dense.proofs.Common.{append-nil, arith, of_some, rules, slice_get, Some, sym, ◌∙◌, ◌≡◌}
use Rattle.determinize_dense.proofs.Building.{read-at}
use Rattle.determinize_dense.proofs.build.Builder.list_ids.Goals as goal

pub returns-clause-ids : goal.returns-clause-ids
returns-clause-ids g c = λ v got.
    let here : slice_get c.self.inside.states c.args.row ≡ Some c.index-as_slice-row.result =
    read-at (rw (← c.self.view_is) at c.requires) c.as_slice.ensures c.index-as_slice-row.is in
    let same : c.index-as_slice-row.result ≡ v = of_some (sym here ∙ (rw (← c.self.view_is) at got)) in
    let all : c.loop-id.ids.items ≡ c.into_iter-id-iterator.result =
    rw (c.in-None.ensures.steps.0, append-nil, c.clear.ensures.items) at c.loop-id.invariant in
    let ids : c.loop-id.ids.items ≡ c.index-as_slice-row.result.states = search rules in
    rw (← same) (grind (arith, c.if-not-is_empty.false, c.is_empty.ensures.value, c.look_need.ensures), sym ids)

pub bounds-as_slice-row : goal.bounds-as_slice-row
bounds-as_slice-row g c = rw c.as_slice.ensures (rw (← c.self.view_is) at c.requires)

pub returns-clause-within : goal.returns-clause-within
returns-clause-within g c = c.requires
