use Rattle.determinize_dense.proofs.Common.{arith, length, length-map, List, sum_by_more, take_all, ℕ, ◌*◌, ◌+◌}
use Rattle.determinize_dense.proofs.Lists.{items-at}
use Rattle.determinize_dense.proofs.dfa.Dfa.memory_usage.Goals as goal

abbrev list_bytes : List ℕ → ℕ
list_bytes list = 24 + length list * 4

pub loop-list-preserved : goal.loop-list-preserved
loop-list-preserved g c =
    let room = rw c.deref-list-items.ensures.value at c.loop-list-test.true in
    let list = items-at (λ list. list.items) c.self.inside.patterns.items room
    (rw c.deref-list-items.ensures.value at c.list-item.is) in
    rw (← c.self.view_is) (grind (arith, length-map, list, sum_by_more list_bytes))

pub returns : goal.returns
returns g c = rw (take_all c.loop-list.list-index c.args.self.now.table.patterns
    (rw (← c.self.view_is, length-map, ← c.deref-list-items.ensures.value) c.loop-list-test.false))
    at c.loop-list.invariant
