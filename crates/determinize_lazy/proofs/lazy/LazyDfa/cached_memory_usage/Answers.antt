use Rattle.determinize_lazy.proofs.{arith, few_bytes}
use Rattle.determinize_lazy.proofs.lazy.LazyDfa.cached_memory_usage.Goals as goal

pub returns-clause-most : goal.returns-clause-most
returns-clause-most g c =
    let few = few_bytes c.self.inside.limit (g.R.AsNfa.nfa c.self.inside.nfa) c.self.inside.table.states
    c.self.invariant.within c.self.invariant.known in
    rw (← c.self.view_is) (omega (arith, few, c.memory_usage.ensures.value))
