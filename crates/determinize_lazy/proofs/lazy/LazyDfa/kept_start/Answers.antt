use Rattle.determinize_lazy.proofs.{start-kept, sym, ◌∙◌}
use Rattle.determinize_lazy.proofs.lazy.LazyDfa.kept_start.Goals as goal

pub returns-clause-at : goal.returns-clause-at
returns-clause-at g c =
    let number_is = rw c.nfa.ensures at (sym c.in_ok-number.was ∙ c.start_number.ensures.value) in
    rw (← c.self.view_is)
    (start-kept _ c.self.inside.table _ _ _ c.start.result c.self.invariant.starts number_is c.start.ensures)
