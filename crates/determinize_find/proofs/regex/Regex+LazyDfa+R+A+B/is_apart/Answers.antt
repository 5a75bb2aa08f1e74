use Rattle.determinize_find.proofs.regex.Regex+LazyDfa+R+A+B.is_apart.Goals as goal

pub returns-then-self : goal.returns-then-self
returns-then-self g c = rw (← c.self.view_is) (λ e. c.self.invariant.apart c.if-self.true, λ m. c.if-self.true)

pub returns-else-self : goal.returns-else-self
returns-else-self g c = rw (← c.self.view_is) (rw c.nfa.ensures.value at c.has_prefix_apart.ensures)
