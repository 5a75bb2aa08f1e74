use Rattle.determinize_dense.proofs.build.Builder.start.Goals as goal

pub returns-clause-many : goal.returns-clause-many
returns-clause-many g c = λ same. rw (← c.self.view_is) (c.place.ensures.many same)

pub place-requires-clause-resolve : goal.place-requires-clause-resolve
place-requires-clause-resolve g c = rw c.nfa-nfa.ensures at c.in_ok-state.ensures.resolve

pub returns-clause-stays : goal.returns-clause-stays
returns-clause-stays g c = rw (← c.self.view_is) c.place.ensures.stays

pub returns-clause-next : goal.returns-clause-next
returns-clause-next g c = rw (← c.self.view_is) c.place.ensures.next
