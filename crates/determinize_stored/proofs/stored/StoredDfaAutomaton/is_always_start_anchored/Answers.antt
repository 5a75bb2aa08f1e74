use Rattle.determinize_core.proofs.Common.{sym}
use Rattle.determinize_stored.proofs.stored.StoredDfaAutomaton.is_always_start_anchored.Goals as goal

pub returns-clause-of : goal.returns-clause-of
returns-clause-of c = λ nfa h. (h.0, h.1)

pub returns-clause-value : goal.returns-clause-value
returns-clause-value c = λ nfa h. sym h.2
