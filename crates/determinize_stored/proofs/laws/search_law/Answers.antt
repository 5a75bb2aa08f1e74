use Rattle.determinize_stored.proofs.Paths.{finds}
use Rattle.determinize_stored.proofs.laws.search_law.Goals as goal

pub returns : goal.returns
returns c = λ nfa s asked accepted is _ small. finds nfa s accepted is asked small
