use Rattle.determinize_dense.proofs.Searching.{found-decides}
use Rattle.determinize_dense.proofs.dfa.Dfa.is_match.Goals as goal

pub returns-clause-accepts : goal.returns-clause-accepts
returns-clause-accepts g c = λ more. rw c.is_some.ensures (found-decides c.args.input.now c.search_range.ensures)
