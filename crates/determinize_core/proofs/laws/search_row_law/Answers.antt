use Rattle.determinize_core.proofs.Common.{rules}
use Rattle.determinize_below.specs.Edges.{reach_past}
use Rattle.determinize_below.specs.Look.{has, insert}
use Rattle.determinize_core.proofs.laws.search_row_law.Goals as goal

pub returns : goal.returns
unfolding has insert reach_past
returns c = search rules
