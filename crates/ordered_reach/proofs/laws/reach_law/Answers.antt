use Rattle.ordered_reach.proofs.graph.FiniteReach.{each_reach_is_in_order, each_reach_is_in_turn, each_reach_is_one}
use Rattle.ordered_reach.proofs.laws.reach_law.Goals as goal

pub returns-clause-in_order : goal.returns-clause-in_order
returns-clause-in_order c = each_reach_is_in_order

pub returns-clause-only : goal.returns-clause-only
returns-clause-only c = each_reach_is_one

pub returns-clause-in_turn : goal.returns-clause-in_turn
returns-clause-in_turn c = each_reach_is_in_turn
