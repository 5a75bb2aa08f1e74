-- The laws of the depth-first search in a graph on numbers below a bound.
-- Main statements: each_reach_is_in_order, each_reach_is_one, each_reach_is_in_turn.
-- Used by: the functions of `laws`.
-- Idea: LeastPaths, UniqueOrder and RootByRoot with the fuel of FiniteGraphs.
use Rattle.ordered_reach.proofs.Common.{[], arith, LeadsBelow, List, member, nat_eq, suc, ℕ, ◌+◌, ◌≡◌}
use Rattle.ordered_reach.specs.Laws.{EachReachIsInOrder, EachReachIsInTurn, EachReachIsOne}
use Rattle.ordered_reach.proofs.graph.ClosedSets.{IsEnough, IsEnough-from_none}
use Rattle.ordered_reach.proofs.graph.FiniteGraphs.{IsEnough-below, same_decides}
use Rattle.ordered_reach.proofs.graph.LeastPaths.{ordered_in_order}
use Rattle.ordered_reach.proofs.graph.RootByRoot.{ordered_in_turn}
use Rattle.ordered_reach.proofs.graph.UniqueOrder.{one_order}

module _ (edges : ℕ → List ℕ) (count : ℕ) (h : LeadsBelow edges count) where
  enough : (held : List ℕ) (r : ℕ) → IsEnough nat_eq edges (count + 1) (member nat_eq held) r
  enough held r = let z : count + 1 ≡ suc count = omega arith in
      rw z (IsEnough-from_none same_decides edges (suc count) (member nat_eq held) r (IsEnough-below edges count h r))

pub each_reach_is_in_order : EachReachIsInOrder
each_reach_is_in_order edges count h held roots =
    ordered_in_order same_decides edges (count + 1) held roots (enough edges count h held)

pub each_reach_is_one : EachReachIsOne
each_reach_is_one edges count h held roots xs is =
    one_order same_decides edges held roots xs _ is (each_reach_is_in_order edges count h held roots)

pub each_reach_is_in_turn : EachReachIsInTurn
each_reach_is_in_turn edges count h held roots =
    ordered_in_turn same_decides edges (count + 1) (enough edges count h []) held roots
