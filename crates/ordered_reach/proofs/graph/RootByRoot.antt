-- The list of a search can be computed root by root.
-- Main statements: ordered_in_turn.
-- Used by: FiniteReach.
-- Idea: what one root reaches counts as visited for the next.
use Rattle.ordered_reach.proofs.Common.{[], ap, Bool, Decides, fun_ext, joined, List, member, none_held, ordered, refl, sym, ℕ, ◌++◌, ◌∙◌, ◌∷◌, ◌≡◌, IsListedInTurn}
use Rattle.std.proofs.Math.Bool.{or_comm}
use Rattle.ordered_reach.proofs.graph.ClosedSets.{IsEnough, IsEnough-from_none}
use Rattle.ordered_reach.proofs.graph.LeastPaths.{ordered_in_order}
use Rattle.ordered_reach.proofs.graph.StackSearch.{ordered-append}
use Rattle.ordered_reach.proofs.lists.NewNodes.{member-append}

module _ {N : Type 0} {eq : N → N → Bool} (dec : (a b : N) → Decides (eq a b) (a ≡ b)) where
  pub ordered_in_turn : (edges : N → List N) (n : ℕ) → ((x : N) → IsEnough eq edges n none_held x)
      → (held roots : List N)
      → IsListedInTurn edges held roots (ordered eq edges n (member eq held) roots)
  ordered_in_turn edges n a held [] = refl
  ordered_in_turn edges n a held (r ∷ rs) =
      let ys : List N = ordered eq edges n (member eq held) (r ∷ []) in
      let same : joined (member eq ys) (member eq held) ≡ member eq (held ++ ys) =
      fun_ext (λ x. or_comm (member eq ys x) (member eq held x) ∙ sym (member-append dec held ys x)) in (
        ys,
        ordered eq edges n (member eq (held ++ ys)) rs,
        ordered-append dec edges n a (member eq held) (r ∷ []) rs ∙ ap (λ h. ys ++ ordered eq edges n h rs) same,
        ordered_in_order dec edges n held (r ∷ [])
            (λ x. IsEnough-from_none dec edges n (member eq held) x (a x)),
        ordered_in_turn edges n a (held ++ ys) rs,
      )
