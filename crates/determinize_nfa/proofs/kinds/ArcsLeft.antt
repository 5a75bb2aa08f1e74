-- The transitions of a state that are left at an index, as `arc_from` finds them.
-- Main statements: left_at, whole, first_of, none_left, runs_next.
-- Used by: the functions of `arcs`, `visit_targets` and `add_node`.
-- Idea: the first element of the rest of a list is that at the index.
use Rattle.determinize_nfa.proofs.Common.{Arc, Dense, List, Node, None, Option, Some, [], ap, arcs_of, arith, cond, drop}
use Rattle.determinize_nfa.proofs.Common.{get_or, is_first, length, length-map, map}
use Rattle.determinize_nfa.proofs.Common.{refl, runs, suc, sym, ℕ, ◌+◌, ◌<◌, ◌∙◌, ◌∷◌, ◌≡◌}
use Rattle.std.proofs.Math.ListN.{get_or-map}
use Rattle.determinize_below.proofs.Moved.{next_of}
use Rattle.determinize_nfa.specs.Private.Arcs.{IsFirstOf, arcs_from, with_run}

pub left_at : {A : Type 0} (f : A → Arc) (xs : List A) (k : ℕ) (x : A) → k < length xs → x ≡ get_or xs k x
    → drop k (map f xs) ≡ f x ∷ drop (k + 1) (map f xs)
left_at f xs k x l e =
    next_of (map f xs) k (f x) (omega (arith, length-map xs f)) (ap f e ∙ sym (get_or-map f xs k x))

-- all are left at first
pub whole : (node : Node) → arcs_from 0 node ≡ arcs_of node
whole (Dense ids) = refl
whole node = grind arith

-- what the first of those that are left is
module _ (node : Node) (from : ℕ) (r : Option (Arc × ℕ)) where
  pub first_of : (a : Arc) (after : ℕ) → r ≡ Some (a, after) → IsFirstOf (λ k. arcs_from k node) from r
      → arcs_from from node ≡ a ∷ arcs_from after node
  first_of a after e first = rw e at first

  pub none_left : r ≡ None → IsFirstOf (λ k. arcs_from k node) from r → arcs_from from node ≡ []
  none_left e first = rw e at first

-- the ranges of a table from a byte on, by the target of this byte and the rest of the table
pub runs_next : (ids : List ℕ) (a b id : ℕ) → b < length ids → id ≡ get_or ids b id
    → runs a b (drop b ids) ≡ cond (is_first id (drop (b + 1) ids)) (runs a (b + 1) (drop (b + 1) ids))
    (with_run a b id (runs (b + 1) (b + 1) (drop (b + 1) ids)))
runs_next ids a b id l e = let z : b + 1 ≡ suc b = omega arith in rw (next_of ids b id l e, z) refl
