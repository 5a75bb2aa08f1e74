-- The least number of tries of a search from a position.
-- Main statements: IsCounted, counted_start, counted_skipped, counted_entered, counted_here, counted_none.
-- Used by: the loop of a search.
-- Idea: a try leads at most one position further, so each pair on the stack is at most as many further as there were
-- tries.
use Rattle.std.proofs.Common.{◌≡◌, ◌≤◌, ◌+◌, ◌++◌, ◌∙◌, ◌∷◌, ◌||◌, ℕ, Bool, List, [], arith, false, length, nat_eq, refl}
use Rattle.std.proofs.Common.{sym, true}
use Rattle.std.proofs.lemmas.Bool.{false≢true, or_left, or_right}
use Rattle.std.proofs.lemmas.Bool.Decides.{nat_tests}
use Rattle.std.proofs.lemmas.List.{length-append}
use Rattle.determinize_below.specs.Positions.{byte_edges, true_edges}
use Rattle.determinize_below.specs.Semantics.{Nfa, Text}
use Rattle.ordered_reach.proofs.Cases.{by_test}
use Rattle.ordered_reach.proofs.graph.FiniteGraphs.{same_decides}
use Rattle.ordered_reach.proofs.lists.NewNodes.{member-append}
use Rattle.ordered_reach.proofs.runs.ByPosition.{member-run_edges, pair_eq, same_pairs}
use Rattle.ordered_reach.specs.Reach.{member}
use Rattle.determinize_linear.proofs.search.Pending.{run_steps}

-- the tries from a position on, of which there were `before` at its start: those still to be made count for the first
-- one, and each position up to that of a pending pair for another
pub record IsCounted (before total from : ℕ) (pairs : List (ℕ × ℕ)) : Type 0 where
  pub some : before + 1 ≤ total + length pairs
  pub near : (q : ℕ × ℕ) → member (pair_eq nat_eq) pairs q ≡ true → before + q.0 ≤ total + from

-- the pairs that follow a pair are at most one position further
step_near : (nfa : Nfa) (text : Text) (p q : ℕ × ℕ)
    → member (pair_eq nat_eq) (run_steps nfa text p) q ≡ true → q.0 ≤ p.0 + 1
step_near nfa text p q m =
    let both = member-run_edges same_decides (true_edges nfa text) (byte_edges nfa text) p q in
    grind (arith, nat_tests, both, m)

either : (a b : Bool) → (a || b) ≡ true → a ≡ false → b ≡ true
either a b m e = grind arith

pub counted_start : (before from state : ℕ) → IsCounted before before from ((from, state) ∷ [])
counted_start before from state = record {
  some = omega arith;
  near = λ q m. by_test (pair_eq nat_eq (from, state) q)
      (λ e. let z : (from, state) ≡ q = (same_pairs (from, state) q).0 e in rw (← z) (omega arith))
      (λ e. absurd (false≢true (either (pair_eq nat_eq (from, state) q) false m e)));
}

module _ (before total from : ℕ) (p : ℕ × ℕ) (ps : List (ℕ × ℕ)) (is : IsCounted before total from (p ∷ ps)) where
  first : before + p.0 ≤ total + from
  first = is.near p (or_left (pair_eq nat_eq p p) (member (pair_eq nat_eq) ps p) ((same_pairs p p).1 refl))

  rest : (q : ℕ × ℕ) → member (pair_eq nat_eq) ps q ≡ true → before + q.0 ≤ total + from
  rest q m = is.near q (or_right (pair_eq nat_eq p q) (member (pair_eq nat_eq) ps q) m)

  -- with the try of the first pair
  pub counted_here : before + p.0 + 1 ≤ total + 1 + from
  counted_here = omega (arith, first)

  pub counted_skipped : IsCounted before (total + 1) from ps
  counted_skipped = record { some = omega (arith, is.some); near = λ q m. omega (arith, rest q m) }

  pub counted_entered : (nfa : Nfa) (text : Text) → IsCounted before (total + 1) from (run_steps nfa text p ++ ps)
  counted_entered nfa text = record {
    some = omega (arith, is.some, length-append (run_steps nfa text p) ps);
    near = λ q m. by_test (member (pair_eq nat_eq) (run_steps nfa text p) q)
        (λ e. omega (arith, first, step_near nfa text p q e))
        (λ e. omega (
          arith,
          rest q (either (member (pair_eq nat_eq) (run_steps nfa text p) q)
              (member (pair_eq nat_eq) ps q) (sym (member-append same_pairs (run_steps nfa text p) ps q) ∙ m) e),
        ));
  }

pub counted_none : (before total from : ℕ) → IsCounted before total from [] → before + from + 1 ≤ total + from
counted_none before total from is = omega (arith, is.some)
