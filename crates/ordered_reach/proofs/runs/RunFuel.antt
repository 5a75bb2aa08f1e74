-- Fuel for runs over positions, given fuel at each position.
-- Main statements: run_fuel, IsEnough-runs, IsEnough-at.
-- Used by: Automata.
-- Idea: a run is at each position for at most the fuel there.
use Rattle.ordered_reach.proofs.Common.{arith, Bool, by_test, Decides, eqb-true, List, member, none_held, run_edges, subst, suc, true, with_node, zero, ℕ, ◌+◌, ◌==◌, ◌≡◌, ◌≤◌, []}
use Rattle.std.proofs.lemmas.Bool.Decides.{nat_tests}
use Rattle.ordered_reach.proofs.graph.ClosedSets.{IsEnough, IsEnough-from_none}
use Rattle.ordered_reach.proofs.graph.Fuel.{IsEnough-plus}
use Rattle.ordered_reach.proofs.runs.ByPosition.{Decides-pair_eq, IsEnoughForRuns, member-run_edges, pair_eq, with_node-at}

-- fuel for all runs: the same amount at each position up to the last
abbrev pub run_fuel : ℕ → ℕ → ℕ
run_fuel c zero = c
run_fuel c (suc d) = c + run_fuel c d

module _ {N : Type 0} {eq : N → N → Bool} (dec : (a b : N) → Decides (eq a b) (a ≡ b)) (eps bytes : ℕ → N → List N)
  where
    -- fuel for the runs is fuel at each position
    pub IsEnough-at : (n : ℕ) (held : ℕ × N → Bool) (i : ℕ) (s : N)
        → IsEnoughForRuns eq eps bytes n held (i, s) → IsEnough eq (eps i) n (λ t. held (i, t)) s
    IsEnough-at zero held i s a = a
    IsEnough-at (suc n) held i s a = λ e t k. rw (with_node-at dec held i s) at
        (IsEnough-at n (with_node (pair_eq eq) held (i, s)) i t
        (a e (i, t) (grind (arith, nat_tests, member-run_edges dec eps bytes (i, s) (i, t)))))

    -- the fuel at a position, and that from the next position on, where there is a step to it
    IsEnough-next : (a b : ℕ) (held : ℕ × N → Bool) (i : ℕ) (s : N) → IsEnough eq (eps i) a (λ t. held (i, t)) s
        → ((s t : N) → member eq (bytes i s) t ≡ true → IsEnoughForRuns eq eps bytes b none_held (suc i, t))
        → IsEnoughForRuns eq eps bytes (a + b) held (i, s)
    IsEnough-next zero b held i s h f = let z : 0 + b ≡ b + 0 = omega arith in
        rw z (IsEnough-plus (Decides-pair_eq dec) (run_edges eps bytes) b 0 held (i, s) h)
    IsEnough-next (suc a) b held i s h f =
        let z : suc a + b ≡ suc (a + b) = omega arith in
        let more : ℕ × N → Bool = with_node (pair_eq eq) held (i, s) in
        rw z (λ e q m. let cases = member-run_edges dec eps bytes (i, s) q in by_test (i == q.0)
        (λ k. subst (λ j. IsEnoughForRuns eq eps bytes (a + b) more (j, q.1)) (eqb-true i q.0 k)
        (IsEnough-next a b more i q.1 (rw (with_node-at dec held i s) (h e q.1 (grind (arith, nat_tests)))) f))
        (λ k. let w : suc i ≡ q.0 = grind (arith, nat_tests) in
        subst (λ j. IsEnoughForRuns eq eps bytes (a + b) more (j, q.1)) w
        (IsEnough-plus (Decides-pair_eq dec) (run_edges eps bytes) a b more (suc i, q.1)
        (IsEnough-from_none (Decides-pair_eq dec) (run_edges eps bytes) b more (suc i, q.1)
        (f s q.1 (grind (arith, nat_tests)))))))

    pub IsEnough-runs : (c m : ℕ) → ((i : ℕ) (s : N) → IsEnough eq (eps i) c none_held s)
        → ((i : ℕ) (s : N) → m ≤ i → bytes i s ≡ [])
        → (d : ℕ) (i : ℕ) (s : N) → m ≤ i + d → IsEnoughForRuns eq eps bytes (run_fuel c d) none_held (i, s)
    IsEnough-runs c m h stop zero i s l = let z : c + 0 ≡ c = omega arith in rw z at
        (IsEnough-next c 0 none_held i s (h i s) (λ u t k. absurd (grind (arith, stop i u (omega arith)))))
    IsEnough-runs c m h stop (suc d) i s l = IsEnough-next c (run_fuel c d) none_held i s (h i s)
        (λ u t k. IsEnough-runs c m h stop d (suc i) t (omega arith))
