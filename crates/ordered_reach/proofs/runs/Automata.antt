-- The walk of an automaton over a text, compared with its runs.
-- Main statements: IsAutomaton, IsTrueWalk, true_walk.
-- Used by: the theorem about NFAs.
-- Idea: all of RunLists and CutLists for an automaton over numbers, without assertions or bytes.
use Rattle.ordered_reach.proofs.Common.{ap, refl, find, [], arith, before, Bool, by_test, false, IsBeginning, IsPath, known_at, LeadsBelow, List, ListsReached, member, nat_eq, None, none_held, ordered, run_edges, Some, suc, sym, true, without, ℕ, ◌==◌, ◌∙◌, ◌∷◌, ◌≡◌, ◌≤◌}
use Rattle.ordered_reach.proofs.graph.RepeatedSearch.{IsRepeatable}
use Rattle.ordered_reach.proofs.runs.ByPosition.{Decides-pair_eq, IsEnoughForRuns, runs}
use Rattle.ordered_reach.proofs.runs.CutLists.{best_is_last, last_accepting, last_accepting-agree, level, recorded, recorded_cut, recorded_cut_begins, recorded_is, redone_cut, redone_whole}
use Rattle.ordered_reach.proofs.lists.Pieces.{find-without}
use Rattle.ordered_reach.proofs.graph.FiniteGraphs.{IsEnough-below, same_decides}
use Rattle.ordered_reach.proofs.runs.MostPreferred.{IsMostPreferred, first_is_preferred, first_none_preferred}
use Rattle.ordered_reach.proofs.runs.RunFuel.{IsEnough-at, IsEnough-runs, run_fuel}
use Rattle.ordered_reach.proofs.runs.RunLists.{level_lists_reached}

-- an automaton over m bytes: its epsilon edges, fewer of them under the look-behind only, and its
-- steps over bytes
pub record IsAutomaton (states m : ℕ) (known eps bytes : ℕ → ℕ → List ℕ) (cap acc : ℕ → Bool)
    (next : ℕ → ℕ) : Type 0 where
  pub within : (i : ℕ) → LeadsBelow (eps i) states
  pub fewer : (i s t : ℕ) → member nat_eq (known i s) t ≡ true → member nat_eq (eps i s) t ≡ true
  pub ends : (i s : ℕ) → m ≤ i → bytes i s ≡ []
  pub cap_known : (i s : ℕ) → cap s ≡ true → known i s ≡ next s ∷ []
  pub cap_eps : (i s : ℕ) → cap s ≡ true → eps i s ≡ next s ∷ []
  pub cap_bytes : (i s : ℕ) → cap s ≡ true → bytes i s ≡ []
  pub cap_acc : (s : ℕ) → acc s ≡ true → cap s ≡ false

-- the states of the walk at each position, where the closure is computed again from what was
-- recorded
abbrev pub working : ℕ → ℕ → (ℕ → ℕ → List ℕ) → (ℕ → ℕ → List ℕ) → (ℕ → ℕ → List ℕ) → (ℕ → Bool) → ℕ → ℕ → List ℕ
working states m known eps bytes cap start k =
    ordered nat_eq (eps k) (run_fuel (suc states) m) none_held
    (recorded nat_eq known eps bytes cap (run_fuel (suc states) m) start k)

-- the same, where each list is cut at its first accepting state
abbrev pub working_cut : ℕ → ℕ → (ℕ → ℕ → List ℕ) → (ℕ → ℕ → List ℕ) → (ℕ → ℕ → List ℕ) → (ℕ → Bool) → (ℕ → Bool) → ℕ
    → ℕ → List ℕ
working_cut states m known eps bytes cap acc start k =
    ordered nat_eq (eps k) (run_fuel (suc states) m) none_held
    (recorded_cut nat_eq known eps bytes cap acc (run_fuel (suc states) m) start k)

-- the walk lists the states that runs reach, in their order; the last accepting state of the cut
-- walk is the end of the most preferred run
pub record IsTrueWalk (states m : ℕ) (known eps bytes : ℕ → ℕ → List ℕ) (cap acc : ℕ → Bool) (start : ℕ) : Type 0 where
  pub reached : (k : ℕ)
      → ListsReached (run_edges eps bytes) cap start k (without cap (working states m known eps bytes cap start k))
  pub recorded_reached : (k : ℕ)
      → ListsReached (run_edges (known_at k known eps) bytes) cap start k
      (recorded nat_eq known eps bytes cap (run_fuel (suc states) m) start k)
  pub preferred : (p : ℕ × ℕ) → last_accepting (working_cut states m known eps bytes cap acc start) acc m 0 ≡ Some p
      → IsMostPreferred (run_edges eps bytes) (0, start) (λ q. acc q.1) p
  pub none : last_accepting (working_cut states m known eps bytes cap acc start) acc m 0 ≡ None
      → (cs : List ℕ) (q : ℕ × ℕ) → IsPath (run_edges eps bytes) [] (0, start) cs q → acc q.1 ≡ false
  pub cut_begins : (k : ℕ)
      → IsBeginning (recorded_cut nat_eq known eps bytes cap acc (run_fuel (suc states) m) start k)
      (recorded nat_eq known eps bytes cap (run_fuel (suc states) m) start k)

all_runs_enough : (states m : ℕ) (eps bytes : ℕ → ℕ → List ℕ) → ((i : ℕ) → LeadsBelow (eps i) states)
    → ((i s : ℕ) → m ≤ i → bytes i s ≡ [])
    → (p : ℕ × ℕ) → IsEnoughForRuns nat_eq eps bytes (run_fuel (suc states) m) none_held p
all_runs_enough states m eps bytes within stop p =
    IsEnough-runs same_decides eps bytes (suc states) m (λ i. IsEnough-below (eps i) states (within i)) stop m p.0 p.1
    (omega arith)

module _ (states m : ℕ) (known eps bytes : ℕ → ℕ → List ℕ) (cap acc : ℕ → Bool) (next : ℕ → ℕ) (start : ℕ)
    (a : IsAutomaton states m known eps bytes cap acc next) where
  runs_enough : (p : ℕ × ℕ) → IsEnoughForRuns nat_eq eps bytes (run_fuel (suc states) m) none_held p
  runs_enough = all_runs_enough states m eps bytes a.within a.ends

  known_runs_enough : (k : ℕ) (p : ℕ × ℕ)
      → IsEnoughForRuns nat_eq (known_at k known eps) bytes (run_fuel (suc states) m) none_held p
  known_runs_enough k = all_runs_enough states m (known_at k known eps) bytes
      (λ i s t z. by_test (i == k) (λ e. a.within i s t (a.fewer i s t (rw e at z))) (λ e. a.within i s t (rw e at z)))
      a.ends

  repeatable : (i : ℕ) → IsRepeatable nat_eq (known i) (eps i) (run_fuel (suc states) m) cap next
  repeatable i = record {
    fewer = a.fewer i;
    one = a.cap_known i;
    one_more = a.cap_eps i;
    enough = λ s. IsEnough-at same_decides known bytes (run_fuel (suc states) m) none_held i s
        (all_runs_enough states m known bytes (λ i s t z. a.within i s t (a.fewer i s t z)) a.ends (i, s));
    enough_more = λ s.
        IsEnough-at same_decides eps bytes (run_fuel (suc states) m) none_held i s (runs_enough (i, s));
  }

  -- the first accepting node of all runs is the last accepting state of the cut walk
  found : find (λ q. acc q.1) (runs nat_eq eps bytes (run_fuel (suc states) m) 0 (start ∷ []))
      ≡ last_accepting (working_cut states m known eps bytes cap acc start) acc m 0
  found =
      let n : ℕ = run_fuel (suc states) m in
      let W : ℕ → List ℕ = working_cut states m known eps bytes cap acc start in
      let L : ℕ → List ℕ = level nat_eq eps bytes (before acc) n start in
      best_is_last same_decides eps eps bytes n start acc runs_enough m (λ x. a.ends m x (omega arith)) m 0
      (omega arith) (start ∷ []) refl
      ∙ last_accepting-agree L W acc (λ k. sym (find-without acc cap (L k) a.cap_acc)
      ∙ ap (λ l. find acc l)
      (sym (redone_cut same_decides known eps bytes n start cap next repeatable a.cap_bytes acc a.cap_acc k))
      ∙ find-without acc cap (W k) a.cap_acc) m 0

  pub true_walk : IsTrueWalk states m known eps bytes cap acc start
  true_walk =
      let n : ℕ = run_fuel (suc states) m in
      record {
        reached = λ k. rw (redone_whole same_decides known eps bytes n start cap next repeatable a.cap_bytes k)
            (level_lists_reached same_decides eps bytes n start runs_enough cap k);
        recorded_reached = λ k. rw (recorded_is same_decides known eps bytes n start cap next repeatable a.cap_bytes k)
            (level_lists_reached same_decides (known_at k known eps) bytes n start (known_runs_enough k) cap k);
        preferred = λ p e. first_is_preferred (Decides-pair_eq same_decides) (run_edges eps bytes) n (0, start)
            runs_enough (λ q. acc q.1) p (found ∙ e);
        none = λ e. first_none_preferred (Decides-pair_eq same_decides) (run_edges eps bytes) n (0, start)
            runs_enough (λ q. acc q.1) (found ∙ e);
        cut_begins = recorded_cut_begins same_decides known eps bytes n start cap next repeatable a.cap_bytes acc
            a.cap_acc;
      }
