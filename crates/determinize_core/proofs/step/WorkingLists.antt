-- One step: the working list against the search under what is true.
-- Main statements: IsEntered, reach_is, working_is.
-- Used by: WalkValues.
-- Idea: the closure, reopened under more assertions or not, is the closure under the true ones.
use Rattle.determinize_core.proofs.Common.{accepted_sound, ap, arith, Assertion, Bool, by_test, distinct_states}
use Rattle.determinize_core.proofs.Common.{each_look, edges, ends, false, from_word_after, half_crlf_after, has}
use Rattle.determinize_core.proofs.Common.{is_capture, is_reopened, IsAccepted, IsSound, IsTested, joined, length, List}
use Rattle.determinize_core.proofs.Common.{member, nat_eq, needs, Nfa, none_held, not, opened_by, Option, ordered}
use Rattle.determinize_core.proofs.Common.{reach, same_decides, suc, sym, tables_of, true, truth, Value, without}
use Rattle.determinize_core.proofs.Common.{working_list, zero, ℕ, ◌&&◌, ◌+◌, ◌||◌, ◌∙◌, ◌≡◌}
use Rattle.determinize_below.proofs.nfas.SoundNfa.{edges_enough}
use Rattle.determinize_below.proofs.looks.CommonLooks.{each_look-false}
use Rattle.determinize_below.proofs.nfas.Edges.{edges-agree, edges-capture, edges-more, edges-same, next_of}
use Rattle.ordered_reach.proofs.graph.ClosedSets.{IsEnough}
use Rattle.determinize_start.proofs.tables.TrueTables.{known_truth, opened_truth}
use Rattle.ordered_reach.proofs.graph.FiniteGraphs.{IsEnough-below}
use Rattle.determinize_below.specs.Reached.{known}
use Rattle.ordered_reach.proofs.graph.Fuel.{IsEnough-plus, ordered-enough}
use Rattle.ordered_reach.proofs.lists.Pieces.{list_any_some, without_twice}
use Rattle.ordered_reach.proofs.graph.SameSearch.{not_redone}
use Rattle.ordered_reach.proofs.runs.RunFuel.{run_fuel}
use Rattle.ordered_reach.proofs.lists.NewNodes.{filter-fresh, fresh-flat_map, fresh-fresh}
use Rattle.determinize_state.proofs.values.TestedSets.{needs_member, needs_some}

-- the fuel of all runs over m bytes
abbrev pub fuel : Nfa → ℕ → ℕ
fuel nfa m = run_fuel (suc (length nfa.states)) m

-- the search with that fuel
abbrev pub listing : Nfa → ℕ → (Assertion → Bool) → List ℕ → List ℕ
listing nfa m holds roots = ordered nat_eq (edges nfa holds) (fuel nfa m) none_held roots

-- the value records what the roots reach after the look-behind
pub record IsEntered (nfa : Nfa) (m : ℕ) (b : Option ℕ) (v : Value) (roots : List ℕ) : Type 0 where
  pub states : v.states ≡ without (is_capture nfa) (listing nfa m (known nfa b) roots)
  pub need : v.look_need ≡ needs nfa 0 v.states
  pub have : (k : Assertion) → has v.look_need k ≡ true → (l : Assertion) → IsTested nfa l
      → has v.look_have l ≡ known nfa b l
  pub flags : (s : ℕ) → member nat_eq v.states s ≡ true → (v.from_word ≡ from_word_after (tables_of nfa) b)
      × (v.half_crlf ≡ half_crlf_after (tables_of nfa) b)

module _ (nfa : Nfa) (sound : IsSound nfa) where
  fuel_enough : (m : ℕ) (holds : Assertion → Bool) (s : ℕ) → IsEnough nat_eq (edges nfa holds) (fuel nfa m) none_held s
  fuel_enough zero holds s = IsEnough-below (edges nfa holds) (length nfa.states) (sound.resolves holds) s
  fuel_enough (suc m) holds s = IsEnough-plus same_decides (edges nfa holds) (suc (length nfa.states))
      (fuel nfa m) none_held s (fuel_enough m holds s)

  -- the definitions' search is the one with the fuel of all runs
  pub reach_is : (m : ℕ) (holds : Assertion → Bool) (roots : List ℕ) → reach nfa holds roots ≡ listing nfa m holds roots
  unfolding reach
  reach_is m holds roots = ordered-enough same_decides (edges nfa holds) (length nfa.states + 1)
      (fuel nfa m) none_held roots (edges_enough nfa sound holds) (fuel_enough m holds)

module _ (nfa : Nfa) (accepted : IsAccepted nfa) (m : ℕ) (b u : Option ℕ) (v : Value) (roots : List ℕ)
    (e : IsEntered nfa m b v roots) where
  sound : IsSound nfa
  sound = accepted_sound nfa accepted

  -- what the look-behind and the unit satisfy together is true
  together : (l : Assertion) → IsTested nfa l → has v.look_have l ≡ known nfa b l
      → (v.from_word ≡ from_word_after (tables_of nfa) b) × (v.half_crlf ≡ half_crlf_after (tables_of nfa) b)
      → (has v.look_have l || opened_by nfa v u l) ≡ truth nfa b u l
  together l q h f = rw (h, f.0, f.1) (opened_truth nfa accepted b u l q)

  -- where the closure is reopened, it is reopened under what is true
  reopened_same : is_reopened nfa v u ≡ true
      → reach nfa (joined (has v.look_have) (opened_by nfa v u)) (distinct_states v)
      ≡ listing nfa m (truth nfa b u) v.states
  reopened_same r =
      let more : Assertion → Bool = joined (has v.look_have) (opened_by nfa v u) in
      list_any_some (λ l. opened_by nfa v u l && has v.look_need l && not (has v.look_have l)) each_look r (λ k z.
      let needed : has v.look_need k ≡ true = grind arith in
      needs_some nfa v.states k (rw e.need at needed) (λ s i.
      reach_is nfa sound m more (distinct_states v)
      ∙ fresh-flat_map same_decides (ends nat_eq (edges nfa more) (fuel nfa m) none_held) none_held v.states
      ∙ ap (λ g. ordered nat_eq g (fuel nfa m) none_held v.states) (edges-same nfa more (truth nfa b u)
      (λ l q. together l q (e.have k needed l q) (e.flags s i)))))

  -- if it is not, it is the recorded list
  kept_same : is_reopened nfa v u ≡ false
      → without (is_capture nfa) (distinct_states v) ≡ without (is_capture nfa) (listing nfa m (truth nfa b u) v.states)
  kept_same r =
      let cap : ℕ → Bool = is_capture nfa in
      let K : List ℕ = listing nfa m (known nfa b) roots in
      let once : distinct_states v ≡ without cap K =
      rw (e.states, ← filter-fresh same_decides cap none_held K)
      (ap (λ l. without cap l) (fresh-fresh same_decides none_held none_held _ (λ x z. z))) in
      rw (once, e.states) (without_twice cap K
      ∙ sym (not_redone same_decides (edges nfa (known nfa b)) (edges nfa (truth nfa b u))
      (λ x y z. edges-more nfa (known nfa b) (truth nfa b u) x y (λ l. known_truth nfa b u l) z)
      (fuel nfa m) cap (next_of nfa) (edges-capture nfa (known nfa b)) (edges-capture nfa (truth nfa b u)) roots
      (fuel_enough nfa sound m (known nfa b)) (fuel_enough nfa sound m (truth nfa b u))
      (λ x z. edges-agree nfa (known nfa b) (truth nfa b u) x (λ l a.
      let i : member nat_eq v.states x ≡ true = rw e.states z in
      let needed : has v.look_need l ≡ true = rw e.need (needs_member nfa 0 v.states x l i a) in
      let have = e.have l needed l (x, a) in
      let unmet = each_look-false (λ k. opened_by nfa v u k && has v.look_need k && not (has v.look_have k)) r l in
      let both = together l (x, a) have (e.flags x i) in
      grind arith))))

  -- captures aside, the working list is what is reached under what is true
  pub working_is : without (is_capture nfa) (working_list nfa v u)
      ≡ without (is_capture nfa) (listing nfa m (truth nfa b u) v.states)
  working_is = by_test (is_reopened nfa v u)
      (λ r. rw r (ap (λ l. without (is_capture nfa) l) (reopened_same r)))
      (λ r. rw r (kept_same r))
