-- The values that are reached.
-- Main statements: reached-step, reached-dead, reached-tested.
-- Used by: Simulation, Building, and `entry`.
-- Idea: a value is reached by units from a start, so the next one is reached by one unit more.
use Rattle.determinize_dense.proofs.Common.{All-nil, All-push, dead, each_need_is_tested, flat_map_none, has}
use Rattle.determinize_dense.proofs.Common.{have_after, is_match, IsReachedValue, IsUnit, List, MatchKind, NeedsTested}
use Rattle.determinize_dense.proofs.Common.{Nfa, None, Option, part_read, refl, start_in, start_value, step, step_over}
use Rattle.determinize_dense.proofs.Common.{tables_of, target, true, Value, value_after, value_after-push, working_list}
use Rattle.determinize_dense.proofs.Common.{[], ℕ, ◌++◌, ◌∷◌, ◌≡◌}
use Rattle.determinize_below.proofs.nfas.Edges.{target-end}
use Rattle.determinize_core.proofs.closure.EmptySearch.{reach-none}

module _ (nfa : Nfa) (kind : MatchKind) where
  -- the value after a reached one is reached
  pub reached-step : (v : Value) (u : Option ℕ) → IsReachedValue nfa kind v → IsUnit u
      → IsReachedValue nfa kind (step nfa kind v u)
  reached-step v u r h =
      let push = value_after-push nfa kind (start_value nfa (start_in nfa r.0) r.1) r.2 u in
      (r.0, r.1, r.2 ++ u ∷ [], r.3, All-push IsUnit r.2 u r.4 h, rw (r.5, push))

  -- no NFA state is left after the end
  end_none : (v : Value) → (step nfa kind v None).states ≡ []
  unfolding step
  end_none v =
      let none = flat_map_none (target nfa None) (part_read kind (is_match nfa) (working_list nfa v None))
      (target-end nfa) in
      rw (none, reach-none nfa (has (have_after (tables_of nfa) None)))

  -- the dead value is reached
  pub reached-dead : IsReachedValue nfa kind dead
  reached-dead =
      let first : Value = start_value nfa (start_in nfa true) None in
      rw (step_over nfa kind (step nfa kind first None) None (end_none first)) at
      (reached-step (step nfa kind first None) None
      (reached-step first None (true, None, [], tt, All-nil IsUnit, refl) tt) tt)

  -- a reached value needs assertions of the NFA only
  after-tested : (v : Value) (us : List (Option ℕ)) → NeedsTested nfa v → NeedsTested nfa (value_after nfa kind v us)
  after-tested v [] h = h
  after-tested v (u ∷ us) h = after-tested (step nfa kind v u) us ((each_need_is_tested nfa).1 kind v u)

  pub reached-tested : (v : Value) → IsReachedValue nfa kind v → NeedsTested nfa v
  reached-tested v r = rw r.5 (after-tested (start_value nfa (start_in nfa r.0) r.1) r.2
      ((each_need_is_tested nfa).0 (start_in nfa r.0) r.1))
