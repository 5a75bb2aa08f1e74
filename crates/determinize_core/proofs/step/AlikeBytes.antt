-- A step does not distinguish bytes that the NFA does not distinguish.
-- Main statements: each_class_steps, each_need_is_tested.
-- Used by: `class_law`, and the whole DFA.
-- Idea: only assertions of the NFA are needed, and both bytes satisfy the same ones of these.
use Rattle.determinize_core.proofs.Common.{[], ap, arith, Assertion, Bool, by_cases, each_look, from_word_after}
use Rattle.determinize_core.proofs.Common.{fun_ext, half_crlf_after, has, have_after, have_at_start, is_capture}
use Rattle.determinize_core.proofs.Common.{is_reopened, IsAccepted, IsTested, List, list_any, needs, Nfa, not}
use Rattle.determinize_core.proofs.Common.{opened_by, option_to_list, reach, refl, Some, step, tables_of, target}
use Rattle.determinize_core.proofs.Common.{targets, true, Value, without, working_list, ℕ, ◌&&◌, ◌||◌, ◌∷◌, ◌≡◌}
use Rattle.determinize_state.proofs.values.TestedSets.{Decides-needs}
use Rattle.determinize_below.proofs.nfas.Edges.{edges-same}
use Rattle.determinize_below.proofs.looks.LookSets.{has-empty}
use Rattle.std.proofs.lemmas.Bool.{both_ways}
use Rattle.determinize_below.specs.ByteClasses.{AreTestedAlike}
use Rattle.determinize_below.proofs.nfas.TestedLooks.{Decides-look_set_any}
use Rattle.determinize_core.specs.Alike.{EachClassSteps, EachNeedIsTested, NeedsTested}
use Rattle.determinize_start.specs.LookTables.{line_opened, opened, word_opened}
use Rattle.determinize_start.proofs.tables.KnownSet.{crlf_class, line_class, word_class}

module _ (nfa : Nfa) (b c : ℕ) (same : AreTestedAlike nfa b c) where
  -- both bytes satisfy the same assertions of the NFA
  opened-alike : (w f : Bool) (l : Assertion) → has nfa.look_set_any l ≡ true
      → opened (tables_of nfa) w f (Some b) l ≡ opened (tables_of nfa) w f (Some c) l
  unfolding has opened word_opened line_opened
  opened-alike w f l h =
      let any = nfa.look_set_any in grind (arith, word_class any l, line_class any l, crlf_class any l)

  -- the look-behind of the next value
  after-alike : (have_after (tables_of nfa) (Some b) ≡ have_after (tables_of nfa) (Some c))
      × (from_word_after (tables_of nfa) (Some b) ≡ from_word_after (tables_of nfa) (Some c))
      × (half_crlf_after (tables_of nfa) (Some b) ≡ half_crlf_after (tables_of nfa) (Some c))
  unfolding have_after from_word_after half_crlf_after
  after-alike = (grind arith, grind arith, grind arith)

  module _ (accepted : IsAccepted nfa) (v : Value) (tested : NeedsTested nfa v) where
    opened_by-alike : (l : Assertion) → IsTested nfa l → opened_by nfa v (Some b) l ≡ opened_by nfa v (Some c) l
    opened_by-alike l t = opened-alike v.from_word v.half_crlf l ((Decides-look_set_any nfa accepted l).1 t)

    -- the working list
    working_list-alike : working_list nfa v (Some b) ≡ working_list nfa v (Some c)
    unfolding reach
    working_list-alike =
        let needed : (l : Assertion) → (opened_by nfa v (Some b) l && has v.look_need l && not (has v.look_have l))
        ≡ (opened_by nfa v (Some c) l && has v.look_need l && not (has v.look_have l)) =
        λ l. grind (arith, tested l, opened_by-alike l) in
        let reopened : is_reopened nfa v (Some b) ≡ is_reopened nfa v (Some c) =
        ap (λ (t : Assertion → Bool). list_any t each_look) (fun_ext needed) in
        rw (reopened, edges-same nfa _ _ (λ l t. ap (λ (x : Bool). has v.look_have l || x) (opened_by-alike l t))) refl

pub each_class_steps : EachClassSteps
unfolding step
each_class_steps nfa accepted kind v tested b c same =
    let over : target nfa (Some b) ≡ target nfa (Some c) = fun_ext (λ (s : ℕ). ap option_to_list (same.targets s)) in
    let after = after-alike nfa b c same.tests in
    rw (working_list-alike nfa b c same.tests accepted v tested, after.1, after.2, after.0, over) refl

-- look-need of recorded states is of assertions that they test
needs_tested : (nfa : Nfa) (xs : List ℕ) (l : Assertion) → has (needs nfa 0 xs) l ≡ true → IsTested nfa l
needs_tested nfa xs l h = by_cases ((Decides-needs nfa 0 xs l).0 h)
    (λ e. absurd (both_ways _ (has-empty l) e))
    (λ a. (a.1, a.4))

pub each_need_is_tested : EachNeedIsTested
unfolding step
each_need_is_tested nfa = (
  λ s p. needs_tested nfa (without (is_capture nfa) (reach nfa (has (have_at_start (tables_of nfa) p)) (s ∷ []))),
  λ kind v u. needs_tested nfa (without (is_capture nfa)
      (reach nfa (has (have_after (tables_of nfa) u)) (targets nfa kind v u))),
)
