-- The parts of a step make the step.
-- Main statements: step_tries, recorded_is_closure, entered_by, tries_are, left-none, tries-none, stepped.
-- Used by: `enter`, `enter_targets`, `step_over`, `reopen`.
-- Idea: flags depend on whether a state is entered, and that on whether there is a target.
use Rattle.determinize_core.proofs.Common.{[], add-one, added, added_one, AllResolve, ap, append_assoc, arith}
use Rattle.determinize_core.proofs.Common.{Assertion, begun, Bool, by_test, edges_in_all, false, fold, from_word_after}
use Rattle.determinize_core.proofs.Common.{half_crlf_after, has, have_after, is_capture, is_nonempty, IsAccepted}
use Rattle.determinize_core.proofs.Common.{length, List, MatchKind, member, nat_eq, nat_tests, Nfa, Option, patterns_of}
use Rattle.determinize_core.proofs.Common.{patterns_read, reach, reach_past, recorded, refl, same_decides, step, sym}
use Rattle.determinize_core.proofs.Common.{tables_of, targets, tries, tries_left, tries_of, true, true≢false, Value}
use Rattle.determinize_core.proofs.Common.{without, working_list, ℕ, ◌*◌, ◌+◌, ◌<◌, ◌==◌, ◌∙◌, ◌∷◌, ◌≡◌, ◌≤◌}
use Rattle.std.proofs.Common.{All as Each}
use Rattle.std.proofs.lemmas.List.Elements.{All-contains}
use Rattle.ordered_reach.proofs.lists.Elements.{In_Contains, member_In}
use Rattle.determinize_state.specs.Recording.{settled}
use Rattle.determinize_state.proofs.values.RecordingSteps.{added-none}
use Rattle.determinize_core.proofs.closure.EmptySearch.{reach-none, reach_past-empty, tries_left-empty}
use Rattle.determinize_core.proofs.step.StepBound.{tries_are_few}
use Rattle.determinize_core.specs.Step.{left_by}

-- each member of a list is below what all its items are below
pub member-below : (bound : ℕ) (xs : List ℕ) → Each (λ id. id < bound) xs → (s : ℕ) → member nat_eq xs s ≡ true
    → s < bound
member-below bound xs all s m = All-contains (λ id. id < bound) xs s all
    (In_Contains same_decides xs s (member_In same_decides xs s m))

-- states recorded one after another are added, captures left out
fold-added : (nfa : Nfa) (v : Value) (xs : List ℕ)
    → fold (added_one nfa) v xs ≡ added nfa v (without (is_capture nfa) xs)
fold-added nfa v [] = added-none nfa v
fold-added nfa v (x ∷ xs) = by_test (is_capture nfa x)
    (λ e. rw e (fold-added nfa v xs))
    (λ e. rw e (fold-added nfa (added nfa v (x ∷ [])) xs ∙ rw append_assoc refl))

-- a search reaches a state if and only if it has a root
is_nonempty-reach : (nfa : Nfa) (holds : Assertion → Bool) (roots : List ℕ)
    → is_nonempty (reach nfa holds roots) ≡ is_nonempty roots
unfolding reach
is_nonempty-reach nfa holds [] = refl
is_nonempty-reach nfa holds (r ∷ roots) = rw add-one refl

-- the tries of the step are few
pub step_tries : (nfa : Nfa) → IsAccepted nfa → (kind : MatchKind) (v : Value) (u : Option ℕ) → AllResolve nfa v.states
    → tries nfa kind v u ≤ 2 * (length nfa.states + edges_in_all nfa)
step_tries nfa accepted kind v u inside =
    tries_are_few nfa accepted kind v u (member-below (length nfa.states) v.states inside)

-- recording does not change look-have
pub have_left : (nfa : Nfa) (v now : Value) (xs : List ℕ) → now ≡ fold (added_one nfa) v xs
    → now.look_have ≡ v.look_have
have_left nfa v now xs e = ap (λ (w : Value). w.look_have) (e ∙ fold-added nfa v xs)

module _ (nfa : Nfa) (have looks : ℕ) (have_is : have ≡ looks) (held row : List ℕ) (held_is : held ≡ []) where
  -- what is recorded from some states, with this look-have, is their closure
  pub recorded_is_closure : (flagged now : Value) (from_word half_crlf : Bool) (patterns : List ℕ)
      → flagged ≡ begun from_word half_crlf 0 patterns
      → now ≡ fold (added_one nfa) flagged (reach_past nfa (has have) held row)
      → settled (record now { look_have = have })
      ≡ recorded nfa (begun from_word half_crlf looks patterns) (reach nfa (has looks) row)
  recorded_is_closure flagged now from_word half_crlf patterns flagged_is recorded_is =
      rw (recorded_is, fold-added, held_is, reach_past-empty, flagged_is, have_is) refl

  -- the tries for them
  pub tries_are : tries_left nfa (has have) held row ≡ tries_of nfa (has looks) row
  tries_are = rw (held_is, tries_left-empty, have_is) refl

-- the closure of one or more targets, after the look-behind of the unit, is what the unit leaves
pub entered_by : (nfa : Nfa) (u : Option ℕ) (row patterns : List ℕ) → is_nonempty row ≡ true
    → recorded nfa (begun (from_word_after (tables_of nfa) u) (half_crlf_after (tables_of nfa) u)
    (have_after (tables_of nfa) u) patterns) (reach nfa (has (have_after (tables_of nfa) u)) row)
    ≡ left_by nfa u patterns (reach nfa (has (have_after (tables_of nfa) u)) row)
entered_by nfa u row patterns some = rw (is_nonempty-reach nfa (has (have_after (tables_of nfa) u)) row, some) refl

module _ (nfa : Nfa) (holds : Assertion → Bool) where
  -- without targets the value has its patterns only
  pub left-none : (u : Option ℕ) (patterns : List ℕ)
      → left_by nfa u patterns (reach nfa holds []) ≡ begun false false 0 patterns
  left-none u patterns = rw reach-none refl

  -- without targets nothing is tried
  pub tries-none : tries_of nfa holds [] ≡ 0
  tries-none = rw reach-none refl

-- the patterns that were read, and what the targets enter, are those of the step
pub stepped : (nfa : Nfa) (kind : MatchKind) (v : Value) (u : Option ℕ) (patterns row : List ℕ)
    → patterns ≡ patterns_read kind (patterns_of nfa (working_list nfa v u)) → row ≡ targets nfa kind v u
    → left_by nfa u patterns (reach nfa (has (have_after (tables_of nfa) u)) row) ≡ step nfa kind v u
unfolding step
stepped nfa kind v u patterns row patterns_are row_is = rw (patterns_are, row_is) refl

-- the test of the length says whether there are items
pub some_items : (n : ℕ) (xs : List ℕ) → n ≡ length xs → (n == 0) ≡ false → is_nonempty xs ≡ true
some_items n [] e h = absurd (true≢false (rw e at h))
some_items n (x ∷ xs) e h = refl

pub no_items : (n : ℕ) (xs : List ℕ) → n ≡ length xs → (n == 0) ≡ true → xs ≡ []
no_items n [] e h = refl
no_items n (x ∷ xs) e h = let k : (n == 0) ≡ false = grind (arith, nat_tests) in absurd (true≢false (sym h ∙ k))
