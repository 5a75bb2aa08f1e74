-- The first pass over a list of states.
-- Main statements: kept_of, IsReading, reading-next, new_pattern, all_read, on_byte_or_256.
-- Used by: `is_on`, `read_states`.
-- Idea: what was read is what the kept states give, and those that give nothing need not be kept.
use Rattle.determinize_core.proofs.Common.{[], accepted_sound, All, ap, append-nil, append_assoc, arith, before, Bool}
use Rattle.determinize_core.proofs.Common.{by_option, by_test, continues, distinct, false, flat_map, flat_map-append}
use Rattle.determinize_core.proofs.Common.{fresh, fun_ext, has_id, if◌then◌else◌, is_match, IsAccepted, IsListRead}
use Rattle.determinize_core.proofs.Common.{joined, LeftmostFirst, List, list_any, MatchKind, nat_eq, nat_tests, Nfa}
use Rattle.determinize_core.proofs.Common.{None, none_held, not, Option, option_to_list, pattern_of, patterns_of}
use Rattle.determinize_core.proofs.Common.{patterns_read, refl, same_decides, Some, target, true, true≢false, Value}
use Rattle.determinize_core.proofs.Common.{with_patterns, without}
use Rattle.determinize_core.proofs.Common.{ℕ, ◌&&◌, ◌++◌, ◌<◌, ◌||◌, ◌∙◌, ◌∷◌, ◌≡◌}
use Rattle.ordered_reach.proofs.lists.NewNodes.{fresh-joined}
use Rattle.ordered_reach.proofs.lists.Pieces.{before-without, flat_map-without}
use Rattle.std.proofs.lemmas.List.Folds.{list_any-append}
use Rattle.determinize_below.specs.Transition.{matches, matches_unit}
use Rattle.determinize_below.specs.declared.nfa.transitions.Transition.{Transition}
use Rattle.determinize_core.specs.Private.Reading.{byte_or_256, gained, gives_nothing, IsStateRead, roots_of}
use Rattle.determinize_core.proofs.walk.WalkLoops.{goes_on, pattern_new, patterns-push, stops_at, targets-push}

-- the states that are kept after a list was read, given those kept before; a match may end the reading
abbrev pub kept_of : Nfa → MatchKind → Option ℕ → List ℕ → List ℕ → List ℕ
kept_of nfa kind u kept [] = kept
kept_of nfa kind u kept (s ∷ xs) =
    if not (continues kind) && is_match nfa s then kept ++ gained nfa u kept s
    else kept_of nfa kind u (kept ++ gained nfa u kept s) xs

-- the kept states have given these patterns and targets
pub record IsReading (nfa : Nfa) (u : Option ℕ) (first value : Value) (kept targets : List ℕ) : Type 0 where
  pub value_is : value ≡ with_patterns first (patterns_of nfa kept)
  pub targets_are : targets ≡ flat_map (target nfa u) kept

module _ {nfa : Nfa} {u : Option ℕ} {first value : Value} {kept targets : List ℕ}
    (reading : IsReading nfa u first value kept targets) where
  -- one more state
  pub reading-next : {id : ℕ} {kept_after targets_after : List ℕ} {value_after : Value}
      → IsStateRead nfa u id kept kept_after targets targets_after value value_after
      → IsReading nfa u first value_after kept_after targets_after
  reading-next {id = id} read = record {
    value_is = cc (flat_map-append (λ s. option_to_list (pattern_of nfa s)) kept (gained nfa u kept id));
    targets_are = cc (flat_map-append (target nfa u) kept (gained nfa u kept id));
  }

  -- the pattern of a state that was not kept is new
  pub new_pattern : IsAccepted nfa → (id p : ℕ) → pattern_of nfa id ≡ Some p → has_id kept id ≡ false
      → list_any (nat_eq p) value.patterns ≡ false
  new_pattern accepted id p e h = ap (λ (v : Value). list_any (nat_eq p) v.patterns) reading.value_is
      ∙ pattern_new nfa (accepted_sound nfa accepted) kept id p h e

-- a match is new after states without one
unmatched_new : (nfa : Nfa) (xs : List ℕ) (s : ℕ) → list_any (is_match nfa) xs ≡ false → is_match nfa s ≡ true
    → has_id xs s ≡ false
unmatched_new nfa [] s h m = refl
unmatched_new nfa (x ∷ xs) s h m = grind (arith, same_decides s x, unmatched_new nfa xs s)

module _ (nfa : Nfa) (u : Option ℕ) where
  -- a match has no transition
  target-match : (s : ℕ) → is_match nfa s ≡ true → target nfa u s ≡ []
  target-match s m = grind arith

  -- a state that gives nothing has no pattern and no target
  nothing-pattern : (s : ℕ) → gives_nothing nfa u s ≡ true → option_to_list (pattern_of nfa s) ≡ []
  nothing-pattern s e = grind arith

  nothing-target : (s : ℕ) → gives_nothing nfa u s ≡ true → target nfa u s ≡ []
  nothing-target s e = grind arith

  -- the states that give nothing can be left out
  roots_same : (kind : MatchKind) (xs : List ℕ)
      → roots_of nfa kind u (without (gives_nothing nfa u) xs) ≡ roots_of nfa kind u xs
  roots_same All xs = flat_map-without _ (gives_nothing nfa u) xs nothing-target
  roots_same LeftmostFirst xs = rw (before-without (is_match nfa) (gives_nothing nfa u) xs (λ s m. rw m refl))
      (flat_map-without _ (gives_nothing nfa u) (before (is_match nfa) xs) nothing-target)

  -- the kept states, followed by those that will be new and give something
  abbrev whole : List ℕ → List ℕ → List ℕ
  whole kept xs = kept ++ fresh nat_eq (joined (gives_nothing nfa u) (has_id kept)) xs

  whole-next : (kept : List ℕ) (s : ℕ) (xs : List ℕ) → whole (kept ++ gained nfa u kept s) xs ≡ whole kept (s ∷ xs)
  whole-next kept s xs = by_test (gives_nothing nfa u s || has_id kept s)
      (λ e. rw (e, append-nil) refl)
      (λ e. rw (e, append_assoc) (ap (λ (met : ℕ → Bool). kept ++ (s ∷ fresh nat_eq met xs))
      (fun_ext (λ x. rw list_any-append (grind (arith, same_decides s x, same_decides x s))))))

  -- what is kept gives what they give
  kept_gives : (kind : MatchKind) (kept xs : List ℕ) → (continues kind ≡ false → list_any (is_match nfa) kept ≡ false)
      → (patterns_of nfa (kept_of nfa kind u kept xs) ≡ patterns_read kind (patterns_of nfa (whole kept xs)))
      × (flat_map (target nfa u) (kept_of nfa kind u kept xs) ≡ roots_of nfa kind u (whole kept xs))
  kept_gives All kept [] none = rw append-nil (refl, refl)
  kept_gives All kept (s ∷ xs) none =
      rw (← whole-next kept s xs) (kept_gives All (kept ++ gained nfa u kept s) xs (λ e. absurd (true≢false e)))
  kept_gives LeftmostFirst kept [] none =
      let on = goes_on nfa kept (none refl) in rw append-nil (rw on.1 refl, rw on.0 refl)
  kept_gives LeftmostFirst kept (s ∷ xs) none = by_option (pattern_of nfa s)
      (λ k. let later = kept_gives LeftmostFirst (kept ++ gained nfa u kept s) xs
      (λ e. rw list_any-append (grind (arith, none e))) in
      (cc (later.0, whole-next kept s xs), cc (later.1, whole-next kept s xs)))
      (λ p k. let new = unmatched_new nfa kept s (none refl) (rw k refl) in
      let later : List ℕ = fresh nat_eq (joined (gives_nothing nfa u) (has_id (kept ++ s ∷ []))) xs in
      let at = stops_at nfa kept later s p (none refl) k in
      rw (← whole-next kept s xs, k, new, append_assoc, at.0, at.1) (
        patterns-push nfa kept s ∙ rw ((goes_on nfa kept (none refl)).1, k) refl,
        targets-push nfa u kept s ∙ rw (target-match s (rw k refl), append-nil) refl,
      ))

-- the states that are kept give what the list gives
pub all_read : {nfa : Nfa} {u : Option ℕ} {first value : Value} {targets : List ℕ} (kind : MatchKind) (xs : List ℕ)
    → IsReading nfa u first value (kept_of nfa kind u [] xs) targets
    → IsListRead nfa kind u (distinct xs) first value targets
all_read {nfa} {u} kind xs reading =
    let kept = kept_gives nfa u kind [] xs (λ e. refl) in
    let live = fresh-joined same_decides (gives_nothing nfa u) none_held xs in
    let patterns = flat_map-without _ (gives_nothing nfa u) (distinct xs) (nothing-pattern nfa u) in record {
      value_is = rw (kept.0, live, patterns) at reading.value_is;
      targets_are = reading.targets_are ∙ kept.1 ∙ rw live (roots_same nfa u kind (distinct xs));
    }

-- a transition is on a unit if its range contains the byte, or 256 for EOI
pub on_byte_or_256 : (t : Transition) (u : Option ℕ) → t.end < 256 → matches t (byte_or_256 u) ≡ matches_unit t u
on_byte_or_256 t None small = grind (arith, nat_tests)
on_byte_or_256 t (Some byte) small = refl
