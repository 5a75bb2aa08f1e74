-- Laws for the invariants of the loops of a step and of a walk.
-- Main statements: future-push, value_after-push, pattern_new, stops_at.
-- Used by: LastMatches, FirstReading, UnitLists, and the crates above.
-- Idea: what a loop has done grows at its end.
use Rattle.determinize_core.proofs.Common.{[], ap, append-nil, arith, false, flat_map, flat_map-append, future}
use Rattle.determinize_core.proofs.Common.{is_match, LeftmostFirst, List, list_any, MatchKind, nat_eq, nat_tests, Nfa}
use Rattle.determinize_core.proofs.Common.{Option, option_to_list, part_read, pattern_of, patterns_of, patterns_read}
use Rattle.determinize_core.proofs.Common.{refl, Some, step, target, Value, value_after, ℕ, ◌++◌, ◌∷◌, ◌≡◌}
use Rattle.determinize_below.proofs.nfas.SoundNfa.{IsSound}

-- one more unit
pub future-push : (nfa : Nfa) (kind : MatchKind) (v : Value) (us : List (Option ℕ)) (u : Option ℕ)
    → future nfa kind v (us ++ u ∷ []) ≡ future nfa kind v us ++ step nfa kind (value_after nfa kind v us) u ∷ []
future-push nfa kind v [] u = refl
future-push nfa kind v (w ∷ us) u = ap (λ l. v ∷ l) (future-push nfa kind (step nfa kind v w) us u)

pub value_after-push : (nfa : Nfa) (kind : MatchKind) (v : Value) (us : List (Option ℕ)) (u : Option ℕ)
    → value_after nfa kind v (us ++ u ∷ []) ≡ step nfa kind (value_after nfa kind v us) u
value_after-push nfa kind v [] u = refl
value_after-push nfa kind v (w ∷ us) u = value_after-push nfa kind (step nfa kind v w) us u

-- one more state
pub patterns-push : (nfa : Nfa) (xs : List ℕ) (s : ℕ)
    → patterns_of nfa (xs ++ s ∷ []) ≡ patterns_of nfa xs ++ option_to_list (pattern_of nfa s)
patterns-push nfa xs s = simp (flat_map-append, append-nil)

pub targets-push : (nfa : Nfa) (u : Option ℕ) (xs : List ℕ) (s : ℕ)
    → flat_map (target nfa u) (xs ++ s ∷ []) ≡ flat_map (target nfa u) xs ++ target nfa u s
targets-push nfa u xs s = simp (flat_map-append, append-nil)

-- the pattern of one more state is new
pub pattern_new : (nfa : Nfa) → IsSound nfa → (xs : List ℕ) (s p : ℕ) → list_any (nat_eq s) xs ≡ false
    → pattern_of nfa s ≡ Some p → list_any (nat_eq p) (patterns_of nfa xs) ≡ false
pattern_new nfa sound [] s p h e = refl
pattern_new nfa sound (x ∷ xs) s p h e = grind (arith, nat_tests, pattern_new nfa sound xs s p, sound.one_match s x p)

-- states without a match, and then a match: there the reading stops
pub stops_at : (nfa : Nfa) (xs zs : List ℕ) (s p : ℕ) → list_any (is_match nfa) xs ≡ false → pattern_of nfa s ≡ Some p
    → (part_read LeftmostFirst (is_match nfa) (xs ++ s ∷ zs) ≡ xs)
    × (patterns_read LeftmostFirst (patterns_of nfa (xs ++ s ∷ zs)) ≡ p ∷ [])
stops_at nfa [] zs s p h e = grind arith
stops_at nfa (x ∷ xs) zs s p h e = grind (arith, stops_at nfa xs zs s p)

-- states without a match are all read, and have no pattern
pub goes_on : (nfa : Nfa) (xs : List ℕ) → list_any (is_match nfa) xs ≡ false
    → (part_read LeftmostFirst (is_match nfa) xs ≡ xs) × (patterns_of nfa xs ≡ [])
goes_on nfa [] h = (refl, refl)
goes_on nfa (x ∷ xs) h = grind (arith, goes_on nfa xs)
