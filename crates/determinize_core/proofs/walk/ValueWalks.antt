-- The theorem in words of values, and as what it says of their lists of patterns.
-- Main statements: ListsAll, FindsLeftmost, all_listed, leftmost_listed.
-- Used by: WalkOfRuns, Farthest, and `determinize_uses`.
-- Idea: the list at an index is that of the value at the index.
use Rattle.determinize_core.proofs.Common.{Accepts, arith, by_option, Contains, IsLeftmostWalk, IsPreferredMatch}
use Rattle.determinize_core.proofs.Common.{IsWalkOfAll, last_match, length, List, lists_of, ListsAccepted, Nfa}
use Rattle.determinize_core.proofs.Common.{slice_get, slice_get-map, Some, suc, Text, Value, ℕ, ◌+◌, ◌∙◌, ◌≡◌}
use Rattle.std.specs.Prelude.{drop}
use Rattle.determinize_core.specs.Walk.{last_listed}

-- `IsWalkOfAll` of the values of a walk
pub record ListsAll (nfa : Nfa) (start : ℕ) (text : Text) (values : List Value) : Type 0 where
  pub count : length values ≡ length text.bytes + 2
  pub matches : (i : ℕ) (v : Value) → slice_get values (suc i) ≡ Some v → ListsAccepted nfa text start i v.patterns

-- `IsLeftmostWalk` of the values of a walk
pub record FindsLeftmost (nfa : Nfa) (start : ℕ) (text : Text) (values : List Value) : Type 0 where
  pub found : IsPreferredMatch nfa start text (last_match values)
  pub matches : (i : ℕ) (v : Value) → slice_get values (suc i) ≡ Some v → (x : ℕ) → Contains v.patterns x
      → (cs : List ℕ) × Accepts nfa text start cs i x

-- the value whose list is at an index
value_of : (values : List Value) (i : ℕ) (ps : List ℕ) → slice_get (lists_of values) i ≡ Some ps
    → (v : Value) × (slice_get values i ≡ Some v) × (v.patterns ≡ ps)
value_of values i ps e = by_option (slice_get values i)
    (λ n. cc (slice_get-map (λ (v : Value). v.patterns) values i))
    (λ v h. (v, h, cc (slice_get-map (λ (w : Value). w.patterns) values i)))

-- the list of the value at an index
pub list_of : (values : List Value) (i : ℕ) (v : Value) → slice_get values i ≡ Some v
    → slice_get (lists_of values) i ≡ Some v.patterns
list_of values i v e = rw (slice_get-map, e)

pub last_is : (values : List Value) → last_match values ≡ last_listed 0 (drop 1 (lists_of values))
last_is values = grind arith

module _ (nfa : Nfa) (start : ℕ) (text : Text) (values : List Value) where
  pub all_listed : ListsAll nfa start text values → IsWalkOfAll nfa start text (lists_of values)
  all_listed w = record {
    matches = λ i ps e. let r = value_of values (suc i) ps e in rw (← r.2) (w.matches i r.0 r.1);
  }

  pub leftmost_listed : FindsLeftmost nfa start text values → IsLeftmostWalk nfa start text (lists_of values)
  leftmost_listed w = record {
    preferred = λ m e. rw (last_is values ∙ e) at w.found;
    none = λ e. rw (last_is values ∙ e) at w.found;
    matches = λ i ps e x c. let r = value_of values (suc i) ps e in w.matches i r.0 r.1 x (rw (← r.2) at c);
  }
