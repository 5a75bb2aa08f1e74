-- The patterns that match where a text ends, in words of runs.
-- Main statements: lists_at_end.
-- Used by: `patterns_after` of both DFAs, and the listings of a whole one.
-- Idea: the last value of a walk is that over the unit ahead. Under `LeftmostFirst` it lists a pattern exactly if the
-- last match of the walk, which is the preferred one, ends with the text.
use Rattle.determinize_core.proofs.Common.{[], Accepts, after_at, All, arith, chain, ended_at, future, HalfMatch}
use Rattle.determinize_core.proofs.Common.{IfSome}
use Rattle.determinize_core.proofs.Common.{IsAccepted, IsPreferredMatch, LeftmostFirst, length, length-map, List}
use Rattle.determinize_core.proofs.Common.{ListsAccepted, map, MatchKind, Nfa, None, Option, option_or, refl, Some}
use Rattle.determinize_core.proofs.Common.{start_value, step, suc, sym, Text, units, Value, value_after, ℕ, ◌<◌, ◌∷◌}
use Rattle.determinize_core.proofs.Common.{◌≡◌, ◌≤◌}
use Rattle.std.specs.Prelude.{Contains, slice_get}
use Rattle.std.proofs.lemmas.List.FromFn.{length-map-range_with_len}
use Rattle.determinize_core.proofs.step.StepLaws.{one_pattern}
use Rattle.determinize_core.proofs.walk.AcceptedPatterns.{each_answer_is_one}
use Rattle.determinize_core.proofs.walk.LastMatches.{last_match-push}
use Rattle.determinize_core.proofs.walk.UnitLists.{chain_is_future}
use Rattle.determinize_core.proofs.walk.WalkLoops.{value_after-push}
use Rattle.determinize_core.proofs.walk.WalkOfRuns.{leftmost_walk, walk_of_all}
use Rattle.determinize_engine.proofs.LastUnits.{last_match-within}
use Rattle.determinize_engine.proofs.Texts.{units_listed}
use Rattle.determinize_engine.specs.Lists.{ListsAtEnd, ListsPreferred}

-- the value after all units is the last one
future-last : (nfa : Nfa) (kind : MatchKind) (v : Value) (us : List (Option ℕ))
    → slice_get (future nfa kind v us) (length us) ≡ Some (value_after nfa kind v us)
future-last nfa kind v [] = refl
future-last nfa kind v (u ∷ us) = future-last nfa kind (step nfa kind v u) us

module _ (nfa : Nfa) (accepted : IsAccepted nfa) (start : ℕ) (text : Text) where
  abbrev last_value : MatchKind → Value
  last_value kind = value_after nfa kind (start_value nfa start text.behind) (units text)

  -- it follows the last position of the text
  chain-last : (kind : MatchKind) → slice_get (chain nfa kind start text) (suc (length text.bytes))
      ≡ Some (last_value kind)
  unfolding chain
  chain-last kind = rw (length-map-range_with_len (after_at text) 0 (suc (length text.bytes)))
      at (future-last nfa kind (start_value nfa start text.behind) (units text))

  -- under All it lists the patterns with a match that ends there
  all-listed : ListsAccepted nfa text start (length text.bytes) (last_value All).patterns
  all-listed = (walk_of_all nfa accepted start text).matches (length text.bytes) (last_value All) (chain-last All)

  -- under both kinds it lists no others
  listed-accepted : (kind : MatchKind) (x : ℕ) → Contains (last_value kind).patterns x
      → (cs : List ℕ) × Accepts nfa text start cs (length text.bytes) x
  listed-accepted All x listed = (all-listed.accepted x).0 listed
  listed-accepted LeftmostFirst x listed =
      (leftmost_walk nfa accepted start text).matches (length text.bytes) (last_value LeftmostFirst)
      (chain-last LeftmostFirst) x listed

module _ (nfa : Nfa) (accepted : IsAccepted nfa) (start : ℕ) (text : Text) where
  -- of a list of one pattern at most, and a match that ends before
  preferred_of : (xs : List ℕ) → length xs ≤ 1 → (m : Option HalfMatch)
      → IfSome m (λ found. found.offset < length text.bytes)
      → IsPreferredMatch nfa start text (option_or (ended_at (length text.bytes) xs) m)
      → ListsPreferred nfa text start (length text.bytes) xs
  preferred_of [] few None before none = record {
    preferred = λ x. (λ c. absurd (omega (arith, c.1)), λ r. absurd (none r.0 (length text.bytes) x r.1.accepts));
    few = few;
  }
  preferred_of [] few (Some m) before p = record {
    preferred = λ x. (
      λ c. absurd (omega (arith, c.1)),
      λ r. absurd (omega (arith, ((each_answer_is_one nfa text start).1 _ _ _ _ _ _ r.1 p.1).0)),
    );
    few = few;
  }
  preferred_of (y ∷ []) few m before p = record {
    preferred = λ x. (
      λ c. let same : y ≡ x = grind arith in rw (← same) p,
      λ r. (0, omega arith, sym ((each_answer_is_one nfa text start).1 _ _ _ _ _ _ r.1 p.1).1),
    );
    few = few;
  }
  preferred_of (y ∷ z ∷ ys) few m before p = absurd (omega arith)

  -- the last value lists a pattern exactly if the last match, which is the preferred one, ends with the text
  preferred-listed : ListsPreferred nfa text start (length text.bytes)
      (last_value nfa accepted start text LeftmostFirst).patterns
  preferred-listed =
      let first : Value = start_value nfa start text.behind in
      let before = last_match-within nfa LeftmostFirst first (map Some text.bytes) in
      let found = rw (
        chain_is_future nfa LeftmostFirst start text.behind text.ahead text.bytes,
        last_match-push,
        length-map,
      ) at (leftmost_walk nfa accepted start text).found in
      let few = one_pattern nfa LeftmostFirst _ text.ahead refl _
      (value_after-push nfa LeftmostFirst first (map Some text.bytes) text.ahead) in
      rw (units_listed text) (preferred_of _ few _ (rw length-map at before) found)

-- the list of the last value, in words of runs
pub lists_at_end : (nfa : Nfa) (kind : MatchKind) (start : ℕ) (text : Text) (list : List ℕ) → IsAccepted nfa
    → list ≡ (value_after nfa kind (start_value nfa start text.behind) (units text)).patterns
    → ListsAtEnd nfa kind start text list
lists_at_end nfa kind start text list accepted is = record {
  patterns = is;
  all = λ all. rw (is, all) (all-listed nfa accepted start text);
  preferred = λ first. rw (is, first) (preferred-listed nfa accepted start text);
  accepted = λ x listed. listed-accepted nfa accepted start text kind x (rw is at listed);
}
