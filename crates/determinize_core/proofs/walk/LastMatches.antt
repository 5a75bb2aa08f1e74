-- The last match of the values of a walk, found one by one, and over one unit more.
-- Main statements: last_ended_found, last_ended_kept, last_match-push, each_last_unit_unrolls.
-- Used by: `last_match`, `last_match_law`, and searches.
-- Idea: one more value replaces the last match if it lists a pattern.
use Rattle.determinize_core.proofs.Common.{false, HalfMatch, is_nonempty, None, slice_index, Some, sym, true}
use Rattle.determinize_core.proofs.Common.{true≢false}
use Rattle.determinize_core.proofs.Common.{[], add-one, ap, arith, drop, ended_at, future, get_or, last_ended}
use Rattle.determinize_core.proofs.Common.{last_match, length, List, MatchKind, Nfa, Option, option_or, refl, step}
use Rattle.determinize_core.proofs.Common.{suc}
use Rattle.determinize_core.proofs.Common.{Value, value_after, ℕ, ◌++◌, ◌+◌, ◌<◌, ◌∷◌, ◌≡◌}
use Rattle.ordered_reach.proofs.lists.Pieces.{option_or-assoc, option_or-None}
use Rattle.std.proofs.Math.Nat.{add-zero}
use Rattle.std.specs.Prelude.{option_map}
use Rattle.std.proofs.lemmas.List.{drop_more}
use Rattle.determinize_core.specs.Laws.{EachFirstUnitUnrolls, EachLastUnitUnrolls, one_later}
use Rattle.determinize_core.proofs.walk.WalkLoops.{future-push, value_after-push}

-- one more value
last_ended-push : (n : ℕ) (vs : List Value) (v : Value)
    → last_ended n (vs ++ v ∷ []) ≡ option_or (ended_at (n + length vs) v.patterns) (last_ended n vs)
last_ended-push n [] v = rw (add-zero, option_or-None)
last_ended-push n (w ∷ vs) v =
    let z : suc n + length vs ≡ n + suc (length vs) = omega arith in
    rw (last_ended-push (suc n) vs v, z, option_or-assoc)

-- the first of some patterns is a match, and of none there is none
listed : (i : ℕ) (ps : List ℕ) (found : Option HalfMatch) (pattern : ℕ) → is_nonempty ps ≡ true
    → pattern ≡ slice_index ps 0
    → Some (record { pattern = pattern; offset = i }) ≡ option_or (ended_at i ps) found
listed i ps found pattern lists is = grind arith

unlisted : (i : ℕ) (ps : List ℕ) (found : Option HalfMatch) → is_nonempty ps ≡ false
    → found ≡ option_or (ended_at i ps) found
unlisted i ps found none = grind arith

-- a list that is not empty has a first item
pub first_listed : (ps : List ℕ) → is_nonempty ps ≡ true → 0 < length ps
first_listed [] lists = absurd (true≢false (sym lists))
first_listed (p ∷ ps) lists = omega arith

-- no value lists a pattern where there is none
pub last_match-empty : (vs : List Value) → length vs ≡ 0 → last_match vs ≡ None
last_match-empty [] none = refl
last_match-empty (v ∷ vs) none = absurd (omega arith)

-- the last match of what is left of a list, from its first value on
last_ended_more : (vs : List Value) (i : ℕ) (d : Value) → i < length vs
    → last_ended i (drop i vs) ≡ option_or (last_ended (i + 1) (drop (i + 1) vs)) (ended_at i (get_or vs i d).patterns)
last_ended_more vs i d l = rw (drop_more vs i d l, add-one)

-- the last match so far, after one more value that may list a pattern
module _ (vs : List Value) (i : ℕ) (v : Value) (found whole : Option HalfMatch) (within : i < length vs)
    (at : v ≡ get_or vs i v) (so_far : option_or (last_ended i (drop i vs)) found ≡ whole) where
  pub last_ended_found : (pattern : ℕ) → is_nonempty v.patterns ≡ true → pattern ≡ slice_index v.patterns 0
      → option_or (last_ended (i + 1) (drop (i + 1) vs)) (Some (record { pattern = pattern; offset = i })) ≡ whole
  last_ended_found pattern lists is = rw (listed i v.patterns found pattern lists is, ← option_or-assoc)
      (rw (last_ended_more vs i v within, ← at) at so_far)

  pub last_ended_kept : is_nonempty v.patterns ≡ false
      → option_or (last_ended (i + 1) (drop (i + 1) vs)) found ≡ whole
  last_ended_kept none = rw (unlisted i v.patterns found none, ← option_or-assoc)
      (rw (last_ended_more vs i v within, ← at) at so_far)

-- the last match, one position later
last_ended-later : (n : ℕ) (vs : List Value) → last_ended (suc n) vs ≡ option_map one_later (last_ended n vs)
last_ended-later n [] = refl
last_ended-later n (v ∷ vs) = grind (arith, last_ended-later (suc n) vs)

module _ (nfa : Nfa) (kind : MatchKind) where
  -- the values that follow, without the first
  abbrev pub tail : Value → List (Option ℕ) → List Value
  tail v [] = []
  tail v (u ∷ us) = future nfa kind (step nfa kind v u) us

  pub future_is : (v : Value) (us : List (Option ℕ)) → future nfa kind v us ≡ v ∷ tail v us
  future_is v us = grind arith

  pub length-tail : (v : Value) (us : List (Option ℕ)) → length (tail v us) ≡ length us
  length-tail v [] = refl
  length-tail v (u ∷ us) = rw (future_is (step nfa kind v u) us) (ap suc (length-tail (step nfa kind v u) us))

  -- the last match over one more unit
  pub last_match-push : (v : Value) (us : List (Option ℕ)) (u : Option ℕ)
      → last_match (future nfa kind v (us ++ u ∷ []))
      ≡ option_or (ended_at (length us) (value_after nfa kind v (us ++ u ∷ [])).patterns)
      (last_match (future nfa kind v us))
  last_match-push v us u = rw (future-push nfa kind v us u, value_after-push nfa kind v us u, future_is v us)
      (grind (arith, length-tail v us, last_ended-push 0 (tail v us)))

pub each_first_unit_unrolls : EachFirstUnitUnrolls
each_first_unit_unrolls nfa kind v u us =
    rw (future_is nfa kind (step nfa kind v u) us, last_ended-later 0 (tail nfa kind (step nfa kind v u) us))

pub each_last_unit_unrolls : EachLastUnitUnrolls
each_last_unit_unrolls nfa kind v us u = (value_after-push nfa kind v us u, last_match-push nfa kind v us u)

pub ruleset last_match_laws = (each_first_unit_unrolls, each_last_unit_unrolls)
