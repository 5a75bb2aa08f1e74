-- The last match of a walk over more units, after some that were read.
-- Main statements: last_from-next, last_from-first, last_from-over, later-within.
-- Used by: Scanning, and the loops of searches of `determinize_lazy`.
-- Idea: a loop keeps the last match so far, and the match of the rest replaces it if there is one.
use Rattle.determinize_core.proofs.Common.{[], ap, arith, ended_at, future, HalfMatch, IfSome, is_nonempty, last_match}
use Rattle.determinize_core.proofs.Common.{List, MatchKind, Nfa, None, not, Option, option_map, option_or, step, true}
use Rattle.determinize_core.proofs.Common.{Value, ℕ, ◌+◌, ◌<◌, ◌∙◌, ◌∷◌, ◌≡◌, ◌≤◌}
use Rattle.determinize_core.proofs.walk.LastMatches.{each_first_unit_unrolls}
use Rattle.determinize_core.specs.Laws.{one_later}
use Rattle.determinize_engine.proofs.LastUnits.{last_match-over}
use Rattle.determinize_engine.specs.Private.Later.{last_from, later_by}

pub later-within : (n k limit : ℕ) (found : Option HalfMatch) → IfSome found (λ m. m.offset < k) → n + k ≤ limit + 1
    → IfSome found (λ m. n + m.offset ≤ limit)
later-within n k limit found h sum = grind arith

pub none_left : (states : List ℕ) → not (is_nonempty states) ≡ true → states ≡ []
none_left states h = grind arith

-- one unit more before the others
shift : (n : ℕ) (o last : Option HalfMatch) (patterns : List ℕ)
    → option_or (option_map (later_by n) (option_or (option_map one_later o) (ended_at 0 patterns))) last
    ≡ option_or (option_map (later_by (n + 1)) o) (option_or (ended_at n patterns) last)
shift n o last patterns = grind arith

module _ (nfa : Nfa) (kind : MatchKind) where
  pub last_from-next : (n : ℕ) (last : Option HalfMatch) (v : Value) (u : Option ℕ) (us : List (Option ℕ))
      → last_from nfa kind n last v (u ∷ us)
      ≡ last_from nfa kind (n + 1) (option_or (ended_at n (step nfa kind v u).patterns) last) (step nfa kind v u) us
  last_from-next n last v u us =
      ap (λ o. option_or (option_map (later_by n) o) last) (each_first_unit_unrolls nfa kind v u us)
      ∙ shift n (last_match (future nfa kind (step nfa kind v u) us)) last (step nfa kind v u).patterns

  -- from the beginning
  pub last_from-first : (v : Value) (us : List (Option ℕ))
      → last_from nfa kind 0 None v us ≡ last_match (future nfa kind v us)
  last_from-first v us = grind arith

  -- no match follows a value without NFA states
  pub last_from-over : (n : ℕ) (last : Option HalfMatch) (v : Value) (us : List (Option ℕ)) → v.states ≡ []
      → last_from nfa kind n last v us ≡ last
  last_from-over n last v us none = rw (← last_match-over nfa kind v [] us none)
