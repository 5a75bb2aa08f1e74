-- The units of a text as a list, and one byte more.
-- Main statements: units_are, chain_is_future, each_byte_ahead_is_next.
-- Used by: `units_law`, `ahead_law`, ReturnedWalk, and searches.
-- Idea: the bytes of a text, and then what is ahead.
use Rattle.determinize_core.proofs.Common.{[], after_at, ap, arith, between, chain, future, length, List, map}
use Rattle.determinize_core.proofs.Common.{map-append, MatchKind, Nfa, Option, range_with_len, refl, Some, start_value}
use Rattle.determinize_core.proofs.Common.{step, suc, units, value_after, zero, ℕ, ◌++◌, ◌+◌, ◌∙◌, ◌∷◌, ◌≡◌}
use Rattle.determinize_core.specs.Laws.{EachByteAheadIsNext, EachUnitIsAByte}
use Rattle.determinize_core.proofs.walk.WalkLoops.{future-push}

-- positions of a text with one more byte before its own
later_units : (behind ahead : Option ℕ) (b : ℕ) (bytes : List ℕ) (k n : ℕ)
    → map (after_at (between behind (b ∷ bytes) ahead)) (range_with_len (suc k) n)
    ≡ map (after_at (between behind bytes ahead)) (range_with_len k n)
later_units behind ahead b bytes k zero = refl
later_units behind ahead b bytes k (suc n) =
    let one : suc k + 1 ≡ suc (k + 1) = omega arith in rw (one, later_units behind ahead b bytes (k + 1) n)

-- the units are the bytes and what is ahead of them
pub units_are : (behind ahead : Option ℕ) (bytes : List ℕ)
    → units (between behind bytes ahead) ≡ map Some bytes ++ ahead ∷ []
units_are behind ahead [] = refl
units_are behind ahead (b ∷ bytes) =
    ap (λ us. Some b ∷ us) (later_units behind ahead b bytes 0 (suc (length bytes)) ∙ units_are behind ahead bytes)

pub each_unit_is_a_byte : EachUnitIsAByte
each_unit_is_a_byte text = units_are text.behind text.ahead text.bytes

-- the values of a walk, by the bytes
pub chain_is_future : (nfa : Nfa) (kind : MatchKind) (start : ℕ) (behind ahead : Option ℕ) (bytes : List ℕ)
    → chain nfa kind start (between behind bytes ahead)
    ≡ future nfa kind (start_value nfa start behind) (map Some bytes ++ ahead ∷ [])
unfolding chain
chain_is_future nfa kind start behind ahead bytes =
    ap (λ us. future nfa kind (start_value nfa start behind) us) (units_are behind ahead bytes)

pub each_byte_ahead_is_next : EachByteAheadIsNext
each_byte_ahead_is_next nfa kind start behind bytes byte ahead = (
  step nfa kind (value_after nfa kind (start_value nfa start behind) (map Some bytes ++ Some byte ∷ [])) ahead,
  rw (chain_is_future, chain_is_future, map-append) (future-push nfa kind _ _ ahead),
)
