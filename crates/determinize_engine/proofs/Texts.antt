-- The units of a text: which there are, and which is at an index.
-- Main statements: units_listed, unit-here, unit-last, all_read.
-- Used by: TextUnits, `byte` and `unit`, and the searches of both DFAs.
-- Idea: they are its bytes, and then the byte ahead or the end of input.
use Rattle.determinize_core.proofs.Common.{[], ap, arith, get_or, get_or-reverse, length, length-append, length-map}
use Rattle.determinize_core.proofs.Common.{length-reverse, List, map, slice_get, slice_get-get_or, slice_get-map, Some}
use Rattle.determinize_core.proofs.Common.{Text, units, ℕ, ◌++◌, ◌+◌, ◌<◌, ◌∙◌, ◌∷◌, ◌≡◌, ◌≤◌}
use Rattle.determinize_core.proofs.walk.UnitLists.{units_are}
use Rattle.determinize_engine.proofs.Places.{get_last, get_more}

-- each byte as a unit
pub unit-byte : (bytes : List ℕ) (i b : ℕ) → i < length bytes → b ≡ get_or bytes i 0
    → slice_get (map Some bytes) i ≡ Some (Some b)
unit-byte bytes i b inside is = grind (arith, slice_get-map Some bytes i, slice_get-get_or bytes i 0 inside)

module _ (text : Text) where
  -- the units are the bytes and what is ahead of them
  pub units_listed : units text ≡ map Some text.bytes ++ text.ahead ∷ []
  units_listed = units_are text.behind text.ahead text.bytes

  pub unit-here : (i b : ℕ) → slice_get (map Some text.bytes) i ≡ Some (Some b)
      → slice_get (units text) i ≡ Some (Some b)
  unit-here i b at = ap (λ us. slice_get us i) units_listed
      ∙ get_more (map Some text.bytes) (text.ahead ∷ []) i (Some b) at

  -- and so is what is ahead of them
  pub unit-last : (i : ℕ) → i ≡ length text.bytes → slice_get (units text) i ≡ Some text.ahead
  unit-last i is = ap (λ us. slice_get us i) units_listed
      ∙ rw (is, ← length-map text.bytes Some) (get_last (map Some text.bytes) text.ahead)

  -- nothing is left past its bytes and the unit ahead
  pub all_read : {n m : ℕ} → n < m → n ≡ length text.bytes → length (units text) ≤ m
  all_read h is =
      grind (arith, units_listed, length-append (map Some text.bytes) (text.ahead ∷ []), length-map text.bytes Some)

-- the byte and the unit at an index
pub ruleset reading = (unit-byte, unit-here, unit-last, get_or-reverse, length-reverse)
