-- The units of a text are bytes, or the end of input.
-- Main statements: text_units, one_unit.
-- Used by: `with_order`, and Reached of `determinize_dense`.
-- Idea: each byte of the reversed bytes is one of the bytes.
use Rattle.determinize_core.proofs.Common.{[], arith, between, Bool, get_or-reverse, length-reverse, List, Option, Some}
use Rattle.determinize_core.proofs.Common.{subst, sym, units, ℕ, ◌<◌, ◌∷◌}
use Rattle.determinize_engine.specs.Searches.{in_order}
use Rattle.std.specs.Prelude.{All}
use Rattle.std.proofs.lemmas.List.Elements.{All-append, All-map}
use Rattle.determinize_below.specs.Truth.{IsUnit}
use Rattle.determinize_engine.proofs.Texts.{units_listed}

-- a list of one unit
pub one_unit : (u : Option ℕ) → IsUnit u → All IsUnit (u ∷ [])
one_unit u h = grind arith

-- bytes in either order
bytes_in_order : (back : Bool) (bytes : List ℕ) → All (λ b. b < 256) bytes → All (λ b. b < 256) (in_order back bytes)
bytes_in_order back bytes small = grind (arith, get_or-reverse bytes, length-reverse bytes)

pub text_units : (behind : Option ℕ) (back : Bool) (bytes : List ℕ) (ahead : Option ℕ) → All (λ b. b < 256) bytes
    → IsUnit ahead → All IsUnit (units (between behind (in_order back bytes) ahead))
text_units behind back bytes ahead small unit =
    subst (λ us. All IsUnit us) (sym (units_listed (between behind (in_order back bytes) ahead)))
    (All-append IsUnit _ (ahead ∷ []) (All-map IsUnit Some (in_order back bytes) (bytes_in_order back bytes small))
    (one_unit ahead unit))
