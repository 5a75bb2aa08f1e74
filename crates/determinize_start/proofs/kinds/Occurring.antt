-- The kinds of start that occur.
-- Main statements: custom_occurs, no_custom, other_occurs.
-- Used by: `Start::occurs`.
-- Idea: of two bytes of each kind one is not the line terminator.
use Rattle.determinize_start.proofs.Common.{arith, by_test, CustomLineTerminator, false, LineCR, LineLF, nat_eq}
use Rattle.determinize_start.proofs.Common.{None, NonWordByte, Option, refl, Some, start_kind, start_kind_of, Text}
use Rattle.determinize_start.proofs.Common.{WordByte, ℕ, ◌<◌, ◌≡◌}
use Rattle.determinize_below.specs.Semantics.{is_word_byte}
use Rattle.determinize_start.specs.StartKinds.{Occurs}
use Rattle.determinize_start.specs.declared.start.Start.{Start as Kind}
use Rattle.std.proofs.lemmas.Bool.Decides.{nat_tests}

-- a custom line terminator is neither a line feed nor a carriage return
pub custom_occurs : (t : ℕ) → t < 256 → (t ≡ 10 → ⊥) → (t ≡ 13 → ⊥) → Occurs t CustomLineTerminator
custom_occurs t below lf cr = (Some t, below, grind (arith, nat_tests, lf, cr))

pub no_custom : (p : Option ℕ)
    → (start_kind_of 10 p ≡ CustomLineTerminator → ⊥) × (start_kind_of 13 p ≡ CustomLineTerminator → ⊥)
no_custom None = (λ e. grind (arith, e), λ e. grind (arith, e))
no_custom (Some b) = (λ e. grind (arith, e), λ e. grind (arith, e))

-- a byte that is not the line terminator
other_byte : (t b c : ℕ) (k : Kind) → b < 256 → c < 256 → nat_eq c b ≡ false
    → (nat_eq b t ≡ false → start_kind t b ≡ k) → (nat_eq c t ≡ false → start_kind t c ≡ k) → Occurs t k
other_byte t b c k below under apart first second =
    by_test (nat_eq b t)
    (λ e. (Some c, under, second (grind (arith, e, apart))))
    (λ e. (Some b, below, first e))

pub other_occurs : (t : ℕ) (k : Kind) → (k ≡ CustomLineTerminator → ⊥) → Occurs t k
unfolding is_word_byte
other_occurs t NonWordByte other =
    other_byte t 32 33 NonWordByte (omega arith) (omega arith) refl (λ e. rw e refl) (λ e. rw e refl)
other_occurs t WordByte other =
    other_byte t 97 98 WordByte (omega arith) (omega arith) refl (λ e. rw e refl) (λ e. rw e refl)
other_occurs t Text other = (None, tt, refl)
other_occurs t LineLF other = (Some 10, omega arith, refl)
other_occurs t LineCR other = (Some 13, omega arith, refl)
other_occurs t CustomLineTerminator other = absurd (other refl)
