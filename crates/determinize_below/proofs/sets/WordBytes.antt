-- The word bytes as bits.
-- Main statements: word_bits.
-- Used by: `is_word_byte`.
-- Idea: each byte is tried.
use Rattle.determinize_below.proofs.Common.{refl, [], ℕ, ◌<◌, ◌∷◌, ◌≡◌, agree_below_at}
use Rattle.determinize_below.specs.Private.Sparse.{has_bit}
use Rattle.determinize_below.specs.Semantics.{is_word_byte}

-- the bit of a byte is set if and only if it is a word byte
pub word_bits : (b : ℕ) → b < 256 → has_bit (0x03FF000000000000 ∷ 0x07FFFFFE87FFFFFE ∷ 0 ∷ 0 ∷ []) b ≡ is_word_byte b
unfolding has_bit is_word_byte
word_bits b h =
    agree_below_at (has_bit (0x03FF000000000000 ∷ 0x07FFFFFE87FFFFFE ∷ 0 ∷ 0 ∷ [])) is_word_byte 256 b refl h
