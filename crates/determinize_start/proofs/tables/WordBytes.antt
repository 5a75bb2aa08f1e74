-- The table of the word bytes.
-- Main statements: word_table.
-- Used by: `is_word_unit`.
-- Idea: each byte is tried.
use Rattle.std.specs.Prelude.{slice_index_or}
use Rattle.std.proofs.lemmas.Bool.{agree_below_at}
use Rattle.determinize_start.proofs.Common.{false, refl, ℕ, ◌<◌, ◌≡◌}
use Rattle.determinize_below.specs.Semantics.{is_word_byte}
use Rattle.determinize_start.specs.declared.look_tables.TheConstants.{WORD_BYTES}

-- the entry of a byte is whether it is a word byte
pub word_table : (b : ℕ) → b < 256 → slice_index_or WORD_BYTES b false ≡ is_word_byte b
unfolding is_word_byte
word_table b h = agree_below_at (λ x. slice_index_or WORD_BYTES x false) is_word_byte 256 b refl h
