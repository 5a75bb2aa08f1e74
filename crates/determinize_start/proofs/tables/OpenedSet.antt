-- The members of the sets that a unit satisfies.
-- Main statements: has-word_set, has-opened.
-- Used by: `words_opened`, `LookTables::opened`.
-- Idea: as KnownSet, for word and for line assertions.
use Rattle.determinize_start.proofs.Common.{beq, Bool, crlf_first, End, EndCRLF, EndLF, false, has, is, is_none, is_word, crlf_second, Look, not, Option, refl, StartCRLF, Tables, WordAscii, WordAsciiNegate, WordEndAscii, WordEndHalfAscii, WordEndHalfUnicode, WordEndUnicode, WordStartAscii, WordStartUnicode, WordUnicode, WordUnicodeNegate, ℕ, ◌&&◌, ◌||◌, ◌≡◌, or-false, bit_or, has-empty, has-union, word_set, line_set, arith}
use Rattle.determinize_below.proofs.looks.LookSets.{same, index_of}
use Rattle.determinize_start.specs.LookTables.{word_opened, line_opened, opened}
use Rattle.determinize_start.proofs.tables.KnownSet.{has-insert_where}

-- the members of the word set, the last inserted first
word_each : (f w : Bool) (k : Look)
    → ((same WordEndHalfUnicode k && not w)
    || ((same WordEndHalfAscii k && not w)
    || ((same WordEndUnicode k && (f && not w))
    || ((same WordEndAscii k && (f && not w))
    || ((same WordStartUnicode k && (not f && w))
    || ((same WordStartAscii k && (not f && w))
    || ((same WordUnicodeNegate k && beq f w)
    || ((same WordAsciiNegate k && beq f w)
    || ((same WordUnicode k && not (beq f w))
    || ((same WordAscii k && not (beq f w)) || false)))))))))) ≡ word_opened f w k
unfolding same index_of word_opened
word_each f w WordAscii = or-false _
word_each f w k = grind arith

pub has-word_set : (f w : Bool) (k : Look) → has (word_set f w) k ≡ word_opened f w k
has-word_set f w k = simp (has-insert_where, has-empty) (word_each f w k)

-- the members of the haystack and line set
line_each : (t : Tables) (half : Bool) (u : Option ℕ) (k : Look)
    → ((same StartCRLF k && (half && not (is u (crlf_second t.reverse))))
    || ((same EndCRLF k && (is_none u || is u (crlf_first t.reverse) || (is u (crlf_second t.reverse) && not half)))
    || ((same EndLF k && (is_none u || is u t.terminator)) || ((same End k && is_none u) || false))))
    ≡ line_opened t half u k
unfolding same index_of line_opened
line_each t half u End = or-false _
line_each t half u k = grind arith

pub has-line_set : (t : Tables) (half : Bool) (u : Option ℕ) (k : Look)
    → has (line_set t half u) k ≡ line_opened t half u k
has-line_set t half u k = simp (has-insert_where, has-empty) (line_each t half u k)

-- the members of both
pub has-opened : (t : Tables) (f half : Bool) (u : Option ℕ) (words : ℕ) (k : Look)
    → has words k ≡ word_opened f (is_word u) k
    → has (bit_or words (line_set t half u)) k ≡ opened t f half u k
unfolding opened
has-opened t f half u words k h =
    rw (has-union words (line_set t half u) k, h, has-line_set t half u k) refl
