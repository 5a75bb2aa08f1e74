-- Where anchored walks over a text begin.
-- Main statements: rows_alike, units_before.
-- Used by: `begin_alike`.
-- Idea: the row depends on the kind of the byte before, and there are six kinds.
use Rattle.std.proofs.Common.{◌≡◌, ◌∙◌, ℕ, None, Option, Some, refl, slice_get, suc, true, zero}
use Rattle.std.proofs.lemmas.Bool.{eqb-true}
use Rattle.std.proofs.lemmas.Option.{slice_get-map}
use Rattle.std.specs.Prelude.{All, nat_eq}
use Rattle.ordered_reach.proofs.Cases.{by_test}
use Rattle.determinize_below.specs.Semantics.{Text, before_at, is_word_byte}
use Rattle.determinize_below.specs.Truth.{IsUnit}
use Rattle.determinize_core.specs.Chain.{units}
use Rattle.determinize_dense.specs.Automaton.{first_row}
use Rattle.determinize_dense.specs.Bytes.{Stored}
use Rattle.determinize_engine.proofs.Texts.{unit-here}
use Rattle.determinize_start.specs.StartKinds.{start_kind}
use Rattle.determinize_start.specs.declared.start.Start.TheVariants.{NonWordByte, WordByte}
use Rattle.determinize_linear.proofs.walks.Walked.{unit_at}

-- one row behind nothing and behind a byte of each kind is the one behind every byte
pub rows_alike : (dfa : Stored) (first word other : ℕ) → start_kind dfa.terminator word ≡ WordByte
    → start_kind dfa.terminator other ≡ NonWordByte → first_row dfa true None ≡ first
    → first_row dfa true (Some dfa.terminator) ≡ first → first_row dfa true (Some 10) ≡ first
    → first_row dfa true (Some 13) ≡ first → first_row dfa true (Some word) ≡ first
    → first_row dfa true (Some other) ≡ first → (p : Option ℕ) → first_row dfa true p ≡ first
rows_alike dfa first word other is_word is_other none ends line back words others None = none
rows_alike dfa first word other is_word is_other none ends line back words others (Some b) =
    by_test (nat_eq b dfa.terminator)
    (λ z. rw (eqb-true b dfa.terminator z) ends)
    (λ apart. by_test (nat_eq b 10)
    (λ z. rw (eqb-true b 10 z) line)
    (λ no_line. by_test (nat_eq b 13)
    (λ z. rw (eqb-true b 13 z) back)
    (λ no_return. by_test (is_word_byte b)
    (λ z. rw (no_line, no_return, apart, z) (rw is_word at words))
    (λ z. rw (no_line, no_return, apart, z) (rw is_other at others)))))

-- what is before a position is a unit
pub units_before : (text : Text) → IsUnit text.behind → All IsUnit (units text) → (k : ℕ) → IsUnit (before_at text k)
units_before text behind all zero = behind
units_before text behind all (suc i) = go (slice_get text.bytes i) refl
  where
    go : (o : Option ℕ) → slice_get text.bytes i ≡ o → IsUnit o
    go None e = tt
    go (Some b) e = unit_at (units text) i (Some b) all
        (unit-here text i b (slice_get-map Some text.bytes i ∙ rw e refl))
