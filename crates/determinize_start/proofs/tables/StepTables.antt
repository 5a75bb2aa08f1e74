-- The look-behind after a step, with the assertions that the next unit satisfies, is the truth.
-- Main statements: has-have_after, have_after-known, known_or_opened_any.
-- Used by: TrueTables, and the laws of look-behind.
-- Idea: by cases on the assertion and on a few tests of the byte behind and of the unit.
use Rattle.determinize_start.proofs.Common.{and_parts, ap, behind_test, Bool, crlf_first, End, is, is_known, is_none, is_word, crlf_second, Look, not, Option, refl, Some, StartCRLF, sym, Tables, true, ℕ, ◌||◌, ◌∙◌, ◌≡◌, holds, known_is, IsFlagged, arith}
use Rattle.determinize_below.specs.Look.{has}
use Rattle.determinize_start.specs.LookTables.{opened, word_opened, line_opened, have_after, from_word_after, half_crlf_after}
use Rattle.determinize_start.proofs.tables.KnownSet.{under, known-agree, known-within, word_class, crlf_class}

module _ (t : Tables) where
  -- look-have after a byte is complete, for the assertions of the NFA
  pub has-have_after : (b : ℕ) (l : Look) → has t.any l ≡ true
      → has (have_after t (Some b)) l ≡ is_known t.reverse t.terminator (Some b) l
  unfolding have_after
  has-have_after b l h =
      known-agree t.any _ _ _ _ _ _ _ _ l h (λ _. refl) (λ e. under _ _ e) (λ _ e. under _ _ e) (λ e. under _ _ e)
      ∙ sym (known_is t.reverse t.terminator (Some b) l)

  -- look-have after a byte is sound
  pub have_after-known : (b : ℕ) (l : Look) → has (have_after t (Some b)) l ≡ true
      → is_known t.reverse t.terminator (Some b) l ≡ true
  unfolding have_after
  have_after-known b l h =
      known_is t.reverse t.terminator (Some b) l
      ∙ known-within _ _ _ _ _ _ _ _ l (λ e. e) (λ e. (and_parts _ _ e).1) (λ e. (and_parts _ _ e).1)
      (λ e. (and_parts _ _ e).1) h

  -- the flags after a step describe the byte that was read
  pub IsFlagged-after : (p : Option ℕ) → IsFlagged t p (from_word_after t p) (half_crlf_after t p)
  unfolding from_word_after half_crlf_after
  IsFlagged-after p = record { word = (λ h. under _ _ h); crlf = (λ h. under _ _ h) }

  -- with right flags, an assertion holds if and only if the look-behind or the unit satisfies it:
  -- as tables, and as sets
  known_or_opened_each : (p u : Option ℕ) (l : Look)
      → (behind_test (is_none p) (is_none p || is p t.terminator) (is_none p || is p (crlf_second t.reverse))
      (not (is_word p)) l || opened t (is_word p) (is p (crlf_first t.reverse)) u l)
      ≡ holds t.reverse t.terminator p u l
  unfolding opened word_opened line_opened
  known_or_opened_each p u End = refl
  known_or_opened_each p u s = grind arith

  known_or_opened : (p u : Option ℕ) (l : Look)
      → (is_known t.reverse t.terminator p l || opened t (is_word p) (is p (crlf_first t.reverse)) u l)
      ≡ holds t.reverse t.terminator p u l
  known_or_opened p u l = rw (known_is t.reverse t.terminator p l) (known_or_opened_each p u l)

  -- wrong flags of a class that the NFA lacks change nothing for the assertions of the NFA
  opened-flags : (p : Option ℕ) (from_word half : Bool) (u : Option ℕ) (l : Look) → IsFlagged t p from_word half
      → has t.any l ≡ true
      → opened t from_word half u l ≡ opened t (is_word p) (is p (crlf_first t.reverse)) u l
  unfolding has opened word_opened line_opened
  opened-flags p from_word half u StartCRLF f h =
      ap (λ x. line_opened t x u StartCRLF) (f.crlf (crlf_class t.any StartCRLF refl h))
  opened-flags p from_word half u l f h = grind (arith, f.word, f.crlf, word_class t.any l, crlf_class t.any l)

  -- with flags that are right if they are needed, an assertion of the NFA holds if and only if the
  -- look-behind or the unit satisfies it
  pub known_or_opened_any : (p : Option ℕ) (from_word half : Bool) (u : Option ℕ) (l : Look)
      → IsFlagged t p from_word half
      → has t.any l ≡ true → (is_known t.reverse t.terminator p l || opened t from_word half u l)
      ≡ holds t.reverse t.terminator p u l
  known_or_opened_any p from_word half u l f h = rw (opened-flags p from_word half u l f h) (known_or_opened p u l)
