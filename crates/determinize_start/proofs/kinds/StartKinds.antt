-- The look-behind of a start kind is sound and complete for the assertions of the NFA.
-- Main statements: has-have_at_start, start_have-known, from_word-same.
-- Used by: `set_lookbehind_from_start`, `start_law`.
-- Idea: the bytes of one start kind satisfy the same assertions of the NFA.
use Rattle.determinize_start.proofs.Common.{and_parts, arith, behind_test, Bool, crlf_first, CustomLineTerminator, eqb-true, false, has, is_known, crlf_second, LineCR, LineLF, Look, NonWordByte, not, Option, refl, Some, start_kind, sym, Tables, true, WordByte, ℕ, ◌&&◌, ◌∙◌, ◌≡◌, and-true, and-false, None, nat_eq, subst, eq-eqb, known_is, by_test, start_kind_of}
use Rattle.determinize_below.specs.Semantics.{is_word_byte}
use Rattle.determinize_start.specs.LookTables.{start_have, start_from_word, start_half_crlf, have_at_start, from_word_at_start, half_crlf_at_start, from_word_after, half_crlf_after}
use Rattle.determinize_start.proofs.tables.KnownSet.{under, known-agree, known-within}
use Rattle.determinize_start.specs.declared.start.Start.{Start as Kind}

swap_eq : (a b : ℕ) → nat_eq a b ≡ nat_eq b a
swap_eq a b = grind arith

not_second : (reverse : Bool) (b : ℕ) → nat_eq b 10 ≡ false → nat_eq b 13 ≡ false
    → nat_eq b (crlf_second reverse) ≡ false
not_second true b e k = k
not_second false b e k = e

not_first : (reverse : Bool) (b : ℕ) → nat_eq b 10 ≡ false → nat_eq b 13 ≡ false → nat_eq b (crlf_first reverse) ≡ false
not_first true b e k = e
not_first false b e k = k

-- a property of each byte by its start kind
pub by_kind : (t : ℕ) (P : ℕ → Kind → Type 0)
    → P 10 LineLF
    → P 13 LineCR
    → (nat_eq t 10 ≡ false → nat_eq t 13 ≡ false → P t CustomLineTerminator)
    → ((b : ℕ) → nat_eq b 10 ≡ false → nat_eq b 13 ≡ false → nat_eq b t ≡ false → is_word_byte b ≡ true → P b WordByte)
    → ((b : ℕ) → nat_eq b 10 ≡ false → nat_eq b 13 ≡ false → nat_eq b t ≡ false → is_word_byte b ≡ false
    → P b NonWordByte)
    → (b : ℕ) → P b (start_kind t b)
by_kind t P lf cr custom word other b =
    by_test (nat_eq b 10)
    (λ e. rw e (subst (λ x. P x LineLF) (sym (eqb-true _ _ e)) lf))
    (λ e. by_test (nat_eq b 13)
    (λ k. rw (e, k) (subst (λ x. P x LineCR) (sym (eqb-true _ _ k)) cr))
    (λ k. by_test (nat_eq b t)
    (λ m. rw (e, k, m) (subst (λ x. nat_eq x 10 ≡ false → nat_eq x 13 ≡ false → P x CustomLineTerminator)
    (sym (eqb-true _ _ m)) custom e k))
    (λ m. by_test (is_word_byte b)
    (λ w. rw (e, k, m, w) (word b e k m w))
    (λ w. rw (e, k, m, w) (other b e k m w)))))

lf_crlf : (reverse c : Bool) → (c && not reverse) ≡ (c && nat_eq 10 (crlf_second reverse))
lf_crlf true c = refl
lf_crlf false c = refl

cr_crlf : (reverse c : Bool) → (c && reverse) ≡ (c && nat_eq 13 (crlf_second reverse))
cr_crlf true c = refl
cr_crlf false c = refl

absent : {P : Type 0} → false ≡ true → P
absent h = absurd (cc)

module _ (t : Tables) where
  -- the assertions satisfied after a byte, as a table
  abbrev after : ℕ → Look → Bool
  after b = behind_test false (nat_eq b t.terminator) (nat_eq b (crlf_second t.reverse)) (not (is_word_byte b))

  -- the look-have of the kind is complete, for the assertions of the NFA
  abbrev IsRight : Look → ℕ → Kind → Type 0
  IsRight l b kind = has (start_have t kind) l ≡ after b l

  right : (l : Look) → has t.any l ≡ true → (b : ℕ) → IsRight l b (start_kind t.terminator b)
  unfolding is_word_byte start_have
  right l h = by_kind t.terminator (IsRight l)
      (known-agree t.any _ _ _ _ _ _ _ _ l h (λ _. refl)
      (λ e. under _ _ e ∙ swap_eq t.terminator 10) (λ e _. lf_crlf t.reverse _ ∙ under _ _ e) (λ e. e))
      (known-agree t.any _ _ _ _ _ _ _ _ l h (λ _. refl)
      (λ e. under _ _ e ∙ swap_eq t.terminator 13) (λ _ e. cr_crlf t.reverse _ ∙ under _ _ e) (λ e. e))
      (λ e k. known-agree t.any _ _ _ _ _ _ _ _ l h (λ _. refl)
      (λ d. d ∙ sym (eq-eqb t.terminator t.terminator refl)) (λ _ _. sym (not_second t.reverse t.terminator e k))
      (λ d. under _ _ d))
      (λ b e k m w. known-agree t.any _ _ _ _ _ _ _ _ l h (λ _. refl) (λ _. sym m)
      (λ _ _. sym (not_second t.reverse b e k)) (λ _. rw w))
      (λ b e k m w. known-agree t.any _ _ _ _ _ _ _ _ l h (λ _. refl) (λ _. sym m)
      (λ _ _. sym (not_second t.reverse b e k)) (λ d. rw w d))

  pub has-have_at_start : (p : Option ℕ) (l : Look) → has t.any l ≡ true
      → has (have_at_start t p) l ≡ is_known t.reverse t.terminator p l
  unfolding have_at_start start_have
  has-have_at_start None l h =
      known-agree t.any _ _ _ _ _ _ _ _ l h (λ e. e) (λ e. e) (λ e _. e) (λ e. e)
      ∙ sym (known_is t.reverse t.terminator None l)
  has-have_at_start (Some b) l h = right l h b ∙ sym (known_is t.reverse t.terminator (Some b) l)

  -- the look-have of the kind is sound
  abbrev IsKnown : Look → ℕ → Kind → Type 0
  IsKnown l b kind = has (start_have t kind) l ≡ true → after b l ≡ true

  start_within : (l : Look) → (b : ℕ) → IsKnown l b (start_kind t.terminator b)
  unfolding is_word_byte start_have
  start_within l = by_kind t.terminator (IsKnown l)
      (λ h. known-within _ _ _ _ _ _ _ _ l (λ e. e) (λ e. swap_eq 10 t.terminator ∙ (and_parts _ _ e).1)
      (λ e. (and_parts _ _ (sym (lf_crlf t.reverse _) ∙ e)).1) (λ _. refl) h)
      (λ h. known-within _ _ _ _ _ _ _ _ l (λ e. e) (λ e. swap_eq 13 t.terminator ∙ (and_parts _ _ e).1)
      (λ e. (and_parts _ _ (sym (cr_crlf t.reverse _) ∙ e)).1) (λ _. refl) h)
      (λ e k h. known-within _ _ _ _ _ _ _ _ l (λ e. e) (λ _. eq-eqb t.terminator t.terminator refl) absent
      (λ e. (and_parts _ _ e).1) h)
      (λ b e k m w h. known-within _ _ _ _ _ _ _ _ l (λ e. e) absent absent absent h)
      (λ b e k m w h. known-within _ _ _ _ _ _ _ _ l (λ e. e) absent absent (λ _. rw w) h)

  pub have_at_start-known : (p : Option ℕ) (l : Look) → has (have_at_start t p) l ≡ true
      → is_known t.reverse t.terminator p l ≡ true
  unfolding have_at_start start_have
  have_at_start-known None l h =
      known_is t.reverse t.terminator None l
      ∙ known-within _ _ _ _ _ _ _ _ l (λ _. refl) (λ _. refl) (λ _. refl) (λ _. refl) h
  have_at_start-known (Some b) l h = known_is t.reverse t.terminator (Some b) l ∙ start_within l b h

  -- the same for the start kind of an optional byte
  pub start_have-known : (kind : Kind) (p : Option ℕ) (l : Look) → start_kind_of t.terminator p ≡ kind
      → has (start_have t kind) l ≡ true → is_known t.reverse t.terminator p l ≡ true
  unfolding have_at_start
  start_have-known kind p l e h = have_at_start-known p l (subst (λ k. has (start_have t k) l ≡ true) (sym e) h)

  -- a start kind sets the flags that a step over the byte behind the start would set
  pub from_word-same : (p : Option ℕ) → from_word_at_start t p ≡ from_word_after t p
  unfolding is_word_byte from_word_at_start from_word_after start_from_word
  from_word-same None = sym (and-false _)
  from_word-same (Some b) = by_kind t.terminator (λ b kind. start_from_word t kind ≡ from_word_after t (Some b))
      (sym (and-false _)) (sym (and-false _)) (λ e k. refl)
      (λ b e k m w. rw w (sym (and-true _))) (λ b e k m w. rw w (sym (and-false _))) b

  pub half_crlf-same : (p : Option ℕ) → half_crlf_at_start t p ≡ half_crlf_after t p
  unfolding half_crlf_at_start half_crlf_after start_half_crlf
  half_crlf-same None = sym (and-false _)
  half_crlf-same (Some b) = by_kind t.terminator (λ b kind. start_half_crlf t kind ≡ half_crlf_after t (Some b))
      (line_feed t.reverse _) (carriage_return t.reverse _)
      (λ e k. rw (not_first t.reverse t.terminator e k) (sym (and-false _)))
      (λ b e k m w. rw (not_first t.reverse b e k) (sym (and-false _)))
      (λ b e k m w. rw (not_first t.reverse b e k) (sym (and-false _)))
      b
    where
      line_feed : (reverse c : Bool) → (c && reverse) ≡ (c && nat_eq 10 (crlf_first reverse))
      line_feed true c = refl
      line_feed false c = refl

      carriage_return : (reverse c : Bool) → (c && not reverse) ≡ (c && nat_eq 13 (crlf_first reverse))
      carriage_return true c = refl
      carriage_return false c = refl
