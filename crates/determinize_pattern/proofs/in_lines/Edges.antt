-- The ends of a pattern in a line are those of the line as a text.
-- Main statements: length-line, ends_in_place, ends_in_line.
-- Used by: LeftmostLines, FirstLines and lines_law.
-- Idea: the assertions of lines do not distinguish a terminator from an end of the text.
use Rattle.std.specs.List.{slice_range}
use Rattle.std.specs.Prelude.{nat_lt, slice_get}
use Rattle.std.proofs.Common.{◌≡◌, ◌-◌, ◌+◌, ◌<◌, ◌≤◌, ◌⊎◌, ◌∙◌, ℕ, Bool, List, None, Option, Some, arith, drop, eqb-true, false, inl, inr, length, ltb-false, ltb-true, map, not, refl, suc, sym, true, zero}
use Rattle.std.proofs.lemmas.Bool.{false≢true}
use Rattle.std.proofs.lemmas.List.{length-drop, length-take}
use Rattle.std.proofs.lemmas.Option.{slice_get_cases, slice_get_past}
use Rattle.ordered_reach.proofs.Cases.{by_cases, by_option, by_test}
use Rattle.determinize_below.specs.Semantics.{Text, after_at, before_at, between, holds, is_word, is_word_byte}
use Rattle.determinize_below.specs.declared.look.Look.{Look as Assertion}
use Rattle.determinize_below.specs.declared.look.Look.TheVariants.{Start, End, StartLF, EndLF, StartCRLF, EndCRLF, WordAscii, WordAsciiNegate, WordUnicode, WordUnicodeNegate, WordStartAscii, WordEndAscii, WordStartUnicode, WordEndUnicode, WordStartHalfAscii, WordEndHalfAscii, WordStartHalfUnicode, WordEndHalfUnicode}
use Rattle.determinize_nfa.proofs.runs.Mirrors.{slice_get-take}
use Rattle.determinize_nfa.proofs.runs.Shifts.{slice_get-drop}
use Rattle.determinize_pattern.proofs.in_lines.Placed.{placed_ends}
use Rattle.determinize_pattern.specs.Lines.{EndsInLine, EndsInPlace, is_edge, is_of_lines, stays_by}
use Rattle.determinize_pattern.specs.Meaning.{Re, ends, holds_at, is_in}

-- what lies behind, or ahead, is the same or is no longer there, which was the terminator
abbrev Alike : ℕ → Option ℕ → Option ℕ → Type 0
Alike t p q = (p ≡ q) ⊎ ((is_edge t p ≡ true) × (q ≡ None))

-- it is the terminator if it is there
edge_is : (t x : ℕ) → is_edge t (Some x) ≡ true → x ≡ t
edge_is t x h = eqb-true x t h

alike_edge : (t : ℕ) (p q : Option ℕ) → Alike t p q → is_edge t p ≡ is_edge t q
alike_edge t p q h = by_cases h (λ e. rw e refl) (λ e. rw (e.0, e.1) refl)

alike_word : (t : ℕ) (p q : Option ℕ) → Alike t p q → is_word_byte t ≡ false → is_word p ≡ is_word q
alike_word t None q h w = by_cases h (λ e. rw (← e) refl) (λ e. rw e.1 refl)
alike_word t (Some x) q h w = by_cases h (λ e. rw (← e) refl)
    (λ e. let z : x ≡ t = edge_is t x e.0 in rw (e.1, z, w) refl)

-- an assertion of lines holds alike
module _ (t : ℕ) (p q r s : Option ℕ) (behind : Alike t p r) (ahead : Alike t q s) where
  words : not (is_word_byte t) ≡ true → (is_word p ≡ is_word r) × (is_word q ≡ is_word s)
  words h = by_test (is_word_byte t)
      (λ e. absurd (false≢true (rw e at h)))
      (λ e. (alike_word t p r behind e, alike_word t q s ahead e))

  holds_alike : (look : Assertion) → is_of_lines t look ≡ true → holds false t p q look ≡ holds false t r s look
  holds_alike Start h = absurd (false≢true h)
  holds_alike End h = absurd (false≢true h)
  holds_alike StartLF h = alike_edge t p r behind
  holds_alike EndLF h = alike_edge t q s ahead
  holds_alike StartCRLF h = absurd (false≢true h)
  holds_alike EndCRLF h = absurd (false≢true h)
  holds_alike WordAscii h = rw ((words h).0, (words h).1) refl
  holds_alike WordAsciiNegate h = rw ((words h).0, (words h).1) refl
  holds_alike WordUnicode h = rw ((words h).0, (words h).1) refl
  holds_alike WordUnicodeNegate h = rw ((words h).0, (words h).1) refl
  holds_alike WordStartAscii h = rw ((words h).0, (words h).1) refl
  holds_alike WordEndAscii h = rw ((words h).0, (words h).1) refl
  holds_alike WordStartUnicode h = rw ((words h).0, (words h).1) refl
  holds_alike WordEndUnicode h = rw ((words h).0, (words h).1) refl
  holds_alike WordStartHalfAscii h = rw ((words h).0) refl
  holds_alike WordEndHalfAscii h = rw ((words h).1) refl
  holds_alike WordStartHalfUnicode h = rw ((words h).0) refl
  holds_alike WordEndHalfUnicode h = rw ((words h).1) refl

pub length-line : (bytes : List ℕ) (a b : ℕ) → b ≤ length bytes → length (slice_range bytes a b) ≡ b - a
length-line bytes a b within = simp (length-take, length-drop) (omega arith)

module _ (t : ℕ) (text : Text) (a b : ℕ) (order : a ≤ b) (within : b ≤ length text.bytes)
    (stops : is_edge t (after_at text b) ≡ true) where
  abbrev row : List ℕ
  row = slice_range text.bytes a b

  row_length : length row ≡ b - a
  row_length = length-line text.bytes a b within

  inside : (k : ℕ) → k < length row → slice_get text.bytes (a + k) ≡ slice_get row k
  inside k l = let m : k < b - a = omega (arith, row_length) in
      sym (slice_get-take (b - a) (drop a text.bytes) k m ∙ slice_get-drop a text.bytes k)

  row_end : a + length row ≡ b
  row_end = omega (arith, row_length)

  -- at the end of the line there is no byte that is not the terminator
  stop : (c : List (ℕ × ℕ)) → is_in c (Some t) ≡ false → is_in c (slice_get text.bytes (a + length row)) ≡ false
  stop c out = rw row_end (by_option (slice_get text.bytes b)
      (λ e. rw e refl)
      (λ x e. let z : x ≡ t = edge_is t x (rw e at stops) in rw (e, z) out))

  -- the line with any bytes behind and ahead that the assertions do not distinguish from those around it
  module _ (r s : Option ℕ) (ok : Assertion → Bool) (R : Option ℕ → Option ℕ → Type 0)
      (equal : (p q : Option ℕ) → p ≡ q → R p q) (alike : (p q u v : Option ℕ) → R p u → R q v
      → (look : Assertion) → ok look ≡ true → holds false t p q look ≡ holds false t u v look)
      (behind : R (before_at text a) r) (ahead : R (after_at text b) s) where
    before_alike : (k : ℕ) → k ≤ length row → R (before_at text (a + k)) (before_at (between r row s) k)
    before_alike zero l = let z : a + 0 ≡ a = omega arith in rw z behind
    before_alike (suc k) l = let z : a + suc k ≡ suc (a + k) = omega arith in rw z (equal _ _ (inside k (omega arith)))

    after_alike : (k : ℕ) → k ≤ length row → R (after_at text (a + k)) (after_at (between r row s) k)
    after_alike k l = by_test (nat_lt k (length row))
        (λ e. let m : k < length row = ltb-true k (length row) e in
        by_cases (slice_get_cases row k).1
        (λ v. equal _ _ (rw (inside k m, v.2) refl))
        (λ v. absurd (omega (arith, v.0))))
        (λ e. let m : length row ≤ k = ltb-false k (length row) e in
        let here : a + k ≡ b = omega (arith, row_end) in
        rw (here, slice_get_past row k m) ahead)

    looks : (k : ℕ) → k ≤ length row → (look : Assertion) → ok look ≡ true
        → holds_at t text (a + k) look ≡ holds_at t (between r row s) k look
    looks k l look h = alike _ _ _ _ (before_alike k l) (after_alike k l) look h

    pub ends_of_row : (k : ℕ) → a + k ≤ b → (re : Re) → stays_by ok t re ≡ true
        → ends t text re (a + k) ≡ map (λ j. a + j) (ends t (between r row s) re k)
    ends_of_row k l re h = placed_ends text (between r row s) a t ok inside stop (omega (arith, row_end)) looks re h k
        (omega (arith, row_end))

pub ends_in_line : EndsInLine
ends_in_line t text a k b lines l re h = ends_of_row t text a b lines.order lines.within lines.stops None None
    (is_of_lines t) (Alike t) (λ p q e. inl e) (λ p q u v x y look o. holds_alike t p q u v x y look o)
    (inr (lines.starts, refl)) (inr (lines.stops, refl)) k l re h

pub ends_in_place : EndsInPlace
ends_in_place t text a k b l within stops re h = ends_of_row t text a b (omega arith) within stops
    (before_at text a) (after_at text b) (λ look. true) (λ p q. p ≡ q) (λ p q e. e)
    (λ p q u v x y look o. rw (x, y) refl) refl refl k l re h
