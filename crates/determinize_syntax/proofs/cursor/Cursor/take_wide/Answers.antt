use Rattle.determinize_syntax.proofs.Common.{◌++◌, ◌<◌, ◌∙◌, ◌∷◌, ◌≡◌, ◌≤◌, Bytes, IsUtf8-encode, IsWide, Some, [], ap}
use Rattle.determinize_syntax.proofs.Common.{append-nil, arith, at_end, encode_same, encode_utf8, len_utf8, length}
use Rattle.determinize_syntax.proofs.Common.{length-encode, rest, slice_get, some_injective, sym, ℕ}
use Rattle.std.specs.Str.Iter.{chars_rest}
use Rattle.determinize_syntax.proofs.Stepping.{encode_starts}
use Rattle.determinize_syntax.proofs.Munch.{filled}
use Rattle.determinize_syntax.proofs.Widths.{front_is, long_enough}
use Rattle.determinize_syntax.proofs.cursor.Cursor.take_wide.Goals.{then-character-lt128-via-then-character-lt128}
use Rattle.determinize_syntax.proofs.cursor.Cursor.take_wide.Goals.{then-character-lt128-via-else-character-lt128+then-not-is_empty}
use Rattle.determinize_syntax.proofs.cursor.Cursor.take_wide.Goals as goal

-- the character begins with the byte that is next
begins : (d : ℕ) (t a : Bytes) (b : ℕ) → IsWide d → a ≡ encode_utf8 d ++ t → slice_get a 0 ≡ Some b
    → (w : Bytes) × (encode_utf8 d ≡ b ∷ w)
begins d t a b is e at =
    let s = encode_starts d is.0 in
    let same : s.0 ≡ b = some_injective s.0 b (ap (λ l. slice_get (l ++ t) 0) (sym s.2) ∙ ap (λ l. slice_get l 0)
    (sym e) ∙ at) in
    (s.1, s.2 ∙ ap (λ x. x ∷ s.1) same)

pub returns-in_err-peek-clause-other : goal.returns-in_err-peek-clause-other
returns-in_err-peek-clause-other c =
    rw c.from_residual.ensures (λ d t is e.
    let s = encode_starts d is.0 in
    let never : s.0 ∷ (s.1 ++ t) ≡ [] =
    ap (λ l. l ++ t) (sym s.2) ∙ sym e ∙ at_end (rest c.args.self.now) (sym c.peek.ensures ∙ c.in_err-peek.was) in
    absurd (cc))

pub returns-then-self-width-clause-other : goal.returns-then-self-width-clause-other
returns-then-self-width-clause-other c d t is e =
    let s = begins d t _ c.in_ok-peek.field-0 is e (sym c.peek.ensures ∙ c.in_ok-peek.was) in
    let width = c.width-width.ensures d s.0 is.0 s.1 in
    let less : length (rest c.args.self.now) < c.width-width.result = c.if-self-width.true in
    let long : len_utf8 d ≤ length (rest c.args.self.now) = long_enough d (rest c.args.self.now) t e in
    absurd (omega (arith, less, long, width))

pub returns-in_default-clause-other : goal.returns-in_default-clause-other
returns-in_default-clause-other c d t is e =
    let s = begins d t _ c.in_ok-peek.field-0 is e (sym c.peek.ensures ∙ c.in_ok-peek.was) in
    let width = c.width-width.ensures d s.0 is.0 s.1 in
    let front : c.split_at.result.0.now ≡ encode_utf8 d =
    c.split_at.ensures.front ∙ front_is d c.width-width.result (rest c.args.self.now) t e width in
    absurd (c.in_default.ensures.cases.0 (rw front (IsUtf8-encode d is.1)))

pub returns-in_err-character-clause-other : goal.returns-in_err-character-clause-other
returns-in_err-character-clause-other c =
    rw c.from_residual-in_err-character.ensures (λ d t is e.
    let s = begins d t _ c.in_ok-peek.field-0 is e (sym c.peek.ensures ∙ c.in_ok-peek.was) in
    let width = c.width-width.ensures d s.0 is.0 s.1 in
    let front : c.split_at.result.0.now ≡ encode_utf8 d =
    c.split_at.ensures.front ∙ front_is d c.width-width.result (rest c.args.self.now) t e width in
    let text : chars_rest c.chars-chars.result ≡ encode_utf8 d = c.chars-chars.ensures.rest ∙ c.in-Ok.ensures.cases.0
    ∙ front in
    let none : length (encode_utf8 d) ≡ 0 = ap length (sym text) ∙ c.in_err-character.ensures.steps.0.0 in
    let one : 1 ≤ len_utf8 d = grind (arith) in
    let len : length (encode_utf8 d) ≡ len_utf8 d = length-encode d in
    absurd (omega (arith, none, one, len)))

pub returns-then-character-lt128-clause-other : goal.returns-then-character-lt128-clause-other
returns-then-character-lt128-clause-other c d t is e =
    let s = begins d t _ c.in_ok-peek.field-0 is e (sym c.peek.ensures ∙ c.in_ok-peek.was) in
    let width = c.width-width.ensures d s.0 is.0 s.1 in
    let front : c.split_at.result.0.now ≡ encode_utf8 d =
    c.split_at.ensures.front ∙ front_is d c.width-width.result (rest c.args.self.now) t e width in
    let text : chars_rest c.chars-chars.result ≡ encode_utf8 d = c.chars-chars.ensures.rest ∙ c.in-Ok.ensures.cases.0
    ∙ front in
    let both = encode_same c.in_ok-character.character d (chars_rest c.next.new.self) []
    (sym c.in_ok-character.ensures.steps.0 ∙ text ∙ sym (append-nil (encode_utf8 d))) in
    elim c.then-character-lt128.branch [
      | then-character-lt128-via-then-character-lt128 w ↦
          (let same : c.in_ok-character.character ≡ d = both.0 in
          let less : c.in_ok-character.character < 128 = w.if-character-lt128.true in
          let large : 128 ≤ d = is.0 in
          absurd (omega (arith, same, less, large)))
      | then-character-lt128-via-else-character-lt128+then-not-is_empty w ↦
          absurd (filled w.as_str.result.now (sym w.is_empty.ensures ∙ w.if-not-is_empty.true)
          (w.as_str.ensures ∙ both.1))
    ]
