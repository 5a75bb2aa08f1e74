-- A class of ASCII bytes matches only UTF-8 in a text that is UTF-8.
-- Main statements: utf8_is_bytes, ascii_reads.
-- Used by: boundaries_law, and characters_law of determinize_syntax.
-- Idea: the bytes of UTF-8 are below 256, where the class has exactly the bytes that pass the test.
use Rattle.std.proofs.lemmas.Bool.{and_parts, cases_lt, false≢true}
use Rattle.std.proofs.lemmas.List.Elements.{All-append, All-from_recursion, All-nil}
use Rattle.std.proofs.lemmas.Option.{get_or_from_slice_get, slice_get_within}
use Rattle.std.proofs.lemmas.Str.{IsUtf8-encode, encode_ascii}
use Rattle.std.specs.Char.{IsScalar, encode_utf8}
use Rattle.std.specs.List.{All, AllByRecursion}
use Rattle.std.specs.Prelude.{encode_utf8_all, slice_get, slice_range}
use Rattle.std.specs.Str.{IsUtf8}
use Rattle.std.proofs.Math.Utf8.{scalars}
use Rattle.std.proofs.Common.{◌≡◌, ◌-◌, ◌<◌, ◌≤◌, ◌∙◌, ◌∷◌, ℕ, Bool, List, None, Option, Some, [], arith, refl, subst, suc, sym, true}
use Rattle.ordered_reach.proofs.Cases.{by_cases}
use Rattle.determinize_pattern.proofs.characters.Utf8.{below_surrogates, encode_two, four_bytes, reads, scalar_end, three_bytes}
use Rattle.determinize_pattern.specs.Characters.{ReadsCharacters}
use Rattle.determinize_pattern.specs.Meaning.{Matches, Re, is_in}
use Rattle.determinize_pattern.specs.Patterns.{IsClass}

-- the number is a byte
abbrev IsByte : ℕ → Type 0
IsByte b = b < 256

two_are_bytes : (c : ℕ) → 128 ≤ c → c < 2048 → AllByRecursion IsByte (encode_utf8 c)
two_are_bytes c l m = rw (encode_two c l m) (omega arith, (omega arith, tt))

three_are_bytes : (c : ℕ) → 2048 ≤ c → c < 65536 → AllByRecursion IsByte (encode_utf8 c)
three_are_bytes c l m = rw (three_bytes c l m) (omega arith, (omega arith, (omega arith, tt)))

four_are_bytes : (c : ℕ) → 65536 ≤ c → c < 1114112 → AllByRecursion IsByte (encode_utf8 c)
four_are_bytes c l m = rw (four_bytes c l) (omega arith, (omega arith, (omega arith, (omega arith, tt))))

char_is_bytes : (c : ℕ) → IsScalar c → AllByRecursion IsByte (encode_utf8 c)
char_is_bytes c s = by_cases (cases_lt c 128)
    (λ l. rw (encode_ascii c l) (omega arith, tt))
    (λ l. by_cases (cases_lt c 2048)
    (λ m. two_are_bytes c l m)
    (λ m. by_cases (cases_lt c 65536) (λ n. three_are_bytes c m n) (λ n. four_are_bytes c n (scalar_end c s))))

chars_are_bytes : (cs : List ℕ) → scalars cs ≡ true → All IsByte (encode_utf8_all cs)
chars_are_bytes [] s = All-nil IsByte
chars_are_bytes (c ∷ cs) s =
    let each = and_parts _ _ s in
    let first = All-from_recursion IsByte (encode_utf8 c) (char_is_bytes c each.0) in
    All-append IsByte (encode_utf8 c) (encode_utf8_all cs) first (chars_are_bytes cs each.1)

-- the bytes of a text that is UTF-8 are below 256
pub utf8_is_bytes : (bytes : List ℕ) → IsUtf8 bytes → All IsByte bytes
utf8_is_bytes bytes u = subst (All IsByte) u.1.1 (chars_are_bytes u.0 u.1.0)

ascii_utf8 : (b : ℕ) → b < 128 → IsUtf8 (b ∷ [])
ascii_utf8 b l = subst IsUtf8 (encode_ascii b l) (IsUtf8-encode b (below_surrogates b (omega arith)))

one_reads : (bytes : List ℕ) (i j b : ℕ) → slice_get bytes i ≡ Some b → j ≡ suc i → b < 128
    → IsUtf8 (slice_range bytes i j)
one_reads bytes i j b found next l =
    let count : j - i ≡ 1 = omega (arith, next) in
    rw (count, reads bytes i b found) (ascii_utf8 b l)

module _ (test : ℕ → Bool) (low : (b : ℕ) → b < 256 → test b ≡ true → b < 128) where
  pub ascii_reads : (re : Re) → IsClass test re → ReadsCharacters re
  ascii_reads re class t text u i j m = by (slice_get text.bytes i) refl found.0 where
    found : (is_in class.0 (slice_get text.bytes i) ≡ true) × (j ≡ suc i)
    found = subst (λ r. Matches t text r i j) class.1 m

    by : (o : Option ℕ) → slice_get text.bytes i ≡ o → is_in class.0 o ≡ true → IsUtf8 (slice_range text.bytes i j)
    by None e h = absurd (false≢true h)
    by (Some b) e h =
        let within = slice_get_within text.bytes i b e in
        let same = get_or_from_slice_get text.bytes i b 0 e in
        let small : b < 256 = subst (λ x. x < 256) same (utf8_is_bytes text.bytes u i 0 within) in
        one_reads text.bytes i j b e found.1 (low b small (sym (class.2 b small) ∙ h))
