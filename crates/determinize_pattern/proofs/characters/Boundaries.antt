-- Patterns that match only UTF-8 match from one boundary of characters to another.
-- Main statements: class_reads, literal_reads, look_reads, sequence_reads, choice_reads, repeated_reads, end_boundary,
-- start_boundary.
-- Used by: chars_law, boundaries_law, and characters_law of determinize_syntax.
-- Idea: what a sequence matches is what its parts match, and UTF-8 after UTF-8 is UTF-8.
use Rattle.std.proofs.Math.Seq.{take-nil}
use Rattle.std.proofs.lemmas.Bool.Decides.{nat_tests}
use Rattle.std.proofs.lemmas.Bool.{false≢true}
use Rattle.std.proofs.lemmas.List.Elements.{All-head, All-tail}
use Rattle.std.proofs.lemmas.List.{drop-drop, get_or-drop, get_or-take, length-drop, length-take}
use Rattle.std.proofs.lemmas.Str.{IsCharBoundary-from_rest, IsCharBoundary-from_take, IsCharBoundary-start, IsUtf8-append, IsUtf8-drop, IsUtf8-encode, IsUtf8-nil}
use Rattle.std.specs.List.{All}
use Rattle.std.specs.Prelude.{slice_get, slice_range}
use Rattle.std.specs.Str.{IsCharBoundary, IsUtf8}
use Rattle.std.proofs.Common.{◌≡◌, ◌+◌, ◌-◌, ◌<◌, ◌≤◌, ◌++◌, ◌∙◌, ◌∷◌, ℕ, Bool, List, None, Option, Some, [], Contains, ap, arith, drop, false, get_or, length, refl, suc, sym, take, true, zero}
use Rattle.ordered_reach.proofs.Cases.{by_cases}
use Rattle.ordered_reach.proofs.lists.Elements.{In_from_Contains}
use Rattle.determinize_below.specs.Semantics.{Text}
use Rattle.determinize_below.specs.declared.look.Look.{Look as Assertion}
use Rattle.determinize_pattern.proofs.characters.Branches.{in_none}
use Rattle.determinize_pattern.proofs.characters.Utf8.{reads}
use Rattle.determinize_pattern.proofs.entries.Ends.{ends_onward}
use Rattle.determinize_pattern.proofs.entries.Language.{end_matches, match_ends}
use Rattle.determinize_pattern.specs.Characters.{ReadsCharacters}
use Rattle.determinize_pattern.specs.Laws.{EachCharIsUtf8}
use Rattle.determinize_pattern.specs.Meaning.{Empty, Look, Matches, Or, Plus, Re, Rounds, Then, ends, is_in, more_rounds, one_round}
use Rattle.determinize_pattern.specs.Patterns.{at_least, choice, copies, literal, optional, repeated, sequence, up_to}

take_add : (n m k : ℕ) (xs : List ℕ) → k ≡ n + m → take k xs ≡ take n xs ++ take m (drop n xs)
take_add zero m k xs e = let same : k ≡ m = omega (arith, e) in ap (λ (j : ℕ). take j xs) same
take_add (suc n) m zero xs e = absurd (omega (arith, e))
take_add (suc n) m (suc k) [] e = sym (take-nil m)
take_add (suc n) m (suc k) (x ∷ xs) e = ap (λ (ys : List ℕ). x ∷ ys) (take_add n m k xs (omega (arith, e)))

range_split : (xs : List ℕ) (i l j : ℕ) → i ≤ l → l ≤ j
    → slice_range xs i j ≡ slice_range xs i l ++ slice_range xs l j
range_split xs i l j m n =
    let whole : j - i ≡ (l - i) + (j - l) = omega arith in
    let later : i + (l - i) ≡ l = omega arith in
    take_add (l - i) (j - l) (j - i) (drop i xs) whole
    ∙ ap (λ (ys : List ℕ). slice_range xs i l ++ take (j - l) ys)
    (drop-drop (l - i) i xs ∙ ap (λ (k : ℕ). drop k xs) later)

range_none : (xs : List ℕ) (i : ℕ) → slice_range xs i i ≡ []
range_none xs i = let none : i - i ≡ 0 = omega arith in rw none refl

onward : (t : ℕ) (text : Text) (re : Re) (i j : ℕ) → Matches t text re i j → i ≤ j
onward t text re i j m = by_cases (ends_onward t text re i j (match_ends t text re i j m))
    (λ e. omega (arith, e))
    (λ k. omega (arith, k.0))

nothing_reads : (t : ℕ) (text : Text) (i j : ℕ) → j ≡ i → IsUtf8 (slice_range text.bytes i j)
nothing_reads t text i j e = rw (e, range_none text.bytes i) IsUtf8-nil

pub class_reads : EachCharIsUtf8
class_reads test re class t text i j m = let c = (class t text i j).0 m in rw c.5 (IsUtf8-encode c.0 c.1)

empty_reads : ReadsCharacters Empty
empty_reads t text u i j m = nothing_reads t text i j m

pub look_reads : (look : Assertion) → ReadsCharacters (Look look)
look_reads look t text u i j m = nothing_reads t text i j m.1

joined_utf8 : (xs : List ℕ) (i l j : ℕ) → i ≤ l → l ≤ j → IsUtf8 (slice_range xs i l)
    → IsUtf8 (slice_range xs l j) → IsUtf8 (slice_range xs i j)
joined_utf8 xs i l j m n u v =
    rw (range_split xs i l j m n) (IsUtf8-append (slice_range xs i l) (slice_range xs l j) u v)

module _ (a : Re) (f : ReadsCharacters a) where
  then_reads : (b : Re) → ReadsCharacters b → ReadsCharacters (Then a b)
  then_reads b g t text u i j m =
      joined_utf8 text.bytes i m.0 j (onward t text a i m.0 m.1) (onward t text b m.0 j m.2)
      (f t text u i m.0 m.1) (g t text u m.0 j m.2)

  or_reads : (b : Re) → ReadsCharacters b → ReadsCharacters (Or a b)
  or_reads b g t text u i j m = by_cases m (λ k. f t text u i j k) (λ k. g t text u i j k)

  rounds_read : (t : ℕ) (text : Text) → IsUtf8 text.bytes → (i j : ℕ) → Rounds (Matches t text a) i j
      → (i ≤ j) × IsUtf8 (slice_range text.bytes i j)
  rounds_read t text u i _ (one_round j m) = (onward t text a i j m, f t text u i j m)
  rounds_read t text u i _ (more_rounds l j r m) =
      let before = rounds_read t text u i l r in
      let next = onward t text a l j m in
      (omega (arith, before.0), joined_utf8 text.bytes i l j before.0 next before.1 (f t text u l j m))

  plus_reads : (greedy : Bool) → ReadsCharacters (Plus greedy a)
  plus_reads greedy t text u i j m = (rounds_read t text u i j m).1

  optional_reads : (greedy : Bool) → ReadsCharacters (optional greedy a)
  optional_reads true t text u i j m = by_cases m (λ k. f t text u i j k) (λ k. empty_reads t text u i j k)
  optional_reads false t text u i j m = by_cases m (λ k. empty_reads t text u i j k) (λ k. f t text u i j k)

module _ (a : Re) (f : ReadsCharacters a) where
  copies_read : (n : ℕ) (b : Re) → ReadsCharacters b → ReadsCharacters (copies n a b)
  copies_read zero b g = g
  copies_read (suc n) b g = then_reads a f (copies n a b) (copies_read n b g)

  up_to_reads : (greedy : Bool) (n : ℕ) → ReadsCharacters (up_to greedy n a)
  up_to_reads greedy zero = empty_reads
  up_to_reads greedy (suc n) = optional_reads (Then a (up_to greedy n a))
      (then_reads a f (up_to greedy n a) (up_to_reads greedy n)) greedy

  at_least_reads : (greedy : Bool) (n : ℕ) → ReadsCharacters (at_least greedy n a)
  at_least_reads greedy zero = optional_reads (Plus greedy a) (plus_reads a f greedy) greedy
  at_least_reads greedy (suc n) = copies_read n (Plus greedy a) (plus_reads a f greedy)

  pub repeated_reads : (min : ℕ) (max : Option ℕ) (greedy : Bool) → ReadsCharacters (repeated min max greedy a)
  repeated_reads min None greedy = at_least_reads greedy min
  repeated_reads min (Some max) greedy =
      copies_read min (up_to greedy (max - min) a) (up_to_reads greedy (max - min))

pub sequence_reads : (res : List Re) → All ReadsCharacters res → ReadsCharacters (sequence res)
sequence_reads [] all = empty_reads
sequence_reads (a ∷ rest) all = then_reads a (All-head ReadsCharacters a rest all) (sequence rest)
    (sequence_reads rest (All-tail ReadsCharacters a rest all))

pub choice_reads : (res : List Re) → All ReadsCharacters res → ReadsCharacters (choice res)
choice_reads [] all = λ t text u i j m. absurd (in_none (slice_get text.bytes i) m.0)
choice_reads (a ∷ rest) all = or_reads a (All-head ReadsCharacters a rest all) (choice rest)
    (choice_reads rest (All-tail ReadsCharacters a rest all))

-- the byte of a range of one byte
one_byte : (b : ℕ) (u : Option ℕ) → is_in ((b, b) ∷ []) u ≡ true → u ≡ Some b
one_byte b None h = absurd (false≢true h)
one_byte b (Some c) h = ap (λ (x : ℕ). Some x) (grind (arith, nat_tests))

literal_is : (t : ℕ) (text : Text) (bytes : List ℕ) (i j : ℕ) → Matches t text (literal bytes) i j
    → slice_range text.bytes i j ≡ bytes
literal_is t text [] i j m = rw m (range_none text.bytes i)
literal_is t text (b ∷ rest) i j m =
    let found = one_byte b (slice_get text.bytes i) m.1.0 in
    let next : m.0 ≡ suc i = m.1.1 in
    let past = onward t text (literal rest) m.0 j m.2 in
    let same = literal_is t text rest m.0 j m.2 in
    let count : j - i ≡ suc (j - suc i) = omega (arith, next, past) in
    rw (count, reads text.bytes i b found)
    (ap (λ (ys : List ℕ). b ∷ ys) (rw next at same))

pub literal_reads : (bytes : List ℕ) → IsUtf8 bytes → ReadsCharacters (literal bytes)
literal_reads bytes v t text u i j m = rw (literal_is t text bytes i j m) v

-- after a boundary, what is UTF-8 ends at one
module _ (re : Re) (f : ReadsCharacters re) (t : ℕ) (text : Text) (u : IsUtf8 text.bytes) (i j : ℕ) where
  pub end_boundary : IsCharBoundary text.bytes i → Contains (ends t text re i) j → IsCharBoundary text.bytes j
  end_boundary b found =
      let h = In_from_Contains (ends t text re i) j found in
      by_cases (ends_onward t text re i j h)
      (λ e. rw e b)
      (λ k.
      let rest = IsUtf8-drop text.bytes i u b in
      let inside : j - i ≤ length (drop i text.bytes) = omega (arith, length-drop i text.bytes, k.1) in
      let at = IsCharBoundary-from_rest text.bytes i (j - i) b.0
      (IsCharBoundary-from_take (drop i text.bytes) (j - i) rest inside
      (f t text u i j (end_matches t text re i j h))) in
      let sum : i + (j - i) ≡ j = omega (arith, k.0) in
      rw sum at at)

  pub start_boundary : Contains (ends t text re i) j → i < j → IsCharBoundary text.bytes i
  start_boundary found l =
      let h = In_from_Contains (ends t text re i) j found in
      by_cases (ends_onward t text re i j h)
      (λ e. absurd (omega (arith, e)))
      (λ k.
      let part = slice_range text.bytes i j in
      let first = IsCharBoundary-start part (f t text u i j (end_matches t text re i j h)) in
      let some : 0 < length part =
      omega (arith, length-take (j - i) (drop i text.bytes), length-drop i text.bytes, k.1) in
      let at : i + 0 ≡ i = omega arith in
      let same : get_or part 0 0 ≡ get_or text.bytes i 0 = get_or-take (j - i) (drop i text.bytes) 0 0 (omega arith)
      ∙ get_or-drop i text.bytes 0 0 ∙ ap (λ (n : ℕ). get_or text.bytes n 0) at in
      (omega (arith, k.0, k.1), λ m n. rw same at (first.1 some (rw same n))))
