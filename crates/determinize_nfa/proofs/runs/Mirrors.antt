-- A text up to a position, read in the other direction, is its mirror image.
-- Main statements: each_reading_is_mirrored.
-- Used by: `laws::mirror_law`, and the search backward and the runs of a reversed NFA.
-- Idea: an element of a reversed list is the one as far from the other end.
use Rattle.determinize_nfa.proofs.Common.{List, None, Option, Some, Text, [], after_at, ap, arith, before_at, get_or}
use Rattle.determinize_nfa.proofs.Common.{length, option_or, refl, slice_get, slice_get-get_or, suc, sym, take, turned}
use Rattle.determinize_nfa.proofs.Common.{upto, zero, ℕ, ◌+◌, ◌-◌, ◌<◌, ◌∙◌, ◌∷◌, ◌≡◌, ◌≤◌}
use Rattle.std.specs.Prelude.{reverse}
use Rattle.std.proofs.lemmas.List.{get_or-reverse, length-reverse, length-take-le}
use Rattle.std.proofs.lemmas.Option.{slice_get_past}
use Rattle.determinize_nfa.specs.Laws.{EachReadingIsMirrored}

slice_get-reverse : (xs : List ℕ) (r i : ℕ) → r + suc i ≡ length xs → slice_get (reverse xs) r ≡ slice_get xs i
slice_get-reverse xs r i e =
    let l : length (reverse xs) ≡ length xs = length-reverse xs in
    let d : length xs - 1 - r ≡ i = omega arith in
    slice_get-get_or (reverse xs) r 0 (omega arith)
    ∙ ap Some (get_or-reverse xs r 0 (omega arith) ∙ ap (λ w. get_or xs w 0) d)
    ∙ sym (slice_get-get_or xs i 0 (omega arith))

pub slice_get-take : (j : ℕ) (xs : List ℕ) (i : ℕ) → i < j → slice_get (take j xs) i ≡ slice_get xs i
slice_get-take zero xs i l = absurd (omega arith)
slice_get-take (suc j) [] i l = refl
slice_get-take (suc j) (x ∷ xs) zero l = refl
slice_get-take (suc j) (x ∷ xs) (suc i) l = slice_get-take j xs i (omega arith)

pub or_some : (xs : List ℕ) (i : ℕ) (o : Option ℕ) → i < length xs → option_or (slice_get xs i) o ≡ slice_get xs i
or_some xs i o l = rw (slice_get-get_or xs i 0 l) refl

module _ (text : Text) (j : ℕ) (within : j ≤ length text.bytes) where
  count : length (take j text.bytes) ≡ j
  count = length-take-le j text.bytes within

  byte_back : (r i : ℕ) → r + suc i ≡ j → slice_get (turned (upto text j)).bytes r ≡ slice_get text.bytes i
  byte_back r i e =
      slice_get-reverse (take j text.bytes) r i (omega (arith, count)) ∙ slice_get-take j text.bytes i (omega arith)

  last_back : slice_get (turned (upto text j)).bytes j ≡ None
  last_back =
      slice_get_past (reverse (take j text.bytes)) j (omega (arith, count, length-reverse (take j text.bytes)))

  before_back : (r i : ℕ) → r + i ≡ j → before_at (turned (upto text j)) r ≡ after_at text i
  before_back zero i e = let z : j ≡ i = omega arith in ap (after_at text) z
  before_back (suc r) i e = byte_back r i (omega arith) ∙ sym (or_some text.bytes i text.ahead (omega arith))

  after_back : (r i : ℕ) → r + i ≡ j → after_at (turned (upto text j)) r ≡ before_at text i
  after_back r zero e = let z : r ≡ j = omega arith in rw (z, last_back) refl
  after_back r (suc i) e = rw (byte_back r i e) (or_some text.bytes i text.behind (omega arith))

pub each_reading_is_mirrored : EachReadingIsMirrored
each_reading_is_mirrored text j within = record {
  before = before_back text j within;
  after = after_back text j within;
  byte = byte_back text j within;
  last = last_back text j within;
}
