-- The leftmost match of a text is that of the line in which it begins.
-- Main statements: leftmost_in_line, none_in_line, some_in_line, all_onward, end_in_line.
-- Used by: FirstLines and lines_law.
-- Idea: from each position of the line the patterns have the ends that they have in the text.
use Rattle.std.specs.List.{slice_range}
use Rattle.std.specs.Prelude.{slice_get}
use Rattle.std.proofs.Common.{◌≡◌, ◌-◌, ◌+◌, ◌≤◌, ◌∙◌, ◌∷◌, ℕ, List, None, Some, [], ap, arith, length, map, refl, suc, sym, true}
use Rattle.std.proofs.lemmas.Bool.{and_parts}
use Rattle.std.proofs.lemmas.List.{map-append}
use Rattle.ordered_reach.proofs.Cases.{by_cases, some_injective}
use Rattle.ordered_reach.proofs.lists.Elements.{In, In_append_cases, In_map_from, In_none}
use Rattle.determinize_below.specs.Semantics.{Text}
use Rattle.determinize_pattern.proofs.entries.Ends.{Onward, ends_onward}
use Rattle.determinize_pattern.proofs.in_lines.Edges.{ends_in_line, length-line}
use Rattle.determinize_pattern.specs.LeftmostOf.{all_ends}
use Rattle.determinize_pattern.specs.Lines.{AreLines, LeftmostInLine, NoneInLine, SomeInLine, all_stay, alone, stays_in_line}
use Rattle.determinize_pattern.specs.Meaning.{Re, ends}

abbrev to_text : ℕ → ℕ × ℕ → ℕ × ℕ
to_text a x = (x.0, a + x.1)

abbrev label : ℕ → ℕ → ℕ × ℕ
label n j = (n, j)

map_label : (a n : ℕ) (js : List ℕ)
    → map (label n) (map (λ j. a + j) js) ≡ map (to_text a) (map (label n) js)
map_label a n [] = refl
map_label a n (j ∷ js) = rw (map_label a n js) refl

none_mapped : {A B : Type 0} (f : A → B) (xs : List A) → map f xs ≡ [] → xs ≡ []
none_mapped f [] h = refl
none_mapped f (x ∷ xs) h = absurd (cc)

module _ (t : ℕ) (text : Text) (a b : ℕ) (lines : AreLines t text a b) where
  all_in_line : (n : ℕ) (res : List Re) → all_stay t res ≡ true → (k : ℕ) → a + k ≤ b
      → all_ends t text n res (a + k) ≡ map (to_text a) (all_ends t (alone text a b) n res k)
  all_in_line n [] h k l = refl
  all_in_line n (re ∷ res) h k l =
      let both = and_parts (stays_in_line t re) (all_stay t res) h in
      rw (
        ends_in_line t text a k b lines l re both.0,
        all_in_line (suc n) res both.1 k l,
        map_label a n (ends t (alone text a b) re k),
      )
      (sym (map-append (to_text a) _ (all_ends t (alone text a b) (suc n) res k)))

  none_at : (res : List Re) → all_stay t res ≡ true → (k : ℕ) → a + k ≤ b → all_ends t text 0 res (a + k) ≡ []
      → all_ends t (alone text a b) 0 res k ≡ []
  none_at res h k l e =
      none_mapped (to_text a) (all_ends t (alone text a b) 0 res k) (sym (all_in_line 0 res h k l) ∙ e)

first_back : (a k p j : ℕ) (xs ys : List (ℕ × ℕ)) → ys ≡ map (to_text a) xs → slice_get ys 0 ≡ Some (p, j)
    → slice_get xs 0 ≡ Some (p, j - a)
first_back a k p j [] ys e h = absurd (let q : None ≡ Some (p, j) = rw e at h in cc)
first_back a k p j ((q, l) ∷ xs) ys e h =
    let z : label q (a + l) ≡ label p j = some_injective (label q (a + l)) (label p j) (rw e at h) in
    let one : q ≡ p = ap (λ (w : ℕ × ℕ). w.0) z in
    let two : a + l ≡ j = ap (λ (w : ℕ × ℕ). w.1) z in
    let back : l ≡ j - a = omega (arith, two) in
    rw (one, back) refl

-- each end is on from the position
pub all_onward : (t : ℕ) (text : Text) (res : List Re) (n k : ℕ) (y : ℕ × ℕ) → In y (all_ends t text n res k)
    → Onward text k y.1
all_onward t text [] n k y h = In_none y h
all_onward t text (re ∷ res) n k y h =
    In_append_cases y (map (label n) (ends t text re k)) (all_ends t text (suc n) res k) h
    (λ l. In_map_from (label n) y (ends t text re k) l (λ j i e. rw e (ends_onward t text re k j i)))
    (λ l. all_onward t text res (suc n) k y l)

-- a match that begins in a line ends in it
pub end_in_line : (t : ℕ) (res : List Re) (text : Text) (a b : ℕ) → AreLines t text a b → all_stay t res ≡ true
    → (k p j : ℕ) → a ≤ k → k ≤ b → slice_get (all_ends t text 0 res k) 0 ≡ Some (p, j) → j ≤ b
end_in_line t res text a b lines h k p j low high is =
    let at : a + (k - a) ≡ k = omega arith in
    let first : slice_get (all_ends t (alone text a b) 0 res (k - a)) 0 ≡ Some (p, j - a) =
    first_back a (k - a) p j (all_ends t (alone text a b) 0 res (k - a)) (all_ends t text 0 res (a + (k - a)))
    (all_in_line t text a b lines 0 res h (k - a) (omega (arith, at, high))) (rw at is) in
    let len = length-line text.bytes a b lines.within in
    by_cases (all_onward t (alone text a b) res 0 (k - a) (p, j - a) (0, first))
    (λ e. omega (arith, e, low, high))
    (λ e. let last : j - a ≤ length (slice_range text.bytes a b) = e.1 in
    omega (arith, last, len, lines.order))

pub leftmost_in_line : LeftmostInLine
leftmost_in_line t res text a b lines h latest m is low high =
    let at : a + (m.start - a) ≡ m.start = omega arith in (
      omega arith,
      λ k l. none_at t text a b lines res h k (omega arith) (is.1 (a + k) (omega arith)),
      first_back a (m.start - a) m.pattern m.end (all_ends t (alone text a b) 0 res (m.start - a))
          (all_ends t text 0 res (a + (m.start - a))) (all_in_line t text a b lines 0 res h (m.start - a) (omega arith))
          (rw at is.2),
    )

pub none_in_line : NoneInLine
none_in_line t res text a b lines h none k l =
    let order = lines.order in
    none_at t text a b lines res h k (omega arith) (none (a + k) (omega arith) (omega arith))

first_to : (a p j : ℕ) (xs ys : List (ℕ × ℕ)) → ys ≡ map (to_text a) xs → slice_get xs 0 ≡ Some (p, j)
    → slice_get ys 0 ≡ Some (p, a + j)
first_to a p j [] ys e h = absurd (cc)
first_to a p j (x ∷ xs) ys e h = let q : x ≡ (p, j) = cc in rw (e, q) refl

pub some_in_line : SomeInLine
some_in_line t res text a b lines h latest m is l = first_to a m.pattern m.end _ _
    (all_in_line t text a b lines 0 res h m.start l) is.2
