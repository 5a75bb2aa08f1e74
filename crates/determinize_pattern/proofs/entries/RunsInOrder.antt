-- Runs that accept an earlier pattern are preferred to those that accept a later one.
-- Main statements: earlier_first.
-- Used by: Leftmost.
-- Idea: the list of a search has the labels in the order of the walks, and the patterns of `all_ends` ascend.
use Rattle.std.specs.Prelude.{Contains, slice_get}
use Rattle.std.proofs.Common.{◌≡◌, ◌<◌, ◌≤◌, ◌++◌, ◌⊎◌, ◌∙◌, ◌∷◌, ℕ, List, Some, [], ap, arith, inl, inr, map, refl, suc, sym, zero}
use Rattle.std.proofs.lemmas.Bool.{cases_lt}
use Rattle.std.specs.List.{flat_map}
use Rattle.ordered_reach.specs.Paths.{Before}
use Rattle.ordered_reach.specs.Walks.{IsGraphWalk, ListsLabels, Settles, labels_within}
use Rattle.ordered_reach.proofs.Cases.{by_cases}
use Rattle.ordered_reach.proofs.lists.Elements.{All_at, Contains_from_In, In, In_append_cases, In_append_left, In_append_right, In_cases, In_from_Contains, In_head, In_map_from, In_none, In_tail}
use Rattle.ordered_reach.proofs.lists.Lexicographic.{Before-first, Before-parts, Before-rest}
use Rattle.ordered_reach.proofs.walks.FirstLabels.{label_listed}
use Rattle.determinize_below.specs.Semantics.{Text}
use Rattle.determinize_pattern.specs.LeftmostOf.{all_ends}
use Rattle.determinize_pattern.specs.Meaning.{Re, ends}

-- the numbers of the elements ascend
abbrev Ascends : {A : Type 0} → (A → ℕ) → List A → Type 0
Ascends num [] = Unit {0}
Ascends {A} num (x ∷ xs) = ((y : A) → In y xs → num x ≤ num y) × Ascends num xs

module _ {A : Type 0} (num : A → ℕ) where
  ascends_left : (xs ys : List A) → Ascends num (xs ++ ys) → Ascends num xs
  ascends_left [] ys h = tt
  ascends_left (x ∷ xs) ys h = (λ y k. h.0 y (In_append_left y xs ys k), ascends_left xs ys h.1)

  ascends_right : (xs ys : List A) → Ascends num (xs ++ ys) → Ascends num ys
  ascends_right [] ys h = h
  ascends_right (x ∷ xs) ys h = ascends_right xs ys h.1

  ascends_across : (xs ys : List A) → Ascends num (xs ++ ys) → (x y : A) → In x xs → In y ys → num x ≤ num y
  ascends_across [] ys h x y k l = In_none x k
  ascends_across (z ∷ xs) ys h x y k l = In_cases x z xs k
      (λ e. rw e (h.0 y (In_append_right y xs ys l)))
      (λ m. ascends_across xs ys h.1 x y m l)

  ascends_append : (xs ys : List A) → Ascends num xs → Ascends num ys
      → ((x y : A) → In x xs → In y ys → num x ≤ num y) → Ascends num (xs ++ ys)
  ascends_append [] ys h k f = k
  ascends_append (x ∷ xs) ys h k f = (
    λ y m. In_append_cases y xs ys m (λ l. h.0 y l) (λ l. f x y (In_head x xs) l),
    ascends_append xs ys h.1 k (λ z y l m. f z y (In_tail z x xs l) m),
  )

  -- the parts of a list that is put together
  module _ {N : Type 0} (f : N → List A) where
    ascends_part : (ts : List N) → Ascends num (flat_map f ts) → (c : ℕ) (t : N) → slice_get ts c ≡ Some t
        → Ascends num (f t)
    ascends_part [] h c t e = In_none t (c, e)
    ascends_part (u ∷ ts) h zero t e = let q : u ≡ t = cc in rw q at (ascends_left (f u) (flat_map f ts) h)
    ascends_part (u ∷ ts) h (suc c) t e = ascends_part ts (ascends_right (f u) (flat_map f ts) h) c t e

    In_part : (ts : List N) (c : ℕ) (t : N) (x : A) → slice_get ts c ≡ Some t → In x (f t) → In x (flat_map f ts)
    In_part [] c t x e k = In_none t (c, e)
    In_part (u ∷ ts) zero t x e k =
        let q : u ≡ t = cc in In_append_left x (f u) (flat_map f ts) (rw q k)
    In_part (u ∷ ts) (suc c) t x e k = In_append_right x (f u) (flat_map f ts) (In_part ts c t x e k)

    ascends_parts : (ts : List N) → Ascends num (flat_map f ts) → (c d : ℕ) (t u : N) (x y : A) → c < d
        → slice_get ts c ≡ Some t → slice_get ts d ≡ Some u → In x (f t) → In y (f u) → num x ≤ num y
    ascends_parts [] h c d t u x y l e g k m = In_none t (c, e)
    ascends_parts (v ∷ ts) h c zero t u x y l e g k m = absurd (omega arith)
    ascends_parts (v ∷ ts) h zero (suc d) t u x y l e g k m =
        let q : v ≡ t = cc in
        ascends_across (f v) (flat_map f ts) h x y (rw q k) (In_part ts d u y g m)
    ascends_parts (v ∷ ts) h (suc c) (suc d) t u x y l e g k m =
        ascends_parts ts (ascends_right (f v) (flat_map f ts) h) c d t u x y (omega arith) e g k m

module _ {N A : Type 0} (next : N → List N) (labels : N → List A) (num : A → ℕ) where
  listed_at : (n : ℕ) (r s : N) (cs : List ℕ) (x : A) → Settles next n r → IsGraphWalk next r cs s → In x (labels s)
      → In x (labels_within next labels n r)
  listed_at n r s cs x h w k = In_from_Contains _ x
      ((label_listed next labels r (labels_within next labels n r) (n, h, refl) x).1
      (cs, s, w, Contains_from_In (labels s) x k))

  -- the label of an earlier walk is listed before that of a later one
  earlier_listed : (cs ds : List ℕ) (n : ℕ) (r s t : N) (x y : A) → Settles next n r
      → Ascends num (labels_within next labels n r) → IsGraphWalk next r cs s → In x (labels s)
      → IsGraphWalk next r ds t → In y (labels t) → Before cs ds → num x ≤ num y
  earlier_listed cs ds zero r s t x y h a w k v m b = absurd h
  earlier_listed [] [] (suc n) r s t x y h a w k v m b = grind arith
  earlier_listed (c ∷ cs) [] (suc n) r s t x y h a w k v m b = grind arith
  earlier_listed [] (d ∷ ds) (suc n) r s t x y h a w k v m b =
      ascends_across num (labels r) _ a x y (rw w at k)
      (In_part num (labels_within next labels n) (next r) d v.0 y v.1
      (listed_at n v.0 t ds y (All_at (Settles next n) (next r) h v.0 (d, v.1)) v.2 m))
  earlier_listed (c ∷ cs) (d ∷ ds) (suc n) r s t x y h a w k v m b =
      let rest = ascends_right num (labels r) (flat_map (labels_within next labels n) (next r)) a in
      let settled = All_at (Settles next n) (next r) h in
      by_cases (Before-parts c d cs ds b)
      (λ l. ascends_parts num (labels_within next labels n) (next r) rest c d w.0 v.0 x y l w.1 v.1
      (listed_at n w.0 s cs x (settled w.0 (c, w.1)) w.2 k) (listed_at n v.0 t ds y (settled v.0 (d, v.1)) v.2 m))
      (λ l. let q : c ≡ d = l.0 in
      let one : Some w.0 ≡ Some v.0 = sym w.1 ∙ ap (slice_get (next r)) q ∙ v.1 in
      let same : w.0 ≡ v.0 = cc in
      earlier_listed cs ds n w.0 s t x y (settled w.0 (c, w.1))
      (ascends_part num (labels_within next labels n) (next r) rest c w.0 w.1) w.2 k (rw same v.2) m l.1)

Before-total : (cs ds : List ℕ) → (cs ≡ ds) ⊎ (Before cs ds ⊎ Before ds cs)
Before-total [] [] = inl refl
Before-total [] (d ∷ ds) = inr (inl refl)
Before-total (c ∷ cs) [] = inr (inr refl)
Before-total (c ∷ cs) (d ∷ ds) = by_cases (cases_lt c d)
    (λ l. inr (inl (Before-first c d cs ds l)))
    (λ l. by_cases (cases_lt d c)
    (λ k. inr (inr (Before-first d c ds cs k)))
    (λ k. let e : c ≡ d = omega arith in rw e (by_cases (Before-total cs ds)
    (λ z. inl (ap (λ w. d ∷ w) z))
    (λ z. by_cases z (λ y. inr (inl (Before-rest d cs ds y))) (λ y. inr (inr (Before-rest d ds cs y)))))))

-- the walk with the smaller number is the earlier one
pub earlier_first : {N A : Type 0} (next : N → List N) (labels : N → List A) (num : A → ℕ) (r : N) (xs : List A)
    → ListsLabels next labels r xs → Ascends num xs → (cs ds : List ℕ) (s t : N) (x y : A)
    → IsGraphWalk next r cs s → Contains (labels s) x → IsGraphWalk next r ds t → Contains (labels t) y
    → num x < num y → ¬ (cs ≡ ds) → Before cs ds
earlier_first next labels num r xs lists a cs ds s t x y w k v m l n = by_cases (Before-total cs ds)
    (λ e. absurd (n e))
    (λ z. by_cases z
    (λ b. b)
    (λ b. absurd (omega (
      arith,
      l,
      earlier_listed next labels num ds cs lists.0 r t s y x lists.1 (rw lists.2 a) v
          (In_from_Contains (labels t) y m) w (In_from_Contains (labels s) x k) b,
    ))))

abbrev pub AscendsByPattern : List (ℕ × ℕ) → Type 0
AscendsByPattern = Ascends (λ y. y.0)

-- the patterns of the ends of patterns ascend
all_from : (t : ℕ) (text : Text) (res : List Re) (n k : ℕ) (y : ℕ × ℕ) → In y (all_ends t text n res k) → n ≤ y.0
all_from t text [] n k y h = In_none y h
all_from t text (re ∷ res) n k y h = In_append_cases y _ _ h
    (λ l. In_map_from _ y (ends t text re k) l (λ j m e. let q : y.0 ≡ n = ap (λ w. w.0) e in omega (arith, q)))
    (λ l. omega (arith, all_from t text res (suc n) k y l))

pub ends_ascend : (t : ℕ) (text : Text) (res : List Re) (n k : ℕ) → AscendsByPattern (all_ends t text n res k)
ends_ascend t text [] n k = tt
ends_ascend t text (re ∷ res) n k = ascends_append (λ y. y.0) _ _ (one (ends t text re k))
    (ends_ascend t text res (suc n) k)
    (λ x y l m. In_map_from _ x (ends t text re k) l
    (λ j i e. let q : x.0 ≡ n = ap (λ w. w.0) e in omega (arith, q, all_from t text res (suc n) k y m)))
  where
    one : (js : List ℕ) → AscendsByPattern (map (λ j. (n, j)) js)
    one [] = tt
    one (j ∷ js) = (
      λ y m. In_map_from _ y js m (λ i l e. let q : y.0 ≡ n = ap (λ w. w.0) e in omega (arith, q)),
      one js,
    )
