-- The ends of a pattern that does not read the terminator are those in the line, moved to its place.
-- Main statements: placed_ends.
-- Used by: Edges.
-- Idea: an end of the line stays in the line, and a loop in the line has rounds enough.
use Rattle.std.specs.List.{flat_map}
use Rattle.std.specs.Prelude.{cond, nat_lt, slice_get}
use Rattle.std.proofs.Common.{◌≡◌, ◌-◌, ◌+◌, ◌<◌, ◌≤◌, ◌∙◌, ◌∷◌, ℕ, Bool, List, Some, [], ap, arith, false, length, ltb-false, ltb-true, map, refl, suc, sym, true, zero}
use Rattle.std.proofs.lemmas.Bool.{and_parts, not-true}
use Rattle.std.proofs.lemmas.List.{map-append}
use Rattle.std.proofs.lemmas.List.Folds.{flat_map-map}
use Rattle.std.proofs.lemmas.Option.{slice_get_past}
use Rattle.ordered_reach.proofs.Cases.{by_cases, by_test}
use Rattle.ordered_reach.proofs.lists.Elements.{In, flat_map_same}
use Rattle.ordered_reach.proofs.lists.Pieces.{flat_map_none}
use Rattle.determinize_below.specs.Semantics.{Text}
use Rattle.determinize_below.specs.declared.look.Look.{Look as Assertion}
use Rattle.determinize_pattern.proofs.entries.Ends.{Onward, ends_onward}
use Rattle.determinize_pattern.specs.Lines.{stays_by}
use Rattle.determinize_pattern.specs.Meaning.{Byte, Empty, Look, Or, Plus, Re, Then, ends, holds_at, is_in, prefer, rounds}

map_flat_map : {A B X : Type 0} (f : A → B) (g : X → List A) (xs : List X)
    → map f (flat_map g xs) ≡ flat_map (λ x. map f (g x)) xs
map_flat_map f g [] = refl
map_flat_map f g (x ∷ xs) = rw (map-append f (g x) (flat_map g xs), map_flat_map f g xs) refl

each_none : {X A : Type 0} (g : X → List A) (xs : List X) → ((x : X) → In x xs → g x ≡ []) → flat_map g xs ≡ []
each_none g xs h = flat_map_same g (λ x. []) xs h ∙ flat_map_none (λ x. []) xs (λ x. refl)

prefer_none : (greedy : Bool) (j : ℕ) → prefer greedy [] (j ∷ []) ≡ j ∷ []
prefer_none true j = refl
prefer_none false j = refl

map_prefer : (f : ℕ → ℕ) (greedy : Bool) (xs ys : List ℕ)
    → map f (prefer greedy xs ys) ≡ prefer greedy (map f xs) (map f ys)
map_prefer f true xs ys = map-append f xs ys
map_prefer f false xs ys = map-append f ys xs

map_cond : {A B : Type 0} (f : A → B) (b : Bool) (xs ys : List A)
    → map f (cond b xs ys) ≡ cond b (map f xs) (map f ys)
map_cond f true xs ys = refl
map_cond f false xs ys = refl

lt_moved : (a k l : ℕ) → nat_lt (a + k) (a + l) ≡ nat_lt k l
lt_moved a k l = by_test (nat_lt k l)
    (λ e. let x : k < l = ltb-true k l e in rw e (by_test (nat_lt (a + k) (a + l)) (λ q. q)
    (λ q. absurd (let y : a + l ≤ a + k = ltb-false (a + k) (a + l) q in omega arith))))
    (λ e. let x : l ≤ k = ltb-false k l e in rw e (by_test (nat_lt (a + k) (a + l))
    (λ q. absurd (let y : a + k < a + l = ltb-true (a + k) (a + l) q in omega arith)) (λ q. q)))

module _ (text line : Text) (a : ℕ) where
  abbrev moved : ℕ → ℕ
  moved j = a + j

  abbrev n : ℕ
  n = length line.bytes

  module _ (greedy : Bool) (f g : ℕ → List ℕ) (same : (k : ℕ) → k ≤ n → f (a + k) ≡ map moved (g k))
      (onward : (k l : ℕ) → In l (g k) → Onward line k l) where
    -- what follows each end of one round
    each_moved : (F G : ℕ → List ℕ) (k : ℕ) → k ≤ n → ((l : ℕ) → In l (g k) → F (a + l) ≡ map moved (G l))
        → flat_map F (f (a + k)) ≡ map moved (flat_map G (g k))
    each_moved F G k w h = ap (flat_map F) (same k w) ∙ flat_map-map F moved (g k)
        ∙ flat_map_same (λ l. F (a + l)) (λ l. map moved (G l)) (g k) h ∙ sym (map_flat_map moved G (g k))

    in_line : (k l : ℕ) → k ≤ n → In l (g k) → (k ≤ l) × (l ≤ n)
    in_line k l w h = by_cases (onward k l h)
        (λ q. (omega arith, omega arith))
        (λ q. let x : k < l = q.0 in let y : l ≤ n = q.1 in (omega arith, omega arith))

    -- at the end of the line no round follows
    at_end : (k l : ℕ) → n ≤ k → In l (g k) → nat_lt k l ≡ false
    at_end k l w h = by_test (nat_lt k l)
        (λ e. let x : k < l = ltb-true k l e in by_cases (onward k l h)
        (λ q. absurd (omega arith))
        (λ q. let y : l ≤ n = q.1 in absurd (omega arith)))
        (λ e. e)

    -- what follows an end in a later round, or nothing
    abbrev later : (ℕ → List ℕ) → ℕ → ℕ → ℕ → List ℕ
    later body count i l = cond (nat_lt i l) (rounds greedy body count l) []

    rounds_moved : (N M k : ℕ) → n - k ≤ N → n - k ≤ M → k ≤ n
        → rounds greedy f N (a + k) ≡ map moved (rounds greedy g M k)
    rounds_moved zero zero k p q w = refl
    rounds_moved zero (suc M) k p q w =
        let none : flat_map (later g M k) (g k) ≡ [] =
        each_none (later g M k) (g k) (λ l h. rw (at_end k l (omega arith) h) refl) in
        rw (none, prefer_none greedy k) refl
    rounds_moved (suc N) zero k p q w =
        let none : flat_map (later f N (a + k)) (f (a + k)) ≡ [] =
        each_moved (later f N (a + k)) (λ l. []) k w
        (λ l h. rw (lt_moved a k l, at_end k l (omega arith) h) refl)
        ∙ ap (map moved) (each_none (λ l. []) (g k) (λ l h. refl)) in
        rw (none, prefer_none greedy (a + k)) refl
    rounds_moved (suc N) (suc M) k p q w =
        let more : flat_map (later f N (a + k)) (f (a + k)) ≡ map moved (flat_map (later g M k) (g k)) =
        each_moved (later f N (a + k)) (later g M k) k w (λ l h. by_test (nat_lt k l)
        (λ e. let x : k < l = ltb-true k l e in let v = in_line k l w h in
        rw (lt_moved a k l, e) (rounds_moved N M l (omega (arith, v.1)) (omega (arith, v.1)) v.1))
        (λ e. rw (lt_moved a k l, e) refl)) in
        rw (more, map_prefer moved greedy (flat_map (later g M k) (g k)) (k ∷ [])) refl

    plus_moved : (size : ℕ) → a + n ≤ size → (k : ℕ) → k ≤ n
        → flat_map (λ j. cond (nat_lt (a + k) j) (rounds greedy f (size - j) j) (j ∷ [])) (f (a + k))
        ≡ map moved (flat_map (λ j. cond (nat_lt k j) (rounds greedy g (n - j) j) (j ∷ [])) (g k))
    plus_moved size fits k w = each_moved _ _ k w (λ l h. by_test (nat_lt k l)
        (λ e. let v = in_line k l w h in
        rw (lt_moved a k l, e) (rounds_moved (size - (a + l)) (n - l) l (omega (arith, v.1)) (omega arith) v.1))
        (λ e. rw (lt_moved a k l, e) refl))

  module _ (t : ℕ) (ok : Assertion → Bool)
      (inside : (k : ℕ) → k < n → slice_get text.bytes (a + k) ≡ slice_get line.bytes k)
      (stop : (c : List (ℕ × ℕ)) → is_in c (Some t) ≡ false → is_in c (slice_get text.bytes (a + n)) ≡ false)
      (fits : a + n ≤ length text.bytes)
      (looks : (k : ℕ) → k ≤ n → (look : Assertion) → ok look ≡ true
      → holds_at t text (a + k) look ≡ holds_at t line k look) where
    pub placed_ends : (re : Re) → stays_by ok t re ≡ true → (k : ℕ) → k ≤ n
        → ends t text re (a + k) ≡ map moved (ends t line re k)
    placed_ends Empty s k w = refl
    placed_ends (Byte c) s k w = by_test (nat_lt k n)
        (λ e. let x : k < n = ltb-true k n e in
        let next : suc (a + k) ≡ a + suc k = omega arith in
        rw (inside k x, next) (sym (map_cond moved (is_in c (slice_get line.bytes k)) (suc k ∷ []) [])))
        (λ e. let x : n ≤ k = ltb-false k n e in
        let here : k ≡ n = omega arith in
        let out : is_in c (slice_get text.bytes (a + k)) ≡ false =
        rw here (stop c (not-true (is_in c (Some t)) s)) in
        rw (out, slice_get_past line.bytes k x) refl)
    placed_ends (Look look) s k w = rw (looks k w look s) (sym (map_cond moved (holds_at t line k look) (k ∷ []) []))
    placed_ends (Then b c) s k w =
        let both = and_parts (stays_by ok t b) (stays_by ok t c) s in
        ap (flat_map (ends t text c)) (placed_ends b both.0 k w)
        ∙ flat_map-map (ends t text c) moved (ends t line b k)
        ∙ flat_map_same (λ l. ends t text c (a + l)) (λ l. map moved (ends t line c l)) (ends t line b k)
        (λ l h. placed_ends c both.1 l (by_cases (ends_onward t line b k l h) (λ q. omega arith) (λ q. q.1)))
        ∙ sym (map_flat_map moved (ends t line c) (ends t line b k))
    placed_ends (Or b c) s k w =
        let both = and_parts (stays_by ok t b) (stays_by ok t c) s in
        rw (placed_ends b both.0 k w, placed_ends c both.1 k w)
        (sym (map-append moved (ends t line b k) (ends t line c k)))
    placed_ends (Plus greedy b) s k w = plus_moved greedy (ends t text b) (ends t line b)
        (λ l v. placed_ends b s l v) (λ l j h. ends_onward t line b l j h) (length text.bytes) fits k w
