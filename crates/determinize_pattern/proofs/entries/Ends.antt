-- Where the ends of matches are.
-- Main statements: In_prefer, In_cond, In_one, ends_onward, rounds_onward.
-- Used by: the files entries and compiled.
-- Idea: an end is the start of its match, or after it and in the text.
use Rattle.std.specs.Prelude.{cond, nat_lt, slice_get}
use Rattle.std.proofs.Common.{◌≡◌, ◌-◌, ◌<◌, ◌≤◌, ◌⊎◌, ◌∷◌, ℕ, Bool, List, [], arith, false, inl, inr, length, ltb-false, ltb-true, refl, suc, true, zero}
use Rattle.std.proofs.lemmas.Option.{slice_get_within}
use Rattle.std.proofs.lemmas.Bool.{false≢true}
use Rattle.ordered_reach.proofs.Cases.{by_cases, by_option, by_test}
use Rattle.ordered_reach.proofs.lists.Elements.{In, In_append_cases, In_append_left, In_append_right, In_cases, In_flat_map_from, In_none}
use Rattle.determinize_below.specs.Semantics.{Text}
use Rattle.determinize_pattern.specs.Meaning.{Byte, Empty, Look, Or, Plus, Re, Then, ends, holds_at, is_in, prefer, rounds}

pub In_prefer : {P : Type 0} (greedy : Bool) (m : ℕ) (xs ys : List ℕ) → In m (prefer greedy xs ys) → (In m xs → P)
    → (In m ys → P) → P
In_prefer true m xs ys h f g = In_append_cases m xs ys h f g
In_prefer false m xs ys h f g = In_append_cases m ys xs h g f

pub In_more : (greedy : Bool) (m : ℕ) (xs ys : List ℕ) → In m xs → In m (prefer greedy xs ys)
In_more true m xs ys h = In_append_left m xs ys h
In_more false m xs ys h = In_append_right m ys xs h

pub In_stop : (greedy : Bool) (m : ℕ) (xs ys : List ℕ) → In m ys → In m (prefer greedy xs ys)
In_stop true m xs ys h = In_append_right m xs ys h
In_stop false m xs ys h = In_append_left m ys xs h

-- an element of one of two lists by a test
pub In_cond : {P : Type 0} (b : Bool) (m : ℕ) (xs ys : List ℕ) → In m (cond b xs ys) → (b ≡ true → In m xs → P)
    → (b ≡ false → In m ys → P) → P
In_cond true m xs ys h f g = f refl h
In_cond false m xs ys h f g = g refl h

pub In_one : {P : Type 0} (m j : ℕ) → In m (j ∷ []) → (m ≡ j → P) → P
In_one m j h f = In_cases m j [] h f (λ k. In_none m k)

pub lt_true : (i j : ℕ) → i < j → nat_lt i j ≡ true
lt_true i j l = by_test (nat_lt i j) (λ e. e) (λ e. absurd (omega (arith, ltb-false i j e)))

pub lt_false : (i j : ℕ) → j ≡ i → nat_lt i j ≡ false
lt_false i j l = by_test (nat_lt i j) (λ e. absurd (omega (arith, ltb-true i j e))) (λ e. e)

-- j is i, or is after it and in the text
abbrev pub Onward : Text → ℕ → ℕ → Type 0
Onward text i j = (j ≡ i) ⊎ ((i < j) × (j ≤ length text.bytes))

then_onward : (text : Text) (i l j : ℕ) → Onward text i l → Onward text l j → Onward text i j
then_onward text i l j a b = by_cases a
    (λ e. rw e at b)
    (λ h. by_cases b
    (λ e. rw e (inr h))
    (λ k. inr (omega (arith, h.0, k.0), k.1)))

in_text : (ranges : List (ℕ × ℕ)) (text : Text) (i : ℕ) → is_in ranges (slice_get text.bytes i) ≡ true
    → i < length text.bytes
in_text ranges text i h = by_option (slice_get text.bytes i)
    (λ e. absurd (false≢true (rw e at h)))
    (λ b e. slice_get_within text.bytes i b e)

pub rounds_onward : (text : Text) (greedy : Bool) (body : ℕ → List ℕ)
    → ((i j : ℕ) → In j (body i) → Onward text i j)
    → (n j m : ℕ) → In m (rounds greedy body n j) → Onward text j m
rounds_onward text greedy body f zero j m h = In_one m j h (λ e. inl e)
rounds_onward text greedy body f (suc n) j m h = In_prefer greedy m _ (j ∷ []) h
    (λ k. In_flat_map_from (λ l. cond (nat_lt j l) (rounds greedy body n l) []) (body j) m k
    (λ l a b. In_cond (nat_lt j l) m (rounds greedy body n l) [] b
    (λ e c. then_onward text j l m (f j l a) (rounds_onward text greedy body f n l m c))
    (λ e c. In_none m c)))
    (λ k. In_one m j k (λ e. inl e))

pub ends_onward : (t : ℕ) (text : Text) (re : Re) (i j : ℕ) → In j (ends t text re i) → Onward text i j
ends_onward t text Empty i j h = In_one j i h (λ e. inl e)
ends_onward t text (Byte ranges) i j h = In_cond (is_in ranges (slice_get text.bytes i)) j (suc i ∷ []) [] h
    (λ e k. In_one j (suc i) k (λ z. let l : i < length text.bytes = in_text ranges text i e in
    inr (omega arith, omega arith)))
    (λ e k. In_none j k)
ends_onward t text (Look look) i j h = In_cond (holds_at t text i look) j (i ∷ []) [] h
    (λ e k. In_one j i k (λ z. inl z))
    (λ e k. In_none j k)
ends_onward t text (Then a b) i j h = In_flat_map_from (ends t text b) (ends t text a i) j h
    (λ l k m. then_onward text i l j (ends_onward t text a i l k) (ends_onward t text b l j m))
ends_onward t text (Or a b) i j h = In_append_cases j (ends t text a i) (ends t text b i) h
    (λ k. ends_onward t text a i j k) (λ k. ends_onward t text b i j k)
ends_onward t text (Plus greedy a) i j h =
    In_flat_map_from
    (λ l. cond (nat_lt i l) (rounds greedy (ends t text a) (length text.bytes - l) l) (l ∷ []))
    (ends t text a i) j h
    (λ l k m. then_onward text i l j (ends_onward t text a i l k)
    (In_cond (nat_lt i l) j (rounds greedy (ends t text a) (length text.bytes - l) l) (l ∷ []) m
    (λ e c. rounds_onward text greedy (ends t text a) (λ x y z. ends_onward t text a x y z)
    (length text.bytes - l) l j c)
    (λ e c. In_one j l c (λ z. inl z))))
