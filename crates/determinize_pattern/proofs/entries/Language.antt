-- The ends of a pattern are where it matches in some way.
-- Main statements: end_matches, match_ends, each_end_matches.
-- Used by: ends_law.
-- Idea: a round that reads nothing changes nothing, so it can be left out.
use Rattle.std.specs.List.{flat_map}
use Rattle.std.specs.Prelude.{cond, nat_lt, slice_get}
use Rattle.std.proofs.Common.{◌≡◌, ◌-◌, ◌<◌, ◌≤◌, ◌∷◌, ℕ, Bool, List, [], arith, false, inl, inr, length, suc, true, zero, ltb-true, ltb-false}
use Rattle.ordered_reach.proofs.Cases.{by_cases, by_test}
use Rattle.ordered_reach.proofs.lists.Elements.{In, In_append_cases, In_append_left, In_append_right, In_head, In_none}
use Rattle.determinize_below.specs.Semantics.{Text}
use Rattle.determinize_pattern.proofs.entries.Ends.{In_cond, In_one, In_more, In_prefer, In_stop, ends_onward, lt_true}
use Rattle.ordered_reach.proofs.lists.Elements.{In_flat_map, In_flat_map_from, Contains_from_In, In_from_Contains}
use Rattle.determinize_pattern.specs.Laws.{EachEndMatches}
use Rattle.determinize_pattern.specs.Meaning.{Byte, Empty, Look, Matches, Or, Plus, Re, Rounds, Then, ends, holds_at, is_in, more_rounds, one_round, rounds}

if_true : (b : Bool) (m : ℕ) (xs ys : List ℕ) → b ≡ true → In m xs → In m (cond b xs ys)
if_true b m xs ys e h = rw e h

if_false : (b : Bool) (m : ℕ) (xs ys : List ℕ) → b ≡ false → In m ys → In m (cond b xs ys)
if_false b m xs ys e h = rw e h

module _ (t : ℕ) (text : Text) where
  abbrev E : Re → ℕ → List ℕ
  E re = ends t text re

  abbrev M : Re → ℕ → ℕ → Type 0
  M re = Matches t text re

  module _ (greedy : Bool) (a : Re) where
    abbrev more : ℕ → ℕ → ℕ → List ℕ
    more n j l = cond (nat_lt j l) (rounds greedy (E a) n l) []

    abbrev after : ℕ → ℕ → List ℕ
    after i j = cond (nat_lt i j) (rounds greedy (E a) (length text.bytes - j) j) (j ∷ [])

    rounds_match : (f : (i j : ℕ) → In j (E a i) → M a i j) (i n l m : ℕ) → Rounds (M a) i l
        → In m (rounds greedy (E a) n l) → Rounds (M a) i m
    rounds_match f i zero l m r h = In_one m l h (λ e. rw e r)
    rounds_match f i (suc n) l m r h = In_prefer greedy m (flat_map (more n l) (E a l)) (l ∷ []) h
        (λ k. In_flat_map_from (more n l) (E a l) m k (λ x y z.
        In_cond (nat_lt l x) m (rounds greedy (E a) n x) [] z
        (λ e c. rounds_match f i n x m (more_rounds l x r (f l x y)) c)
        (λ e c. In_none m c)))
        (λ k. In_one m l k (λ e. rw e r))

    rounds_stop : (n j : ℕ) → In j (rounds greedy (E a) n j)
    rounds_stop zero j = In_head j []
    rounds_stop (suc n) j = In_stop greedy j (flat_map (more n j) (E a j)) (j ∷ []) (In_head j [])

    one_more : (n k j : ℕ) → length text.bytes - k ≤ suc n → In j (E a k) → k < j
        → In j (rounds greedy (E a) (suc n) k)
    one_more n k j b h l = In_more greedy j (flat_map (more n k) (E a k)) (k ∷ [])
        (In_flat_map (more n k) (E a k) j j h
        (if_true (nat_lt k j) j (rounds greedy (E a) n j) [] (lt_true k j l) (rounds_stop n j)))

    extend : (n k l j : ℕ) → length text.bytes - k ≤ n → In l (rounds greedy (E a) n k) → In j (E a l) → l < j
        → j ≤ length text.bytes → In j (rounds greedy (E a) n k)
    extend zero k l j b h m s w = In_one l k h (λ e. absurd (omega arith))
    extend (suc n) k l j b h m s w = In_prefer greedy l (flat_map (more n k) (E a k)) (k ∷ []) h
        (λ c. In_flat_map_from (more n k) (E a k) l c (λ x y z.
        In_cond (nat_lt k x) l (rounds greedy (E a) n x) [] z
        (λ e d. let q : k < x = ltb-true k x e in
        In_more greedy j (flat_map (more n k) (E a k)) (k ∷ [])
        (In_flat_map (more n k) (E a k) x j y (if_true (nat_lt k x) j (rounds greedy (E a) n x) [] e
        (extend n x l j (omega arith) d m s w))))
        (λ e d. In_none l d)))
        (λ c. In_one l k c (λ e. one_more n k j b (rw e at m) (omega arith)))

    first_round : (i j : ℕ) → In j (E a i) → In j (flat_map (after i) (E a i))
    first_round i j h = In_flat_map (after i) (E a i) j j h (by_test (nat_lt i j)
        (λ e. if_true (nat_lt i j) j (rounds greedy (E a) (length text.bytes - j) j) (j ∷ []) e
        (rounds_stop (length text.bytes - j) j))
        (λ e. if_false (nat_lt i j) j (rounds greedy (E a) (length text.bytes - j) j) (j ∷ []) e (In_head j [])))

    further : (i l j : ℕ) → In l (flat_map (after i) (E a i)) → In j (E a l) → In j (flat_map (after i) (E a i))
    further i l j h m = by_cases (ends_onward t text a l j m)
        (λ e. rw e h)
        (λ s. In_flat_map_from (after i) (E a i) l h (λ x y z.
        In_cond (nat_lt i x) l (rounds greedy (E a) (length text.bytes - x) x) (x ∷ []) z
        (λ e c. In_flat_map (after i) (E a i) x j y
        (if_true (nat_lt i x) j (rounds greedy (E a) (length text.bytes - x) x) (x ∷ []) e
        (extend (length text.bytes - x) x l j (omega arith) c m s.0 s.1)))
        (λ e c. In_one l x c (λ q. by_cases (ends_onward t text a i x y)
        (λ v. first_round i j (rw (q, v) at m))
        (λ v. absurd (let k : x ≤ i = omega (arith, ltb-false i x e) in omega (arith, v.0)))))))

    all_rounds : (f : (i j : ℕ) → M a i j → In j (E a i)) (i j : ℕ) → Rounds (M a) i j
        → In j (flat_map (after i) (E a i))
    all_rounds f i _ (one_round j r) = first_round i j (f i j r)
    all_rounds f i _ (more_rounds l j r s) = further i l j (all_rounds f i l r) (f l j s)

  pub end_matches : (re : Re) (i j : ℕ) → In j (E re i) → M re i j
  end_matches Empty i j h = In_one j i h (λ e. e)
  end_matches (Byte ranges) i j h = In_cond (is_in ranges (slice_get text.bytes i)) j (suc i ∷ []) [] h
      (λ e k. (e, In_one j (suc i) k (λ z. z)))
      (λ e k. In_none j k)
  end_matches (Look look) i j h = In_cond (holds_at t text i look) j (i ∷ []) [] h
      (λ e k. (e, In_one j i k (λ z. z)))
      (λ e k. In_none j k)
  end_matches (Then a b) i j h = In_flat_map_from (E b) (E a i) j h
      (λ l k m. (l, end_matches a i l k, end_matches b l j m))
  end_matches (Or a b) i j h = In_append_cases j (E a i) (E b i) h
      (λ k. inl (end_matches a i j k)) (λ k. inr (end_matches b i j k))
  end_matches (Plus greedy a) i j h = In_flat_map_from (after greedy a i) (E a i) j h (λ l k m.
      In_cond (nat_lt i l) j (rounds greedy (E a) (length text.bytes - l) l) (l ∷ []) m
      (λ e c. rounds_match greedy a (λ x y z. end_matches a x y z) i (length text.bytes - l) l j
      (one_round l (end_matches a i l k)) c)
      (λ e c. In_one j l c (λ z. rw z (one_round l (end_matches a i l k)))))

  pub match_ends : (re : Re) (i j : ℕ) → M re i j → In j (E re i)
  match_ends Empty i j h = rw h (In_head i [])
  match_ends (Byte ranges) i j h = if_true (is_in ranges (slice_get text.bytes i)) j (suc i ∷ []) [] h.0
      (rw h.1 (In_head (suc i) []))
  match_ends (Look look) i j h = if_true (holds_at t text i look) j (i ∷ []) [] h.0
      (rw h.1 (In_head i []))
  match_ends (Then a b) i j h = In_flat_map (E b) (E a i) h.0 j (match_ends a i h.0 h.1) (match_ends b h.0 j h.2)
  match_ends (Or a b) i j h = by_cases h
      (λ k. In_append_left j (E a i) (E b i) (match_ends a i j k))
      (λ k. In_append_right j (E a i) (E b i) (match_ends b i j k))
  match_ends (Plus greedy a) i j h = all_rounds greedy a (λ x y z. match_ends a x y z) i j h

pub each_end_matches : EachEndMatches
each_end_matches t text re i j = (
  λ h. end_matches t text re i j (In_from_Contains (ends t text re i) j h),
  λ h. Contains_from_In (ends t text re i) j (match_ends t text re i j h),
)
