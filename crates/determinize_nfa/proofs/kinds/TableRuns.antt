-- The ranges of a table: each has bytes with one target, and each byte with a target is in one.
-- Main statements: run_target, byte_run, length-runs.
-- Used by: ArcsOfStates and Counts.
-- Idea: induction on the rest of the table; the first run has begun at an earlier byte, with the same target since.
use Rattle.determinize_nfa.proofs.Common.{In, In_cases, In_head, In_none, In_tail, List, None, Some, Transition, []}
use Rattle.determinize_nfa.proofs.Common.{arith, by_cases, by_test, cases_lt, false, get_or, is_first, length, matches}
use Rattle.determinize_nfa.proofs.Common.{nat_eq, nat_tests, refl, runs, some_injective, suc, sym, true, ℕ, ◌+◌, ◌-◌}
use Rattle.determinize_nfa.proofs.Common.{◌<◌, ◌∙◌, ◌∷◌, ◌≡◌, ◌≤◌}
use Rattle.determinize_below.specs.Transition.{dense_target}
use Rattle.determinize_nfa.specs.Reversal.{runs_in}

-- the range of the bytes from a to b with a target
abbrev range : ℕ → ℕ → ℕ → Transition
range a b id = record { start = a; end = b; next = id }

first_is : (id : ℕ) (ids : List ℕ) → is_first id ids ≡ true → (get_or ids 0 0 ≡ id) × (0 < length ids)
first_is id ids e = (grind (arith, nat_tests, e), grind (arith, e))

-- the rest of a table from byte b on, and a run that began at byte a
record IsAt (target : ℕ → ℕ) (ids : List ℕ) (a b : ℕ) : Type 0 where
  rest : (k : ℕ) → get_or ids k 0 ≡ target (b + k)
  run : (c : ℕ) → a ≤ c → c < b → target c ≡ target b

module _ (target : ℕ → ℕ) where
  in_run : (id : ℕ) (ids : List ℕ) (a b c : ℕ) → IsAt target (id ∷ ids) a b → a ≤ c → c ≤ b → target c ≡ id
  in_run id ids a b c at l h =
      let z : b + 0 ≡ b = omega arith in
      let e : target b ≡ id = rw z at (sym (at.rest 0)) in
      by_cases (cases_lt c b)
      (λ k. at.run c l k ∙ e)
      (λ k. let y : c ≡ b = omega arith in rw y e)

  after : (id : ℕ) (ids : List ℕ) (a b k : ℕ) → IsAt target (id ∷ ids) a b → get_or ids k 0 ≡ target (suc b + k)
  after id ids a b k at = let z : b + suc k ≡ suc b + k = omega arith in rw z at (at.rest (suc k))

  -- the next byte is in the same run
  onward : (id : ℕ) (ids : List ℕ) (a b : ℕ) → is_first id ids ≡ true → IsAt target (id ∷ ids) a b
      → IsAt target ids a (suc b)
  onward id ids a b z at =
      let e : suc b + 0 ≡ suc b = omega arith in
      let next : target (suc b) ≡ id = rw e at (sym (after id ids a b 0 at) ∙ (first_is id ids z).0) in record {
        rest = λ k. after id ids a b k at;
        run = λ c l h. in_run id ids a b c at l (omega (arith, h)) ∙ sym next;
      }

  -- the next byte begins another run
  anew : (id : ℕ) (ids : List ℕ) (a b : ℕ) → IsAt target (id ∷ ids) a b → IsAt target ids (suc b) (suc b)
  anew id ids a b at = record { rest = λ k. after id ids a b k at; run = λ c l h. absurd (omega (arith, l, h)) }

  run_of : (ids : List ℕ) (a b : ℕ) → IsAt target ids a b → (r : Transition) → In r (runs a b ids)
      → (nat_eq r.next 0 ≡ false) × ((c : ℕ) → r.start ≤ c → c ≤ r.end → target c ≡ r.next)
  run_of [] a b at r k = In_none r k
  run_of (id ∷ ids) a b at r k = by_test (is_first id ids)
      (λ z. run_of ids a (suc b) (onward id ids a b z at) r (rw z at k))
      (λ z. by_test (nat_eq id 0)
      (λ y. run_of ids (suc b) (suc b) (anew id ids a b at) r (rw (z, y) at k))
      (λ y. In_cases r (range a b id) (runs (suc b) (suc b) ids) (rw (z, y) at k)
      (λ e. rw e (y, λ c l h. in_run id ids a b c at l h))
      (λ j. run_of ids (suc b) (suc b) (anew id ids a b at) r j)))

  run_with : (ids : List ℕ) (a b c : ℕ) → IsAt target ids a b → (length ids ≡ 0 → a ≡ b) → a ≤ c
      → nat_eq (target c) 0 ≡ false
      → (r : Transition) × In r (runs a b ids) × (r.next ≡ target c) × (r.start ≤ c) × (c ≤ r.end)
  run_with [] a b c at f l n =
      let e : a ≡ b = f refl in
      let z : b + (c - b) ≡ c = omega arith in
      let t : target c ≡ 0 = sym (rw z at (at.rest (c - b))) in
      absurd (let w : true ≡ false = rw t at n in cc)
  run_with (id ∷ ids) a b c at f l n = by_test (is_first id ids)
      (λ z. rw z (run_with ids a (suc b) c (onward id ids a b z at)
      (λ e. absurd (omega (arith, (first_is id ids z).1, e))) l n))
      (λ z. by_cases (cases_lt b c)
      (λ k. let d = run_with ids (suc b) (suc b) c (anew id ids a b at) (λ e. refl) k n in
      by_test (nat_eq id 0)
      (λ y. rw (z, y) d)
      (λ y. rw (z, y) (d.0, In_tail d.0 (range a b id) _ d.1, d.2, d.3, d.4)))
      (λ k. let e : target c ≡ id = in_run id ids a b c at l k in
      let y : nat_eq id 0 ≡ false = rw e at n in
      rw (z, y) (range a b id, In_head (range a b id) _, sym e, l, k)))

whole : (ids : List ℕ) → IsAt (λ c. get_or ids c 0) ids 0 0
whole ids = record {
  rest = λ k. let z : 0 + k ≡ k = omega arith in rw z refl;
  run = λ c l h. absurd (omega (arith, h));
}

-- each byte of a range has its target in the table
pub run_target : (ids : List ℕ) (r : Transition) → In r (runs 0 0 ids) → (b : ℕ) → matches r b ≡ true
    → dense_target ids b ≡ Some r.next
run_target ids r k b m =
    let d = run_of (λ c. get_or ids c 0) ids 0 0 (whole ids) r k in
    let e : get_or ids b 0 ≡ r.next = d.1 b (grind (arith, nat_tests)) (grind (arith, nat_tests)) in
    rw (e, d.0) refl

-- each byte with a target is in a range with this target
pub byte_run : (ids : List ℕ) (b t : ℕ) → dense_target ids b ≡ Some t
    → (r : Transition) × In r (runs 0 0 ids) × (r.next ≡ t) × (matches r b ≡ true)
byte_run ids b t e = by_test (nat_eq (get_or ids b 0) 0)
    (λ z. absurd (let k : None ≡ Some t = rw z at e in cc))
    (λ z. let k : get_or ids b 0 ≡ t = some_injective (get_or ids b 0) t (rw z at e) in
    let d = run_with (λ c. get_or ids c 0) ids 0 0 b (whole ids) (λ y. refl) (omega arith) z in
    let low : d.0.start ≤ b = d.3 in let high : b ≤ d.0.end = d.4 in
    (d.0, d.1, d.2 ∙ k, grind (arith, nat_tests)))

pub length-runs : (ids : List ℕ) (a b : ℕ) → length (runs a b ids) ≡ runs_in ids
length-runs [] a b = refl
length-runs (id ∷ ids) a b = grind (arith, length-runs ids a (suc b), length-runs ids (suc b) (suc b))
