-- The states at which a loop begins.
-- Main statements: plus_entry.
-- Used by: the files compiled.
-- Idea: each later round reads a byte, so their number is at most that of the bytes that are left.
use Rattle.std.specs.List.{flat_map}
use Rattle.std.specs.Prelude.{Contains, cond, nat_lt}
use Rattle.std.proofs.Common.{◌≡◌, ◌-◌, ◌<◌, ◌≤◌, ◌∷◌, ℕ, Bool, List, [], arith, false, length, refl, suc, true, zero}
use Rattle.std.proofs.lemmas.List.{append-nil}
use Rattle.std.proofs.lemmas.List.Concat.{flat_map-append}
use Rattle.ordered_reach.proofs.Cases.{by_cases}
use Rattle.ordered_reach.proofs.lists.Elements.{Contains_from_In, In, In_flat_map, In_from_Contains, In_head}
use Rattle.determinize_below.specs.Semantics.{Fail, Nfa, Text, Union, state_at}
use Rattle.determinize_pattern.proofs.entries.Ends.{In_more, In_stop, ends_onward, lt_false, lt_true, rounds_onward}
use Rattle.determinize_pattern.proofs.entries.Parts.{fails, finds_two, flat_map-flat_map, if_moved, if_stayed}
use Rattle.determinize_pattern.specs.Private.Entries.{Finds, IsEntry, in_order, target_of_end}
use Rattle.determinize_pattern.specs.Meaning.{Plus, Re, ends, prefer, rounds}

flat_map-none : {A B : Type 0} (xs : List A) → flat_map {X = A} {A = B} (λ x. []) xs ≡ []
flat_map-none [] = refl
flat_map-none (x ∷ xs) = flat_map-none xs

module _ (nfa : Nfa) (text : Text) (greedy : Bool) (a : Re) (moved again fail later : ℕ)
    (loops : state_at nfa again ≡ Union (in_order greedy later moved)) (fail_is : state_at nfa fail ≡ Fail)
    (round : IsEntry nfa text a again fail later) where
  abbrev E : ℕ → List ℕ
  E = ends nfa.terminator text a

  abbrev all_rounds : ℕ → ℕ → List ℕ
  all_rounds = rounds greedy E

  -- the state of the loop: the rounds that may follow, and the end of the loop
  turn : (g : Bool) → state_at nfa again ≡ Union (in_order g later moved) → (j : ℕ) (zs : ℕ → List (ℕ × ℕ))
      (xs : List ℕ) → Finds nfa text later j (flat_map zs xs) → Finds nfa text moved j (zs j)
      → Finds nfa text again j (flat_map zs (prefer g xs (j ∷ [])))
  turn true e j zs xs h k = rw (flat_map-append zs xs (j ∷ []), append-nil (zs j))
      (finds_two nfa text again later moved j (flat_map zs xs) (zs j) e h k)
  turn false e j zs xs h k = rw (flat_map-append zs (j ∷ []) xs, append-nil (zs j))
      (finds_two nfa text again moved later j (zs j) (flat_map zs xs) e k h)

  -- the ends of the rounds after one from j to l
  abbrev more : ℕ → ℕ → ℕ → List ℕ
  more n j l = cond (nat_lt j l) (all_rounds n l) []

  loop : (n j : ℕ) (zs : ℕ → List (ℕ × ℕ)) → length text.bytes - j ≤ n
      → ((m : ℕ) → In m (all_rounds n j) → Finds nfa text moved m (zs m))
      → Finds nfa text again j (flat_map zs (all_rounds n j))
  loop zero j zs l h = rw (none greedy) at
      (turn greedy loops j zs [] (rw (flat_map-none (E j)) at (round j (λ m. []) each)) (h j (In_head j [])))
    where
      none : (g : Bool) → flat_map zs (prefer g [] (j ∷ [])) ≡ flat_map zs (j ∷ [])
      none true = refl
      none false = refl

      each : (m : ℕ) → Contains (E j) m → Finds nfa text (target_of_end j m again fail) m []
      each m c = by_cases (ends_onward nfa.terminator text a j m (In_from_Contains (E j) m c))
          (λ e. rw (if_stayed j m again fail e) (fails nfa text fail m fail_is))
          (λ k. absurd (omega (arith, k.0, k.1)))
  loop (suc n) j zs l h =
      turn greedy loops j zs (flat_map (more n j) (E j))
      (rw (flat_map-flat_map zs (more n j) (E j))
      (round j (λ m. flat_map zs (more n j m)) (λ m c. each m c (λ v w. loop n m zs v w))))
      (h j (In_stop greedy j (flat_map (more n j) (E j)) (j ∷ []) (In_head j [])))
    where
      each : (m : ℕ) → Contains (E j) m
          → (length text.bytes - m ≤ n → ((x : ℕ) → In x (all_rounds n m) → Finds nfa text moved x (zs x))
          → Finds nfa text again m (flat_map zs (all_rounds n m)))
          → Finds nfa text (target_of_end j m again fail) m (flat_map zs (more n j m))
      each m c further =
          let in_body : In m (E j) = In_from_Contains (E j) m c in
          by_cases (ends_onward nfa.terminator text a j m in_body)
          (λ e. rw (if_stayed j m again fail e, lt_false j m e) (fails nfa text fail m fail_is))
          (λ k. let rest : more n j m ≡ all_rounds n m = rw (lt_true j m k.0) refl in
          rw (if_moved j m again fail k.0, rest)
          (further (omega (arith, k.0)) (λ x y. h x (In_more greedy x (flat_map (more n j) (E j)) (j ∷ [])
          (In_flat_map (more n j) (E j) m x in_body (rw rest y))))))

  -- the ends of the loop after a first round from i to j
  abbrev after : ℕ → ℕ → List ℕ
  after i j = cond (nat_lt i j) (all_rounds (length text.bytes - j) j) (j ∷ [])

  pub plus_entry : (stayed first : ℕ) → IsEntry nfa text a again stayed first
      → IsEntry nfa text (Plus greedy a) moved stayed first
  plus_entry stayed first ha i zs h =
      rw (flat_map-flat_map zs (after i) (E i)) (ha i (λ j. flat_map zs (after i j)) each)
    where
      here : (j m : ℕ) → In j (E i) → In m (after i j) → Finds nfa text (target_of_end i m moved stayed) m (zs m)
      here j m c d = h m (Contains_from_In (flat_map (after i) (E i)) m (In_flat_map (after i) (E i) j m c d))

      further : (j : ℕ) → i < j → (m : ℕ) → In m (all_rounds (length text.bytes - j) j) → i < m
      further j l m d = by_cases
          (rounds_onward text greedy E (λ x y z. ends_onward nfa.terminator text a x y z) (length text.bytes - j) j m d)
          (λ e. omega arith) (λ k. omega (arith, k.0))

      each : (j : ℕ) → Contains (E i) j
          → Finds nfa text (target_of_end i j again stayed) j (flat_map zs (after i j))
      each j c =
          let in_body : In j (E i) = In_from_Contains (E i) j c in
          by_cases (ends_onward nfa.terminator text a i j in_body)
          (λ e. let only : after i j ≡ j ∷ [] = rw (lt_false i j e) refl in
          rw (if_stayed i j again stayed e, only, append-nil (zs j))
          (rw (if_stayed i j moved stayed e) at (here j j in_body (rw only (In_head j [])))))
          (λ k. let rest : after i j ≡ all_rounds (length text.bytes - j) j = rw (lt_true i j k.0) refl in
          rw (if_moved i j again stayed k.0, rest)
          (loop (length text.bytes - j) j zs (omega arith) (λ m d.
          rw (if_moved i m moved stayed (further j k.0 m d)) at (here j m in_body (rw rest d)))))
