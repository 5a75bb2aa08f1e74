-- The list of the last value of a walk, by the place at which a search of the same units ends.
-- Main statements: lists-end.
-- Used by: `patterns_after`.
-- Idea: a search ends early only at a value that records no NFA states, after which no value lists a pattern.
use Rattle.determinize_lazy.proofs.Common.{[], ap, arith, by_cases, by_test, Cache, cond, dead, dead_stays, ends_at}
use Rattle.determinize_lazy.proofs.Common.{false, first_place, is_last, IsAccepted, length, length-append, length-map}
use Rattle.determinize_lazy.proofs.Common.{List, map, MatchKind, nat_le, nat_tests, next_place, Nfa, none_left, Option}
use Rattle.determinize_lazy.proofs.Common.{Place, refl, Some, start_value, step_over, sym, Text, true, units}
use Rattle.determinize_lazy.proofs.Common.{units_listed, Value, value_after, ℕ, ◌+◌, ◌<◌, ◌∙◌, ◌∷◌, ◌≡◌, ◌≤◌, ◌⊎◌}
use Rattle.determinize_engine.proofs.Lists.{lists_at_end}
use Rattle.determinize_engine.specs.Lists.{ListsAtEnd}

after_dead : (nfa : Nfa) (kind : MatchKind) (us : List (Option ℕ)) → value_after nfa kind dead us ≡ dead
after_dead nfa kind [] = refl
after_dead nfa kind (u ∷ us) = rw (dead_stays nfa kind u).0 (after_dead nfa kind us)

-- all of the units are read where the count is at least `n`
list-after : (us : List (Option ℕ)) (p : Place) (n : ℕ) → n ≡ p.read + length us
    → (value_after p.cache.nfa p.cache.kind p.value us).patterns
    ≡ cond (nat_le n (ends_at false p us).read) (ends_at false p us).value.patterns []
list-after [] p n is = let all : nat_le n p.read ≡ true = grind (arith, nat_tests, is) in rw all refl
list-after (u ∷ us) p n is = by_test (is_last false p.value)
    (λ over.
    let few : nat_le n p.read ≡ false = grind (arith, nat_tests, is) in
    let stays : value_after p.cache.nfa p.cache.kind p.value (u ∷ us) ≡ dead
    = ap (λ v. value_after p.cache.nfa p.cache.kind v us) (step_over p.cache.nfa p.cache.kind p.value u
    (none_left p.value.states over)) ∙ after_dead p.cache.nfa p.cache.kind us in
    rw (over, few) (ap (λ (v : Value). v.patterns) stays))
    (λ more. rw more (list-after us (next_place p u) n (omega (arith, is))))

-- what is listed where a search of a text ends
pub lists-end : (old : Cache) (start : ℕ) (text : Text) (q : Place) (list : List ℕ) → IsAccepted old.nfa
    → q ≡ ends_at false (first_place old (start_value old.nfa start text.behind)) (units text)
    → ((q.read ≤ length text.bytes) × (list ≡ [])) ⊎ ((length text.bytes < q.read) × (list ≡ q.value.patterns))
    → ListsAtEnd old.nfa old.kind start text list
lists-end old start text q list accepted is at =
    let first : Place = first_place old (start_value old.nfa start text.behind) in
    let n : ℕ = length (units text) in
    let after : (value_after old.nfa old.kind first.value (units text)).patterns
    ≡ cond (nat_le n q.read) q.value.patterns [] = rw is (list-after (units text) first n (omega arith)) in
    let count : n ≡ length text.bytes + 1 = omega (
      arith,
      length-map text.bytes Some,
      length-append (map Some text.bytes) (text.ahead ∷ []),
      ap length (units_listed text),
    ) in
    lists_at_end old.nfa old.kind start text list accepted (by_cases at
    (λ (few, none). let e : nat_le n q.read ≡ false = grind (arith, nat_tests, few, count) in
    none ∙ sym (rw e at after))
    (λ (all, is). let e : nat_le n q.read ≡ true = grind (arith, nat_tests, all, count) in
    is ∙ sym (rw e at after)))
