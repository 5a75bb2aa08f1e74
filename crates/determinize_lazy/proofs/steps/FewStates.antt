-- How many patterns and states the values of a walk list, and how many bytes a cache of them takes.
-- Main statements: known-start, known-step, few_bytes.
-- Used by: what keeps the states of a cache small, and `cached_memory_usage`.
-- Idea: a closure lists each state once, and a pattern comes from a match state.
use Rattle.determinize_lazy.proofs.Common.{[], accepted_sound, add-one, All, All-contains, All-weaker, ap, arith}
use Rattle.determinize_lazy.proofs.Common.{Assertion, Bool, by_test, cache_bytes, cond, count_by, distinct_states, Each}
use Rattle.determinize_lazy.proofs.Common.{edges, ends, eqb-true, Fail, flat_map, fresh, get_or, has, have_after}
use Rattle.determinize_lazy.proofs.Common.{have_at_start, is_capture, is_reopened, is_some, IsAccepted, IsStateOf}
use Rattle.determinize_lazy.proofs.Common.{joined, LeftmostFirst, length, List, MatchKind, member, most_bytes, nat_eq}
use Rattle.determinize_lazy.proofs.Common.{Nfa, None, none_held, opened_by, Option, option_to_list, or_false}
use Rattle.determinize_lazy.proofs.Common.{pattern_of, patterns_of, patterns_read, reach, refl, same_decides, Some}
use Rattle.determinize_lazy.proofs.Common.{start_value, step, suc, sum_by, sym, tables_of, take, take_all, targets}
use Rattle.determinize_lazy.proofs.Common.{true, Value, without, working_list, zero, ℕ, ◌*◌, ◌+◌, ◌<◌, ◌∙◌, ◌∷◌, ◌≡◌, ◌≤◌}
use Rattle.std.proofs.Math.Nat.{mul-le-mul_right}
use Rattle.std.proofs.lemmas.List.Concat.{length-flat_map}
use Rattle.std.proofs.lemmas.List.Sums.{count_by-le-length, length-filter, sum_by-cons, sum_by-le, sum_by_more}
use Rattle.determinize_below.proofs.nfas.SoundNfa.{ends_within_states, length-reach}
use Rattle.determinize_below.specs.Edges.{is_match_node, pattern_count}
use Rattle.determinize_core.proofs.step.Resolving.{start_resolves, step_resolves, targets_resolve}
use Rattle.determinize_engine.specs.StateBytes.{heap_bytes}
use Rattle.determinize_state.proofs.encoding.EncodedLength.{spell_short}
use Rattle.ordered_reach.proofs.graph.FiniteGraphs.{below_member, fresh_below}
use Rattle.ordered_reach.proofs.graph.SearchBound.{weight, weight-fresh}
use Rattle.ordered_reach.proofs.lists.Elements.{In_Contains, member_In}
use Rattle.ordered_reach.specs.Reach.{nodes_below}

weight-sum : (f : ℕ → ℕ) (xs : List ℕ) → weight f none_held xs ≡ sum_by f xs
weight-sum f [] = refl
weight-sum f (x ∷ xs) = ap (λ k. f x + k) (weight-sum f xs) ∙ sym (sum_by-cons f x xs)

one_or_none : (o : Option ℕ) → length (option_to_list o) ≡ cond (is_some o) 1 0
one_or_none None = refl
one_or_none (Some x) = refl

-- a part of a list is no longer
length-without : (p : ℕ → Bool) (xs : List ℕ) → length (without p xs) ≤ length xs
length-without p xs = rw (length-filter _ xs) (count_by-le-length _ xs)

length-read : (kind : MatchKind) (ps : List ℕ) → length (patterns_read kind ps) ≤ length ps
length-read All ps = omega arith
length-read LeftmostFirst [] = omega arith
length-read LeftmostFirst (p ∷ ps) = omega arith

module _ (nfa : Nfa) where
  -- how many patterns a state has
  abbrev patterns_at : ℕ → ℕ
  patterns_at s = length (option_to_list (pattern_of nfa s))

  patterns_below : (k : ℕ) → k ≤ length nfa.states
      → weight patterns_at none_held (nodes_below k)
      ≡ sum_by (λ x. cond (is_match_node x) 1 0) (take k nfa.states)
  patterns_below zero l = refl
  patterns_below (suc k) l =
      let more = sum_by_more (λ x. cond (is_match_node x) 1 0) nfa.states k Fail (omega (arith, l)) in
      let one : patterns_at k ≡ cond (is_match_node (get_or nfa.states k Fail)) 1 0 = one_or_none (pattern_of nfa k) in
      rw (← add-one k) (omega (arith, more, one, patterns_below k (omega (arith, l))))

  -- distinct states have at most all patterns
  few_patterns : (xs : List ℕ) → ((x : ℕ) → member nat_eq xs x ≡ true → x < length nfa.states)
      → length (patterns_of nfa (fresh nat_eq none_held xs)) ≤ pattern_count nfa
  few_patterns xs inside =
      let ys : List ℕ = fresh nat_eq none_held xs in
      let n : ℕ = length nfa.states in
      let whole : take n nfa.states ≡ nfa.states = take_all n nfa.states (omega arith) in
      let all : weight patterns_at none_held (nodes_below n) ≡ pattern_count nfa =
      patterns_below n (omega arith) ∙ ap (λ ns. count_by is_match_node ns) whole in
      let size : length (patterns_of nfa ys) ≡ weight patterns_at none_held ys =
      length-flat_map (λ s. option_to_list (pattern_of nfa s)) ys ∙ sym (weight-sum patterns_at ys) in
      omega (
        arith,
        size,
        weight-fresh same_decides patterns_at (nodes_below n) none_held xs (λ x m e. below_member n x (inside x m)),
        all,
      )

module _ (nfa : Nfa) (accepted : IsAccepted nfa) where
  reach-few_patterns : (holds : Assertion → Bool) (roots : List ℕ)
      → ((r : ℕ) → member nat_eq roots r ≡ true → r < length nfa.states)
      → length (patterns_of nfa (reach nfa holds roots)) ≤ pattern_count nfa
  unfolding reach
  reach-few_patterns holds roots inside =
      let n : ℕ = length nfa.states in
      few_patterns nfa (flat_map (ends nat_eq (edges nfa holds) (n + 1) none_held) roots)
      (ends_within_states nfa (accepted_sound nfa accepted) holds (n + 1) none_held roots inside)

  pub known-start : (s : ℕ) (p : Option ℕ) → s < length nfa.states → IsStateOf nfa (start_value nfa s p)
  known-start s p l =
      let xs : List ℕ = reach nfa (has (have_at_start (tables_of nfa) p)) (s ∷ []) in
      let few : length xs ≤ length nfa.states = length-reach nfa (accepted_sound nfa accepted) _ (s ∷ [])
      (λ r k. let e : s ≡ r = eqb-true s r (or_false (nat_eq s r) k) in omega arith) in record {
        resolve = start_resolves nfa accepted s p l;
        patterns = omega arith;
        states = omega (arith, few, length-without (is_capture nfa) xs);
      }

  pub known-step : (kind : MatchKind) (v : Value) (u : Option ℕ) → IsStateOf nfa v → IsStateOf nfa (step nfa kind v u)
  unfolding step
  known-step kind v u known =
      let n : ℕ = length nfa.states in
      let inside : (x : ℕ) → member nat_eq v.states x ≡ true → x < n =
      λ x m. All-contains (λ id. id < n) v.states x known.resolve
      (In_Contains same_decides v.states x (member_In same_decides v.states x m)) in
      let patterns : length (patterns_of nfa (working_list nfa v u)) ≤ pattern_count nfa =
      by_test (is_reopened nfa v u)
      (λ e. rw e (reach-few_patterns (joined (has v.look_have) (opened_by nfa v u)) (distinct_states v)
      (fresh_below n v.states inside)))
      (λ e. rw e (few_patterns nfa v.states inside)) in
      let entered : List ℕ = reach nfa (has (have_after (tables_of nfa) u)) (targets nfa kind v u) in
      let few : length entered ≤ n = length-reach nfa (accepted_sound nfa accepted) _ (targets nfa kind v u)
      (targets_resolve nfa accepted kind v u) in record {
        resolve = step_resolves nfa accepted kind v u;
        patterns = omega (arith, patterns, length-read kind (patterns_of nfa (working_list nfa v u)));
        states = omega (arith, few, length-without (is_capture nfa) entered);
      }

-- the memory of a cache
pub few_bytes : (limit : ℕ) (nfa : Nfa) (states : List Value) → length states ≤ limit → Each (IsStateOf nfa) states
    → cache_bytes states ≤ most_bytes limit nfa
few_bytes limit nfa states within each =
    let m : ℕ = 26 + 8 * pattern_count nfa + 10 * length nfa.states in
    let one : (v : Value) → IsStateOf nfa v → heap_bytes v * 2 ≤ m =
    λ v known. grind (arith, spell_short v, known.patterns, known.states) in
    let sum = sum_by-le (λ v. heap_bytes v * 2) m states
    (All-weaker (IsStateOf nfa) (λ v. heap_bytes v * 2 ≤ m) one states each) in
    let more : length states * (1104 + m) ≤ limit * (1104 + m) = mul-le-mul_right (1104 + m) within in
    omega (arith, sum, more)
