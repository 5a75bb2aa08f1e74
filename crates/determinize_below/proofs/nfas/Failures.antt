-- Which error validation finds first, by the number of states and the start ids.
-- Main statements: too_many, no_start, after_starts, few_states.
-- Used by: `NFA::from_parts`, `NFA::len`.
-- Idea: the tests of `failure` are decided one after another.
use Rattle.determinize_below.proofs.Common.{None, nat_tests, ◌≡◌, ◌<◌, ◌≤◌, ◌⊎◌, ◌∙◌, ℕ, List, Node, Some, [], and-false, arith, by_cases, false, length, length-map, lt-ltb, map, nat_lt, refl, states_failure, sym}
use Rattle.std.proofs.lemmas.Bool.{le-ltb}
use Rattle.determinize_below.specs.Nfa.{failure}
use Rattle.determinize_below.specs.declared.nfa.BuildError.TheVariants.{TooManyStates, UnresolvedStart}
use Rattle.determinize_below.specs.declared.primitives.TheConstants.{ID_LIMIT}

-- a list of which each element is a state
module _ {V : Type 0} (f : V → Node) (items : List V) (count a u : ℕ) (n : count ≡ length items) where
  same : count ≡ length (map f items)
  same = n ∙ sym (length-map items f)

  pub too_many : ID_LIMIT < count → failure (map f items) a u ≡ Some TooManyStates
  too_many l = rw (lt-ltb ID_LIMIT (length (map f items)) (omega (arith, same, l))) refl

  module _ (l : count ≤ ID_LIMIT) where
    few : nat_lt ID_LIMIT (length (map f items)) ≡ false
    few = le-ltb ID_LIMIT (length (map f items)) (omega (arith, same, l))

    pub no_start : (count ≤ a) ⊎ (count ≤ u) → failure (map f items) a u ≡ Some UnresolvedStart
    no_start d = by_cases d
        (λ k. rw (few, le-ltb a (length (map f items)) (omega (arith, same, k))) refl)
        (λ k. rw (few, le-ltb u (length (map f items)) (omega (arith, same, k)), and-false) refl)

    pub after_starts : a < count → u < count → (slice : List V) → slice ≡ items
        → failure (map f items) a u ≡ states_failure (length slice) [] 0 (map f slice)
    after_starts k j slice e =
        rw (
          few,
          lt-ltb a (length (map f items)) (omega (arith, same, k)),
          lt-ltb u (length (map f items)) (omega (arith, same, j)),
          e,
          length-map items f,
        ) refl

-- where validation finds no error
pub few_states : (nodes : List Node) (a u : ℕ) → failure nodes a u ≡ None → length nodes ≤ ID_LIMIT
few_states nodes a u e = grind (arith, nat_tests, e)
