-- The loop of the validation: the states of an NFA one by one, with the set of the patterns seen.
-- Main statements: states_failure-turn, seen-turn.
-- Used by: `check_states`.
-- Idea: the first error of a list is that of its first state, or that of the rest.
use Rattle.determinize_below.proofs.Common.{length-map, list_any_more, ap, arith, Bool, drop, get_or, is_match_of, length, List, list_any, map, Node, slice_get, Some, states_failure, sym, take, ℕ, ◌+◌, ◌<◌, ◌||◌, ◌∙◌, ◌≡◌, option_or, drop-cons, take_more, repeats, failure_of, slice_get-map, slice_get-get_or, option_map, Option}
use Rattle.std.proofs.Common.{add-one}
use Rattle.std.proofs.Math.ListN.{get_or-map}
use Rattle.determinize_below.specs.declared.nfa.BuildError.{BuildError}

-- equal sets of seen patterns give the same test
repeats-same : (f g : ℕ → Bool) (node : Node) → ((q : ℕ) → f q ≡ g q) → repeats f node ≡ repeats g node
repeats-same f g node h = grind arith

module _ {S : Type 0} (f : S → Node) (states : List S) (i : ℕ) (x : S) (within : i < length states)
    (at : x ≡ get_or states i x) (seen : ℕ → Bool)
    (h : (q : ℕ) → seen q ≡ list_any (is_match_of q) (take i (map f states))) where
  in_nodes : i < length (map f states)
  in_nodes = omega (arith, length-map states f)

  read : get_or (map f states) i (f x) ≡ f x
  read = get_or-map f states i x ∙ ap f (sym at)

  -- the first error from the current state on is its own, by the patterns seen, or that of the rest
  pub states_failure-turn : (count : ℕ) (o : Option BuildError) → failure_of count (repeats seen (f x)) i (f x) ≡ o
      → states_failure count (take i (map f states)) i (drop i (map f states))
      ≡ option_or o (states_failure count (take (i + 1) (map f states)) (i + 1) (drop (i + 1) (map f states)))
  states_failure-turn count o e =
      rw (
        drop-cons (map f states) i (f x) in_nodes,
        take_more (map f states) i (f x) in_nodes,
        read,
        ← e,
        repeats-same seen (λ q. list_any (is_match_of q) (take i (map f states))) (f x) h,
        add-one i,
      )

  -- the patterns seen, with that of the current state
  pub seen-turn : (new : ℕ → Bool) → ((q : ℕ) → new q ≡ (is_match_of q (f x) || seen q))
      → (q : ℕ) → new q ≡ list_any (is_match_of q) (take (i + 1) (map f states))
  seen-turn new k q =
      grind (arith, read, k q, h q, list_any_more (is_match_of q) (map f states) i (f x) in_nodes)

-- reading an element of a mapped list
pub slice_get-map_read : {A B : Type 0} (f : A → B) (xs : List A) (i : ℕ) (x : A) → i < length xs → x ≡ get_or xs i x
    → slice_get (map f xs) i ≡ Some (f x)
slice_get-map_read f xs i x h e =
    slice_get-map f xs i ∙ ap (λ o. option_map f o) (slice_get-get_or xs i x h) ∙ ap (λ y. Some (f y)) (sym e)
