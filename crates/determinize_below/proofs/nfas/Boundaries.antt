-- Marks at the bytes where a target changes, and states with the same target on two bytes.
-- Main statements: sparse_target-push, ranges_more, read_at, all_states.
-- Used by: `mark_ranges`, `NFA::mark_changes`, SortedRanges, Partitions.
-- Idea: the first range that contains a byte is among the ranges so far, or it is the next one.
use Rattle.determinize_below.proofs.Common.{arith, [], Bool, by_cases, cases_lt, Fail, get_or, length, List, Nfa, Node, None, refl, slice_get, Some, state_at, take, target_of, Transition, ℕ, ◌++◌, ◌+◌, ◌<◌, ◌∷◌, ◌≡◌, cond, option_or, take_more, get_or_from_slice_get, MarksChanges, matches, sparse_target}
use Rattle.determinize_below.proofs.nfas.Edges.{state_past}
use Rattle.determinize_below.specs.Semantics.{within}

-- the target of some ranges and one more
pub sparse_target-push : (ts : List Transition) (t : Transition) (b : ℕ)
    → sparse_target (ts ++ t ∷ []) b ≡ option_or (sparse_target ts b) (cond (matches t b) (Some t.next) None)
sparse_target-push [] t b = grind arith
sparse_target-push (x ∷ ts) t b = grind (arith, sparse_target-push ts t b)

-- the marks of some ranges, and then those of the next one
pub ranges_more : (ts : List Transition) (i : ℕ) (t : Transition) (old mid new : List Bool)
    → i < length ts → t ≡ get_or ts i t
    → MarksChanges (sparse_target (take i ts)) old mid → MarksChanges (matches t) mid new
    → MarksChanges (sparse_target (take (i + 1) ts)) old new
ranges_more ts i t old mid new within is first next = record {
  was = λ b h. first.was b (next.was b h);
  same = λ b low h.
      cc (at b, at (b + 1), first.same b low (next.was (b + 1) h), next.same b low h);
}
  where
    at : (b : ℕ) → sparse_target (take (i + 1) ts) b
        ≡ option_or (sparse_target (take i ts) b) (cond (matches t b) (Some t.next) None)
    at b = grind (arith, take_more ts i t within, is, sparse_target-push (take i ts) t b)

-- a state that was read, in the NFA
pub read_at : (nfa : Nfa) (i j : ℕ) (n : Node) (b c : ℕ) → j ≡ i → slice_get nfa.states j ≡ Some n
    → target_of (Some b) n ≡ target_of (Some c) n
    → target_of (Some b) (state_at nfa i) ≡ target_of (Some c) (state_at nfa i)
read_at nfa i j n b c index there same = grind (arith, get_or_from_slice_get nfa.states j n Fail there)

-- all states of the NFA, and ids out of range
pub all_states : (nfa : Nfa) (b c : ℕ) → ((s : ℕ) → s < length nfa.states
    → target_of (Some b) (state_at nfa s) ≡ target_of (Some c) (state_at nfa s))
    → (s : ℕ) → target_of (Some b) (state_at nfa s) ≡ target_of (Some c) (state_at nfa s)
all_states nfa b c same s = by_cases (cases_lt s (length nfa.states)) (same s)
    (λ l. let past = state_past nfa s l in rw past refl)
