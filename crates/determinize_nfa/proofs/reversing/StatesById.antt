-- The states of a reversed NFA by their ids: gathering states, the match, the start, and then those that read.
-- Main statements: laid_out, arcs-gathered, arcs-alone, arc_within, pattern_within.
-- Used by: BothWays and Validation.
-- Idea: a state that gathers has the same transitions whichever kind it is, and ids are places in a list of four parts.
use Rattle.determinize_nfa.proofs.Common.{Arc, Assertion, Bool, Fail, Free, In, In_none, List, Match, Nfa, Node, None}
use Rattle.determinize_nfa.proofs.Common.{Some, Turned, Union, [], arcs_of, arith, by_cases, cases_lt, edges_of}
use Rattle.determinize_nfa.proofs.Common.{gathered, get_or, get_or_from_slice_get, get_or_past, is_sparse_sound, length}
use Rattle.determinize_nfa.proofs.Common.{length-map, map, next_of, pattern_in, pattern_of, slice_get, sources}
use Rattle.determinize_nfa.proofs.Common.{state_at, states_of, suc, true, ℕ, ◌+◌, ◌<◌, ◌∙◌, ◌∷◌, ◌≡◌}
use Rattle.std.proofs.Math.ListN.{get_or-map}
use Rattle.determinize_below.proofs.nfas.Edges.{state_past}
use Rattle.determinize_nfa.proofs.reversing.Recorded.{alone, turned_to}
use Rattle.std.proofs.lemmas.List.{get_or-append-add, get_or_append_left}

-- a gathering state has its list of transitions, all without input, and no pattern
pub arcs-gathered : (xs : List ℕ) → arcs_of (gathered xs) ≡ map Free xs
arcs-gathered xs = grind arith

pub edges-gathered : (holds : Assertion → Bool) (xs : List ℕ) → edges_of holds (gathered xs) ≡ xs
edges-gathered holds xs = grind arith

pub pattern-gathered : (xs : List ℕ) → pattern_in (gathered xs) ≡ None
pattern-gathered xs = grind arith

-- a state with one transition has no pattern, and the target of the turned transition is s
pub arcs-alone : (a : Arc) → arcs_of (alone a) ≡ a ∷ []
arcs-alone a = grind arith

pub ascends-alone : (a : Arc) → is_sparse_sound (alone a) ≡ true
ascends-alone a = grind arith

pub pattern-alone : (a : Arc) → pattern_in (alone a) ≡ None
pattern-alone a = grind arith

pub next-turned : (s : ℕ) (a : Arc) → next_of (turned_to s a) ≡ s
next-turned s a = grind arith

-- which state is where
pub record IsLaid (backward : Nfa) (h : Turned) (n : ℕ) : Type 0 where
  pub gathers : (x : ℕ) → x < n → state_at backward x ≡ gathered (sources h x)
  pub match : state_at backward n ≡ Match 0
  pub starts : state_at backward (suc n) ≡ Union h.ends
  pub others : (i : ℕ) (node : Node) → slice_get h.rest i ≡ Some node → state_at backward (n + 2 + i) ≡ node

pub laid_out : (backward : Nfa) (h : Turned) (n : ℕ) → backward.states ≡ states_of h → length h.into ≡ n
    → IsLaid backward h n
laid_out backward h n e l = record {
  gathers = λ x k. rw e (get_or_append_left (map gathered h.into) more Fail x (omega (arith, count))
      ∙ get_or-map gathered h.into x []);
  match = after n 0 (omega arith);
  starts = after (suc n) 1 (omega arith);
  others = λ i node k. after (n + 2 + i) (suc (suc i)) (omega arith) ∙ get_or_from_slice_get h.rest i node Fail k;
}
  where
    more : List Node
    more = Match 0 ∷ Union h.ends ∷ h.rest

    count : length (map gathered h.into) ≡ n
    count = length-map h.into gathered ∙ l

    after : (x y : ℕ) → n + y ≡ x → state_at backward x ≡ get_or more y Fail
    after x y k =
        let z : length (map gathered h.into) + y ≡ x = omega (arith, count) in
        rw (e, ← z) (get_or-append-add (map gathered h.into) more y Fail)

-- an id in the list of a state is in one of the lists
pub sources_within : (h : Turned) (t y : ℕ) → In y (sources h t) → t < length h.into
sources_within h t y k = by_cases (cases_lt t (length h.into)) (λ l. l)
    (λ l. In_none y (rw (get_or_past h.into t [] l) at k))

-- an id with a pattern, or with a transition, is that of a state
module _ (nfa : Nfa) (s : ℕ) where
  pub pattern_within : (pattern : ℕ) → pattern_of nfa s ≡ Some pattern → s < length nfa.states
  pattern_within pattern e = grind (arith, state_past nfa s)

  pub arc_within : (a : Arc) → In a (arcs_of (state_at nfa s)) → s < length nfa.states
  arc_within a k = by_cases (cases_lt s (length nfa.states)) (λ l. l)
      (λ l. In_none a (rw (state_past nfa s l) at k))
