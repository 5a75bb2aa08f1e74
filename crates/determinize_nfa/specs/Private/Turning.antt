-- The transitions of an NFA, reversed one after another.
use Rattle.std.specs.Prelude.{◌≡◌, ◌++◌, ◌+◌, ◌∷◌, ℕ, List, [], length, nat_eq, replicate, slice_index_or, slice_set}
use Rattle.std.specs.List.{IsDistinct}
use Rattle.determinize_below.specs.Nfa.{AllResolve}
use Rattle.determinize_below.specs.Semantics.{state_at, ByteRange, Look, Match, Nfa, Node}
use Rattle.determinize_below.specs.Look.{reversed}
use Rattle.determinize_below.specs.declared.nfa.transitions.Transition.{Transition}
use Rattle.determinize_nfa.specs.Private.Arcs.{arcs_of}
use Rattle.determinize_nfa.specs.Private.Closed.{IsClosed}
use Rattle.determinize_nfa.specs.declared.arcs.Arc.{Arc}
use Rattle.determinize_nfa.specs.declared.arcs.Arc.TheVariants.{Free, Range, Test}

-- for each state the ids that it has transitions to in the reversed NFA, the states of the reversed
-- NFA that read a byte or test an assertion, and the `Match` states
pub record Turned : Type 0 where
  pub into : List (List ℕ)
  pub rest : List Node
  pub ends : List ℕ

-- the number of states of the reversed NFA
abbrev pub total : Turned → ℕ
total h = length h.into + 2 + length h.rest

-- the ids that a state has transitions to in the reversed NFA
abbrev pub sources : Turned → ℕ → List ℕ
sources h t = slice_index_or h.into t []

-- the transition from a state to an id, in the reversed NFA
abbrev pub added : Turned → ℕ → ℕ → Turned
added h t y = record {
  into = slice_set h.into t (sources h t ++ y ∷ []);
  rest = h.rest;
  ends = h.ends;
}

-- a state that reads a byte or tests an assertion, and the transition to it
abbrev pub with_state : Turned → ℕ → Node → Turned
with_state h t node = record {
  into = slice_set h.into t (sources h t ++ (length h.into + 2 + length h.rest) ∷ []);
  rest = h.rest ++ node ∷ [];
  ends = h.ends;
}

-- the transition back to s over the bytes of another
abbrev pub range_to : ℕ → Transition → Node
range_to s r = ByteRange record { start = r.start; end = r.end; next = s }

-- a transition from s, reversed
abbrev pub with_arc : Turned → ℕ → Arc → Turned
with_arc h s (Range r) = with_state h r.next (range_to s r)
with_arc h s (Test look next) = with_state h next (Look (reversed look) s)
with_arc h s (Free next) = added h next s

-- the transitions from s, reversed
abbrev pub with_arcs : Turned → ℕ → List Arc → Turned
with_arcs h s [] = h
with_arcs h s (arc ∷ arcs) = with_arcs (with_arc h s arc) s arcs

-- a state with a pattern
abbrev pub with_end : Turned → ℕ → Node → Turned
with_end h s (Match pattern) = record { into = h.into; rest = h.rest; ends = h.ends ++ s ∷ [] }
with_end h s _ = h

-- the transitions of a state, reversed, and the state itself if it has a pattern
abbrev pub with_reversed : Turned → ℕ → Node → Turned
with_reversed h s node = with_end (with_arcs h s (arcs_of node)) s node

-- the transitions of the states of a list, reversed
abbrev pub with_all_reversed : Nfa → Turned → List ℕ → Turned
with_all_reversed nfa h [] = h
with_all_reversed nfa h (s ∷ ss) = with_all_reversed nfa (with_reversed h s (state_at nfa s)) ss

-- no transition yet
abbrev pub none_turned : ℕ → Turned
none_turned count = record { into = replicate count []; rest = []; ends = [] }

-- all that the states of a list make of an NFA
abbrev pub turned_over : Nfa → List ℕ → Turned
turned_over nfa met = with_all_reversed nfa
    (added (none_turned (length nfa.states)) nfa.start_anchored (length nfa.states)) met

-- they are those of a list that has each state once that the anchored start reaches
pub record IsTurnedOver (nfa : Nfa) (turned : Turned) : Type 0 where
  pub met : List ℕ
  pub closed : IsClosed nfa met
  pub below : AllResolve nfa met
  pub distinct : IsDistinct nat_eq met
  pub is : turned_over nfa met ≡ turned
  pub count : length turned.into ≡ length nfa.states
