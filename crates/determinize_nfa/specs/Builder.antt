-- What a `Builder` is seen as, and what its calls do to that.
use Rattle.std.specs.Prelude.{◌≡◌, ◌<◌, ◌≤◌, ◌+◌, ◌++◌, ◌∷◌, ◌⊎◌, ◌||◌, ℕ, Bool, List, Some, [], false, length, nat_eq, slice_index_or, slice_set, suc, true}
use Rattle.determinize_below.specs.Semantics.{Nfa, Node, BinaryUnion, ByteRange, Capture, Fail, Look, Match, Union}
use Rattle.determinize_below.specs.Nfa.{failure, looks_of}
use Rattle.determinize_below.specs.declared.nfa.BuildError.{BuildError}
use Rattle.determinize_below.specs.declared.nfa.BuildError.TheVariants.{NotPatchable, OutOfMemory, UnresolvedId, UnresolvedStart}
use Rattle.determinize_nfa.specs.Prefix.{leads_to}

-- the states by their ids, the number of patterns, and the line terminator
pub record BuilderValue : Type 0 where
  pub states : List Node
  pub patterns : ℕ
  pub terminator : ℕ

-- with one more state
abbrev pub with_node : BuilderValue → Node → BuilderValue
with_node b node = record b { states = b.states ++ node ∷ [] }

-- with the match state of one more pattern
abbrev pub with_match : BuilderValue → BuilderValue
with_match b = record {
  states = b.states ++ Match b.patterns ∷ [];
  patterns = b.patterns + 1;
  terminator = b.terminator;
}

-- a state with the id as its target, and a union with the id as its last alternate
abbrev pub redirected : ℕ → Node → Node
redirected to (ByteRange t) = ByteRange record { start = t.start; end = t.end; next = to }
redirected to (Look look next) = Look look to
redirected to (Union ids) = Union (ids ++ to ∷ [])
redirected to (Capture next) = Capture to
redirected to node = node

-- with one state that has another target
abbrev pub patched : BuilderValue → ℕ → ℕ → BuilderValue
patched b from to = record b {
  states = slice_set b.states from (redirected to (slice_index_or b.states from Fail));
}

-- whether a state is a union, or has one target
abbrev pub is_patchable : Node → Bool
is_patchable (ByteRange t) = true
is_patchable (Look look next) = true
is_patchable (Union ids) = true
is_patchable (Capture next) = true
is_patchable node = false

-- whether a state is a union without alternates
abbrev pub is_place : Node → Bool
is_place (Union ids) = nat_eq (length ids) 0
is_place node = false

-- with these alternates of a union
abbrev pub closed : BuilderValue → ℕ → List ℕ → BuilderValue
closed b union ids = record b { states = slice_set b.states union (Union ids) }

-- the state cannot be set, or an allocation failed
abbrev pub IsNotSet : Bool → ℕ → BuildError → Type 0
IsNotSet can s e = ((can ≡ false) × (e ≡ NotPatchable s)) ⊎ (e ≡ OutOfMemory)

-- the NFA of the states, which reads forward
abbrev pub built : BuilderValue → ℕ → ℕ → Nfa
built b anchored unanchored = record {
  states = b.states;
  start_anchored = anchored;
  start_unanchored = unanchored;
  reverse = false;
  terminator = b.terminator;
  look_set_any = looks_of b.states;
}

-- with the usual prefix of a start as the last two states
abbrev pub prefixed : BuilderValue → ℕ → BuilderValue
prefixed b start = record b {
  states = b.states ++ BinaryUnion start (suc (length b.states))
      ∷ ByteRange record { start = 0; end = 255; next = length b.states } ∷ [];
}

-- whether a state has a transition to one of two
abbrev pub has_transition_to : ℕ → ℕ → Node → Bool
has_transition_to id other node = leads_to id node || leads_to other node

-- no state that was added has a transition to the two states of the prefix
pub record IsApart (b : BuilderValue) : Type 0 where
  pub union : (s : ℕ) → s < length b.states
      → leads_to (length b.states) (slice_index_or b.states s Fail) ≡ false
  pub skip : (s : ℕ) → s < length b.states
      → leads_to (suc (length b.states)) (slice_index_or b.states s Fail) ≡ false

-- a start, or the target of a state, is not a state that was added
abbrev pub IsAhead : BuilderValue → ℕ → BuildError → Type 0
IsAhead b start e =
    ((e ≡ UnresolvedStart) × (length b.states ≤ start))
    ⊎ ((i : ℕ) × (id : ℕ) × (e ≡ UnresolvedId i) × (length b.states ≤ id)
    × (leads_to id (slice_index_or b.states i Fail) ≡ true))

-- what is wrong with the states and the prefix, or that an allocation failed
abbrev pub IsUnfit : BuilderValue → ℕ → BuildError → Type 0
IsUnfit b start e =
    (failure (prefixed b start).states start (length b.states) ≡ Some e)
    ⊎ (IsAhead b start e ⊎ (e ≡ OutOfMemory))
