-- The states of the program as data.
use Rattle.std.specs.Prelude.{Bool, true, false}
use Rattle.determinize_below.specs.declared.nfa.state.State.{State}
use Rattle.determinize_below.specs.declared.nfa.state.State.TheVariants as states
use Rattle.determinize_below.specs.Semantics.{Node, ByteRange, Sparse, Dense, Look, Union, BinaryUnion, Capture, Fail, Match}

-- the state of the program as data
abbrev pub node_of : {A : Type 0} → State A → Node
node_of (states.ByteRange t) = ByteRange t
node_of (states.Sparse ts) = Sparse ts
node_of (states.Dense ids) = Dense ids
node_of (states.Look look next) = Look look next
node_of (states.Union alternates) = Union alternates.items
node_of (states.BinaryUnion a b) = BinaryUnion a b
node_of (states.Capture next) = Capture next
node_of states.Fail = Fail
node_of (states.Match pattern) = Match pattern

-- whether the state has epsilon transitions
abbrev pub is_epsilon : Node → Bool
is_epsilon (Look look next) = true
is_epsilon (Union alternates) = true
is_epsilon (BinaryUnion a b) = true
is_epsilon (Capture next) = true
is_epsilon _ = false
