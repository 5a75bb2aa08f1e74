-- The transitions of a state of any kind, in one list.
use Rattle.std.specs.Prelude.{◌≡◌, ◌∷◌, ℕ, List, None, Option, Some, [], cond, drop, map, nat_eq, suc}
use Rattle.determinize_below.specs.Semantics.{Node, BinaryUnion, ByteRange, Capture, Dense, Look, Sparse, Union}
use Rattle.determinize_below.specs.declared.nfa.transitions.Transition.{Transition}
use Rattle.determinize_nfa.specs.Reversal.{is_first}
use Rattle.determinize_nfa.specs.declared.arcs.Arc.{Arc}
use Rattle.determinize_nfa.specs.declared.arcs.Arc.TheVariants.{Free, Range, Test}

-- with the range from byte a to byte b of a table, if it has a target there
abbrev pub with_run : ℕ → ℕ → ℕ → List Transition → List Transition
with_run a b id rs = cond (nat_eq id 0) rs (record { start = a; end = b; next = id } ∷ rs)

-- the ranges of a table from byte b on, one for each run of bytes with one target; the first run
-- begins at byte a
abbrev pub runs : ℕ → ℕ → List ℕ → List Transition
runs a b [] = []
runs a b (id ∷ ids) = cond (is_first id ids)
    (runs a (suc b) ids)
    (with_run a b id (runs (suc b) (suc b) ids))

-- the transitions of a state, in order; of a table one for each run of bytes with one target
abbrev pub arcs_of : Node → List Arc
arcs_of (ByteRange r) = Range r ∷ []
arcs_of (Sparse rs) = map Range rs
arcs_of (Dense ids) = map Range (runs 0 0 ids)
arcs_of (Look look next) = Test look next ∷ []
arcs_of (Union ids) = map Free ids
arcs_of (BinaryUnion a b) = Free a ∷ Free b ∷ []
arcs_of (Capture next) = Free next ∷ []
arcs_of _ = []

-- the target
abbrev pub next_of : Arc → ℕ
next_of (Range r) = r.next
next_of (Test look next) = next
next_of (Free next) = next

-- the targets of a state
abbrev pub targets_in : Node → List ℕ
targets_in node = map next_of (arcs_of node)

-- the transitions from an index on; in a table an index is a byte
abbrev pub arcs_from : ℕ → Node → List Arc
arcs_from k (Dense ids) = map Range (runs k k (drop k ids))
arcs_from k node = drop k (arcs_of node)

-- the first of what is left at an index, and the index after it
abbrev pub IsFirstOf : (ℕ → List Arc) → ℕ → Option (Arc × ℕ) → Type 0
IsFirstOf left k None = left k ≡ []
IsFirstOf left k (Some (arc, after)) = left k ≡ arc ∷ left after
