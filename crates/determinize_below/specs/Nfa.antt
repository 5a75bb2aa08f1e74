-- The validation of the parts of an NFA.
use Rattle.std.specs.Prelude.{◌≡◌, ℕ, ◌+◌, ◌<◌, All, Bool, true, false, not, Option, Some, None, List, [], ◌∷◌, ◌++◌, nat_lt, nat_eq, length, if◌then◌else◌}
use mathlib.Core.Bool.{◌&&◌}
use Rattle.std.specs.List.{list_all, list_any}
use Rattle.std.specs.Option.{option_or}
use Rattle.determinize_below.specs.Semantics.{Nfa, Node, ByteRange, Sparse, Dense, Look, Union, BinaryUnion, Capture, Fail, Match}
use Rattle.determinize_below.specs.Transition.{is_ascending}
use Rattle.determinize_below.specs.Look as looks
use Rattle.determinize_below.specs.declared.nfa.BuildError.{BuildError}
use Rattle.determinize_below.specs.declared.nfa.BuildError.TheVariants as errors
use Rattle.determinize_below.specs.declared.primitives.TheConstants.{ID_LIMIT}

-- whether each id in the state is below the number of states
abbrev pub resolves : ℕ → Node → Bool
resolves count (ByteRange t) = nat_lt t.next count
resolves count (Sparse ts) = list_all (λ t. nat_lt t.next count) ts
resolves count (Dense ids) = list_all (λ id. nat_lt id count) ids
resolves count (Look look next) = nat_lt next count
resolves count (Union ids) = list_all (λ id. nat_lt id count) ids
resolves count (BinaryUnion a b) = nat_lt a count && nat_lt b count
resolves count (Capture next) = nat_lt next count
resolves count Fail = true
resolves count (Match pattern) = true

-- the ids are below the number of states
abbrev pub AllResolve : Nfa → List ℕ → Type 0
AllResolve nfa ids = All (λ id. id < length nfa.states) ids

-- whether the ranges of a sparse state are sorted, not empty and do not overlap
abbrev pub is_sparse_sound : Node → Bool
is_sparse_sound (Sparse ts) = is_ascending ts
is_sparse_sound _ = true

-- whether a dense state has 256 targets
abbrev pub is_dense_sound : Node → Bool
is_dense_sound (Dense ids) = nat_eq (length ids) 256
is_dense_sound _ = true

-- whether the state is a `Match` of the pattern
abbrev pub is_match_of : ℕ → Node → Bool
is_match_of pattern (Match other) = nat_eq pattern other
is_match_of pattern _ = false

-- whether the state is a `Match` of a pattern that was seen before
abbrev pub repeats : (ℕ → Bool) → Node → Bool
repeats seen (Match pattern) = seen pattern
repeats seen _ = false

-- whether an earlier state is a `Match` of the same pattern
abbrev pub is_repeated : List Node → Node → Bool
is_repeated earlier node = repeats (λ pattern. list_any (is_match_of pattern) earlier) node

-- the first error of the state at `index`, given whether it repeats a pattern
abbrev pub failure_of : ℕ → Bool → ℕ → Node → Option BuildError
failure_of count repeated index node =
    if not (resolves count node) then Some (errors.UnresolvedId index)
    else (if not (is_sparse_sound node) then Some (errors.BadSparse index)
    else (if not (is_dense_sound node) then Some (errors.BadDense index)
    else (if repeated then Some (errors.RepeatedPattern index) else None)))

-- the first error of the state at `index`, given the earlier states
abbrev pub state_failure : ℕ → List Node → ℕ → Node → Option BuildError
state_failure count earlier index node = failure_of count (is_repeated earlier node) index node

-- the first error of the states from `index` on
abbrev pub states_failure : ℕ → List Node → ℕ → List Node → Option BuildError
states_failure count earlier index [] = None
states_failure count earlier index (node ∷ rest) =
    option_or (state_failure count earlier index node)
    (states_failure count (earlier ++ node ∷ []) (index + 1) rest)

-- the first error of all
abbrev pub failure : List Node → ℕ → ℕ → Option BuildError
failure states anchored unanchored =
    if nat_lt ID_LIMIT (length states) then Some errors.TooManyStates
    else (if not (nat_lt anchored (length states) && nat_lt unanchored (length states))
    then Some errors.UnresolvedStart
    else states_failure (length states) [] 0 states)

-- the set with the assertion of the state added
abbrev pub with_look : ℕ → Node → ℕ
with_look set (Look look next) = looks.insert set look
with_look set _ = set

-- the set with the assertions of all the states added
abbrev pub with_looks_of : ℕ → List Node → ℕ
with_looks_of set [] = set
with_looks_of set (node ∷ rest) = with_looks_of (with_look set node) rest

-- the set of the assertions of the states
abbrev pub looks_of : List Node → ℕ
looks_of states = with_looks_of 0 states

-- the NFA is valid: validation finds no error, and the assertion set is that of the states
pub record IsAccepted (nfa : Nfa) : Type 0 where
  pub passes : failure nfa.states nfa.start_anchored nfa.start_unanchored ≡ None
  pub looks : nfa.look_set_any ≡ looks_of nfa.states
