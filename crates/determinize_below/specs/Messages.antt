-- The texts that the errors print.
use Rattle.std.specs.Prelude.{ℕ, List, ◌++◌, codes, decimal}
use Rattle.determinize_below.specs.declared.nfa.BuildError.{BuildError}
use Rattle.determinize_below.specs.declared.nfa.BuildError.TheVariants.{TooManyStates, UnresolvedStart, UnresolvedId, BadSparse, BadDense, RepeatedPattern, NotPatchable, OutOfMemory}

-- the text of a `StateIDError`
abbrev pub state_id_message : ℕ → List ℕ
state_id_message n = decimal n ++ codes " is too large for the id of a state"

-- the text of a `PatternIDError`
abbrev pub pattern_id_message : ℕ → List ℕ
pattern_id_message n = decimal n ++ codes " is too large for the id of a pattern"

-- the text of a `BuildError`
abbrev pub build_message : BuildError → List ℕ
build_message TooManyStates = codes "more than 2147483647 states"
build_message UnresolvedStart = codes "no state has the start id"
build_message (UnresolvedId i) = codes "state " ++ decimal i ++ codes " leads to no state"
build_message (BadSparse i) = codes "state " ++ decimal i ++ codes " has a range out of order"
build_message (BadDense i) = codes "state " ++ decimal i ++ codes " has not 256 targets"
build_message (RepeatedPattern i) = codes "state " ++ decimal i ++ codes " repeats a pattern"
build_message (NotPatchable i) = codes "state " ++ decimal i ++ codes " has no target to set"
build_message OutOfMemory = codes "out of memory"
