-- The loop of a table: a state with a transition to itself over the bytes that are not in a set.
-- Main statements: staying-all, staying-less, byte-small.
-- Used by: the proofs of `leaving` and `scan`.
-- Idea: a byte is taken out of the set where the state has a transition to itself over it, so each other byte is in it.
use Rattle.determinize_table.proofs.Common.{arith, Bool, by_cases, false, length, List, refl, replicate, slice_get_within}
use Rattle.determinize_table.proofs.Common.{get_or_from_slice_get, slice_index, slice_set, Some, Table, true, Value, ℕ, ◌<◌, ◌≡◌}
use Rattle.std.proofs.lemmas.Bool.{cases_eq}
use Rattle.std.proofs.lemmas.List.{get_or-replicate, get_or-set_other}
use Rattle.std.proofs.lemmas.List.Elements.{All-get_or}
use Rattle.std.specs.Prelude.{All}
use Rattle.determinize_below.specs.Semantics.{Text}
use Rattle.determinize_below.specs.Truth.{IsUnit}
use Rattle.determinize_core.specs.Chain.{units}
use Rattle.determinize_engine.proofs.Texts.{unit-byte, unit-here}
use Rattle.determinize_table.specs.Looping.{IsLoopOver, IsLoopOutside}

-- no byte is missing in the set of all
pub staying-all : (t : Table) (v : Value) → IsLoopOutside t v (replicate 256 true)
staying-all t v byte few none = absurd (grind (arith, none, get_or-replicate {A = Bool} 256 byte true false few))

-- the set without a byte over which the state has a transition to itself
pub staying-less : (t : Table) (v : Value) (leaving : List Bool) (byte : ℕ) → IsLoopOutside t v leaving
    → IsLoopOver t v byte → IsLoopOutside t v (slice_set leaving byte false)
staying-less t v leaving byte staying over b few none = by_cases (cases_eq b byte) (λ same. rw same over)
    (λ apart. staying b few (grind (arith, none, get_or-set_other leaving byte b false false apart)))

-- a byte of a text
pub byte-small : (text : Text) → All IsUnit (units text) → (k : ℕ) → k < length text.bytes
    → slice_index text.bytes k < 256
byte-small text all k inside =
    let b : ℕ = slice_index text.bytes k in
    let at = unit-here text k b (unit-byte text.bytes k b inside refl) in
    rw (get_or_from_slice_get (units text) k (Some b) (Some b) at) at
    (All-get_or IsUnit (units text) k (Some b) (slice_get_within (units text) k (Some b) at) all)
