-- The length of an encoding.
-- Main statements: spell_short.
-- Used by: `State::memory_usage`, `write_groups`.
-- Idea: each part has at most five bytes for each number.
use Rattle.determinize_state.proofs.Common.{ℕ, ◌+◌, ◌*◌, ◌/◌, ◌≤◌, List, [], ◌∷◌, length, suc, zero, arith, lit≤, length-append, Value, groups, zigzag, deltas, words}
use Rattle.determinize_state.specs.Varint.{varint}
use Rattle.determinize_state.specs.Spelling.{spell}
use Rattle.determinize_state.proofs.encoding.RoundTrip.{length-words}

groups_short : (more n : ℕ) → length (groups more n) ≤ suc more
groups_short zero n = lit≤ tt
groups_short (suc more) n = grind (arith, groups_short more (n / 128))

pub varint_short : (n : ℕ) → length (varint n) ≤ 5
unfolding varint
varint_short n = groups_short 4 n

deltas_short : (from : ℕ) (ids : List ℕ) → length (deltas from ids) ≤ 5 * length ids
deltas_short from [] = lit≤ tt
deltas_short from (id ∷ ids) =
    let size = length-append (varint (zigzag from id)) (deltas id ids) in
    omega (arith, size, varint_short (zigzag from id), deltas_short id ids)

-- nine bytes, at most four plus four per pattern, and at most five per NFA state
pub spell_short : (v : Value) → length (spell v) ≤ 13 + 4 * length v.patterns + 5 * length v.states
unfolding spell
spell_short v =
    let size = length-append (words v.patterns) (deltas 0 v.states) in
    grind (arith, size, length-words v.patterns, deltas_short 0 v.states)
