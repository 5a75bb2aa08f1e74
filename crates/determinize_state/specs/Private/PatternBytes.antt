-- Adding a flag or a pattern to the bytes of a state.
use Rattle.std.specs.Prelude.{ℕ, ◌+◌, List, ◌++◌, nat_eq, bit_or, slice_index, slice_set, if◌then◌else◌}
use Rattle.determinize_state.specs.Spelling.{has_flag, number_at, with_word, word}
use Rattle.determinize_state.specs.declared.state.bytes.TheConstants.{COUNT, EXPLICIT, MATCH}

-- the bytes with this flag set in the first
abbrev pub with_bit : List ℕ → ℕ → List ℕ
with_bit bytes weight = slice_set bytes 0 (bit_or (slice_index bytes 0) weight)

-- bytes without NFA states with one more pattern
abbrev pub with_pattern_bytes : List ℕ → ℕ → List ℕ
with_pattern_bytes bytes id =
    if has_flag bytes EXPLICIT then with_word (bytes ++ word id) COUNT (number_at bytes COUNT + 1)
    else (if has_flag bytes MATCH then with_bit (bytes ++ (word 2 ++ word 0 ++ word id)) EXPLICIT
    else (if nat_eq id 0 then with_bit bytes MATCH
    else with_bit (bytes ++ (word 1 ++ word id)) (MATCH + EXPLICIT)))
