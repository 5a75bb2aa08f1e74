-- Restoring a builder from a mark.
-- Main statements: cut_back, grown_back.
-- Used by: `restore`.
-- Idea: bytes only grow, so cutting them and writing the sets is enough.
use Rattle.determinize_state.proofs.Common.{length-append, ◌≡◌, ℕ, ◌≤◌, List, ◌++◌, length, All, arith, sym, ap, ◌∙◌, take, append_assoc, take-append_seam, Value, IsValue, deltas, last_id, value_of, IsSpelled, IsBuilding, IsGrown, MAX_ID}
use Rattle.std.proofs.Math.ListN.{get_or-append}
use Rattle.determinize_state.specs.Spelling.{spell}
use Rattle.determinize_state.specs.Private.Marking.{IsMarkOf}
use Rattle.determinize_state.specs.declared.state.builders.Mark.{Mark}
use Rattle.determinize_state.proofs.encoding.Varints.{deltas-append}
use Rattle.determinize_state.proofs.building.UnfinishedBytes.{built}

-- the value of the bytes before the mark
abbrev pub kept : Value → Value → Value
kept v w = record w { states = v.states }

-- what follows the mark
encoding-grown : (v w : Value) (g : IsGrown v w) → spell w ≡ spell (kept v w) ++ deltas (last_id 0 v.states) g.states.0
unfolding spell
encoding-grown v w g = rw (g.states.1, deltas-append 0 v.states g.states.0) (simp append_assoc)

size_same : (v w : Value) → IsGrown v w → length (spell v) ≡ length (spell (kept v w))
unfolding spell
size_same v w g = rw g.patterns

-- the bytes cut to the mark
pub cut_back : (v w : Value) (bytes : List ℕ) (mark : Mark) → IsSpelled bytes → value_of bytes ≡ w → IsMarkOf mark v
    → IsGrown v w → IsBuilding (take mark.bytes bytes) mark.last × (value_of (take mark.bytes bytes) ≡ kept v w)
cut_back v w bytes mark h is m g =
    let more = deltas (last_id 0 v.states) g.states.0 in
    let valid : IsValue w = rw is at h.valid in
    let whole : bytes ≡ spell (kept v w) ++ more = sym h.spelled ∙ rw is (encoding-grown v w g) in
    let small : All (λ id. id ≤ MAX_ID) v.states =
    grind (arith, get_or-append, length-append v.states g.states.0, g.states.1, valid.state_ids) in
    built _ mark.last (kept v w) (assumption (small, valid)) m.last
    (rw (m.bytes ∙ size_same v w g) (sym (ap (take (length (spell (kept v w)))) whole
    ∙ take-append_seam (spell (kept v w)) more)))

-- the value of the mark
pub grown_back : (v w : Value) (mark : Mark) → IsMarkOf mark v → IsGrown v w
    → record (kept v w) { look_have = mark.look_have; look_need = mark.look_need } ≡ v
grown_back v w mark m g = rw (g.from_word, g.half_crlf, g.patterns, m.have, m.need)
