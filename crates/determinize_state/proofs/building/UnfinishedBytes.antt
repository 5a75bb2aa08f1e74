-- The bytes of a state that is being built.
-- Main statements: built, have_written, state_written, built_zeros.
-- Used by: the calls of the builders, `State::dead`, RestoredMarks, AddedPatterns.
-- Idea: the bytes are a header and a list that grows at its end.
use Rattle.determinize_state.proofs.Common.{◌≡◌, ℕ, true, ◌<◌, ◌≤◌, List, [], ◌∷◌, ◌++◌, refl, arith, sym, ap, ◌∙◌, append-nil, append_assoc, subst, All-push, Value, IsValue, dead, with_state, varint, zigzag, last_id, with_word, value_of, IsSpelled, with_bit, IsBuilding, MAX_ID, FROM_WORD, HALF_CRLF, LOOK_HAVE, LOOK_NEED}
use Rattle.determinize_state.specs.Spelling.{spell}
use Rattle.determinize_state.proofs.encoding.Varints.{deltas-append}
use Rattle.determinize_state.proofs.encoding.ReadBytes.{laid_out_in}
use Rattle.determinize_state.proofs.values.TestedSets.{insert-had}
use Rattle.determinize_state.proofs.encoding.RoundTrip.{dead_valid, value_of-spell, spelled}

-- the bytes are the encoding of this value
abbrev pub Encodes : List ℕ → Value → Type 0
Encodes bytes v = IsSpelled bytes × (value_of bytes ≡ v)

-- the encoding of a value has this value
pub respelled : (bytes : List ℕ) (v : Value) → IsValue v → spell v ≡ bytes → Encodes bytes v
respelled bytes v h e = (subst IsSpelled e (spelled v h), ap value_of (sym e) ∙ value_of-spell v h)

pub built : (bytes : List ℕ) (last : ℕ) (v : Value) → IsValue v → last ≡ last_id 0 v.states → spell v ≡ bytes →
    IsBuilding bytes last × (value_of bytes ≡ v)
built bytes last v h ends e =
    let back = respelled bytes v h e in (record { is = back.0; last = rw back.1 ends }, back.1)

-- a change of the bytes that is one of the value
changed : {bytes : List ℕ} (change : List ℕ → List ℕ) (v : Value) → IsSpelled bytes → IsValue v
    → spell v ≡ change (spell (value_of bytes)) → Encodes (change bytes) v
changed change v h valid e = respelled _ v valid (e ∙ ap change h.spelled)

pub have_written : (bytes : List ℕ) (set : ℕ) → IsSpelled bytes → set < 262144
    → Encodes (with_word bytes LOOK_HAVE set) (record (value_of bytes) { look_have = set })
unfolding spell
have_written bytes set h small =
    changed (λ b. with_word b LOOK_HAVE set) (record (value_of bytes) { look_have = set }) h
    (assumption (small, h.valid)) refl

pub need_written : (bytes : List ℕ) (set : ℕ) → IsSpelled bytes → set < 262144
    → Encodes (with_word bytes LOOK_NEED set) (record (value_of bytes) { look_need = set })
unfolding spell
need_written bytes set h small =
    changed (λ b. with_word b LOOK_NEED set) (record (value_of bytes) { look_need = set }) h
    (assumption (small, h.valid)) refl

pub from_word_set : (bytes : List ℕ) → IsSpelled bytes
    → Encodes (with_bit bytes FROM_WORD) (record (value_of bytes) { from_word = true })
unfolding spell
from_word_set bytes h =
    changed (λ b. with_bit b FROM_WORD) (record (value_of bytes) { from_word = true }) h
    (assumption h.valid) (grind arith)

pub half_crlf_set : (bytes : List ℕ) → IsSpelled bytes
    → Encodes (with_bit bytes HALF_CRLF) (record (value_of bytes) { half_crlf = true })
unfolding spell
half_crlf_set bytes h =
    changed (λ b. with_bit b HALF_CRLF) (record (value_of bytes) { half_crlf = true }) h
    (assumption h.valid) (grind arith)

-- after a change that keeps the NFA states the bytes are those of a state that is being built
pub still_building : {bytes after changed : List ℕ} {last : ℕ} {v : Value} → IsBuilding bytes last → after ≡ changed
    → Encodes changed v → v.states ≡ (value_of bytes).states → IsBuilding after last
still_building h e to same = rw e (record { is = to.0; last = rw (to.1, same) h.last })

spell-pushed : (v : Value) (id : ℕ) → spell (with_state v id) ≡ spell v ++ varint (zigzag (last_id 0 v.states) id)
unfolding spell
spell-pushed v id = simp (deltas-append 0 v.states (id ∷ []), append_assoc, append-nil)

pub last-push : (from : ℕ) (ids : List ℕ) (id : ℕ) → last_id from (ids ++ id ∷ []) ≡ id
last-push from [] id = refl
last-push from (i ∷ ids) id = last-push i ids id

pub state_written : (bytes : List ℕ) (from id : ℕ) → IsBuilding bytes from → id ≤ MAX_ID
    → Encodes (bytes ++ varint (zigzag from id)) (with_state (value_of bytes) id)
state_written bytes from id h small =
    let v : Value = value_of bytes in
    let all = All-push (λ k. k ≤ MAX_ID) v.states id h.is.valid.state_ids small in
    respelled _ (with_state v id) (assumption (all, h.is.valid)) (spell-pushed v id ∙ rw (h.is.spelled, h.last))

-- nine zero bytes are the encoding of the dead value
pub built_zeros : IsBuilding (0 ∷ 0 ∷ 0 ∷ 0 ∷ 0 ∷ 0 ∷ 0 ∷ 0 ∷ 0 ∷ []) 0
    × (value_of (0 ∷ 0 ∷ 0 ∷ 0 ∷ 0 ∷ 0 ∷ 0 ∷ 0 ∷ 0 ∷ []) ≡ dead)
unfolding spell
built_zeros = built _ 0 dead dead_valid refl refl

pub ruleset adding = (state_written, last-push)

pub ruleset building = (laid_out_in, have_written, need_written, from_word_set, half_crlf_set, insert-had, built_zeros)
