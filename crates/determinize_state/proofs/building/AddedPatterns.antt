-- The bytes of a state to which a pattern is added.
-- Main statements: pattern_written, unlisted.
-- Used by: `add_match_pattern_id`.
-- Idea: the one pattern 0 takes no bytes until another comes.
use Rattle.determinize_state.proofs.Common.{◌≡◌, ℕ, ◌+◌, ◌≤◌, true, false, List, [], ◌∷◌, ◌++◌, nat_eq, suc, zero, refl, arith, ap, ◌∙◌, length-append, list_any, nat_eq_equiv, nat_tests, All-push, Value, IsValue, with_pattern, is_nonempty, is_explicit, words, word, with_word, value_of, number_at, IsSpelled, has_flag, MAX_ID, COUNT, EXPLICIT, MATCH}
use Rattle.std.proofs.Common.{append-nil}
use Rattle.std.proofs.lemmas.Map.Keys.{IsDistinct-push}
use Rattle.determinize_state.specs.Private.PatternBytes.{with_pattern_bytes}
use Rattle.determinize_state.specs.Spelling.{spell}
use Rattle.determinize_state.proofs.building.UnfinishedBytes.{Encodes, respelled}
use Rattle.determinize_state.proofs.encoding.ReadBytes.{laid_out_in}
use Rattle.determinize_state.proofs.encoding.RoundTrip.{laid_out}

words-append : (ns ms : List ℕ) → words (ns ++ ms) ≡ words ns ++ words ms
words-append [] ms = refl
words-append (n ∷ ns) ms = rw (words-append ns ms)

-- the cases of adding a pattern before the first NFA state
pushed-more : (v : Value) (id : ℕ) → IsValue v → v.states ≡ [] → is_explicit v.patterns ≡ true
    → spell (with_pattern v id) ≡ with_word (spell v ++ word id) COUNT (number_at (spell v) COUNT + 1)
unfolding spell
pushed-more v id h none e =
    let more : is_explicit (v.patterns ++ id ∷ []) ≡ true = grind arith in
    let first : is_nonempty v.patterns ≡ true = grind arith in
    let last : is_nonempty (v.patterns ++ id ∷ []) ≡ true = grind arith in
    let tail : words (v.patterns ++ id ∷ []) ++ [] ≡ (words v.patterns ++ []) ++ word id =
    rw (words-append v.patterns (id ∷ []), append-nil (words v.patterns ++ word id), append-nil (words v.patterns)) in
    rw (((laid_out v h).listed e).count, none, e, first, more, last)
    (rw (tail, length-append v.patterns (id ∷ [])) refl)

pushed : (v : Value) (id : ℕ) (ids : List ℕ) → IsValue v → v.states ≡ [] → v.patterns ≡ ids
    → spell (with_pattern v id) ≡ with_pattern_bytes (spell v) id
pushed v zero [] h none e = unfold spell in rw (none, e) (grind (arith, laid_out v h))
pushed v (suc n) [] h none e = unfold spell in rw (none, e) (grind (arith, nat_tests, laid_out v h))
pushed v id (zero ∷ []) h none e = unfold spell in rw (none, e) (grind (arith, laid_out v h))
pushed v id ids h none e =
    rw ((laid_out v h).explicit ∙ ap is_explicit e) (pushed-more v id h none (ap is_explicit e))

pub pattern_written : (bytes : List ℕ) (id : ℕ) → IsSpelled bytes → (value_of bytes).states ≡ []
    → id ≤ MAX_ID → list_any (nat_eq id) (value_of bytes).patterns ≡ false
    → Encodes (with_pattern_bytes bytes id) (with_pattern (value_of bytes) id)
pattern_written bytes id h none small new =
    let v : Value = value_of bytes in
    let distinct = IsDistinct-push nat_eq_equiv v.patterns id h.valid.distinct new in
    let all = All-push (λ k. k ≤ MAX_ID) v.patterns id h.valid.pattern_ids small in
    respelled _ (with_pattern v id) (assumption (distinct, all, h.valid))
    (pushed v id v.patterns h.valid none refl ∙ ap (λ (b : List ℕ). with_pattern_bytes b id) h.spelled)

-- the bits of the first byte if there is no pattern
pub unlisted : (bytes : List ℕ) → IsSpelled bytes → (value_of bytes).patterns ≡ []
    → (has_flag bytes MATCH ≡ false) × (has_flag bytes EXPLICIT ≡ false)
unlisted bytes h none =
    let at = laid_out_in bytes h in (at.matches ∙ ap is_nonempty none, at.explicit ∙ ap is_explicit none)

pub ruleset adding = (pattern_written, unlisted)
