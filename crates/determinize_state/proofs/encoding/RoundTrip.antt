-- Encoding and decoding of states are inverse.
-- Main statements: laid_out, value_of-spell, spelled, spell_tells.
-- Used by: all that reads or writes the bytes of a state.
-- Idea: the header has fixed places, and the lengths of the parts are in it.
use Rattle.determinize_state.proofs.Common.{eqb-true, ◌≡◌, ℕ, ◌+◌, ◌*◌, ◌<◌, ◌≤◌, true, List, [], ◌∷◌, length, All, nat_eq, refl, arith, sym, ap, ◌∙◌, take, drop, subst, length-append, All-head, All-tail, Value, IsValue, dead, is_nonempty, deltas, is_explicit, words, number_at, numbers_in, has_flag, start_in, patterns_in, IsSpelled, drop-drop, drop-append_seam, take-append_seam, by_test, ID_LIMIT, MAX_ID, COUNT, EXPLICIT, FROM_WORD, HALF_CRLF, LOOK_HAVE, LOOK_NEED, MATCH, PATTERNS}
use Rattle.std.specs.List.{IsDistinct}
use Rattle.std.proofs.lemmas.Nat.{from_le_bytes-to_le_bytes_4}
use Rattle.std.proofs.lemmas.Map.Steps.{length-le_from_distinct_below}
use Rattle.std.proofs.lemmas.Map.Views.{Contains-from_any}
use Rattle.determinize_state.specs.Spelling.{spell, value_of}
use Rattle.determinize_state.proofs.encoding.Varints.{ids_from-deltas}

pub dead_valid : IsValue dead
unfolding IsDistinct
dead_valid = grind arith

pub length-words : (ns : List ℕ) → length (words ns) ≡ 4 * length ns
length-words [] = refl
length-words (n ∷ ns) = omega (arith, length-words ns)

pub numbers_in-words : (ns : List ℕ) → All (λ n. n ≤ MAX_ID) ns → numbers_in (words ns) ≡ ns
numbers_in-words [] all = refl
numbers_in-words (n ∷ ns) all =
    rw (
      from_le_bytes-to_le_bytes_4 n (omega (arith, All-head (λ k. k ≤ MAX_ID) n ns all)),
      numbers_in-words ns (All-tail (λ k. k ≤ MAX_ID) n ns all),
    )

-- distinct ids are at most as numerous as all ids
pub few : (ids : List ℕ) → IsDistinct nat_eq ids → All (λ id. id ≤ MAX_ID) ids → length ids ≤ ID_LIMIT
few ids distinct all = length-le_from_distinct_below ids ID_LIMIT distinct (λ id h.
    let at = Contains-from_any {eq = nat_eq} eqb-true id ids h in
    subst (λ m. m < ID_LIMIT) at.2 (omega (arith, all at.0 id at.1)))

-- explicit patterns: their number, and the patterns themselves
pub record AreListed (ids bytes : List ℕ) : Type 0 where
  pub count : number_at bytes COUNT ≡ length ids
  pub room : PATTERNS + 4 * length ids ≤ length bytes
  pub words : take (4 * length ids) (drop PATTERNS bytes) ≡ words ids

-- where the parts of the value are in the bytes
pub record IsLaidOut (v : Value) (bytes : List ℕ) : Type 0 where
  pub long : COUNT ≤ length bytes
  pub few : length v.patterns ≤ ID_LIMIT
  pub matches : has_flag bytes MATCH ≡ is_nonempty v.patterns
  pub explicit : has_flag bytes EXPLICIT ≡ is_explicit v.patterns
  pub listed : is_explicit v.patterns ≡ true → AreListed v.patterns bytes
  pub rest : drop (start_in bytes) bytes ≡ deltas 0 v.states

listed_in : (v : Value) → IsValue v → is_explicit v.patterns ≡ true → AreListed v.patterns (spell v)
unfolding spell
listed_in v h e =
    let few_ids : length v.patterns ≤ ID_LIMIT = few v.patterns h.distinct h.pattern_ids in
    let size = length-words v.patterns in
    rw e record {
      count = from_le_bytes-to_le_bytes_4 (length v.patterns) (omega arith);
      room = omega (arith, length-append (words v.patterns) (deltas 0 v.states));
      words = rw (← size) (take-append_seam (words v.patterns) (deltas 0 v.states));
    }

explicit_flag : (v : Value) → has_flag (spell v) EXPLICIT ≡ is_explicit v.patterns
unfolding spell
explicit_flag v = grind arith

after_patterns : (v : Value) → IsValue v → drop (start_in (spell v)) (spell v) ≡ deltas 0 v.states
after_patterns v h = by_test (is_explicit v.patterns)
    (λ e. rw (explicit_flag v, e, (listed_in v h e).count, ← (drop-drop (4 * length v.patterns) PATTERNS (spell v)))
    (unfold spell in rw (e, ← length-words v.patterns) (drop-append_seam (words v.patterns) (deltas 0 v.states))))
    (λ e. rw (explicit_flag v, e) (unfold spell in rw e))

pub laid_out : (v : Value) → IsValue v → IsLaidOut v (spell v)
unfolding spell
laid_out v h = record {
  long = omega arith;
  few = few v.patterns h.distinct h.pattern_ids;
  matches = grind arith;
  explicit = explicit_flag v;
  listed = listed_in v h;
  rest = after_patterns v h;
}

patterns_in-spell : (v : Value) → IsValue v → patterns_in (spell v) ≡ v.patterns
patterns_in-spell v h = grind (arith, laid_out v h, numbers_in-words v.patterns h.pattern_ids)

-- decoding the encoding of a value gives the value
pub value_of-spell : (v : Value) → IsValue v → value_of (spell v) ≡ v
unfolding value_of spell
value_of-spell v h =
    let from_word : has_flag (spell v) FROM_WORD ≡ v.from_word = grind arith in
    let half_crlf : has_flag (spell v) HALF_CRLF ≡ v.half_crlf = grind arith in
    let have : number_at (spell v) LOOK_HAVE ≡ v.look_have = from_le_bytes-to_le_bytes_4 _ (omega arith) in
    let need : number_at (spell v) LOOK_NEED ≡ v.look_need = from_le_bytes-to_le_bytes_4 _ (omega arith) in
    let ids = ids_from-deltas 0 v.states (omega arith) h.state_ids in
    rw (from_word, half_crlf, have, need, patterns_in-spell v h, (laid_out v h).rest, ids)

-- values with equal encodings are equal
pub spell_tells : (v w : Value) → IsValue v → IsValue w → spell v ≡ spell w → v ≡ w
spell_tells v w hv hw e = sym (value_of-spell v hv) ∙ ap value_of e ∙ value_of-spell w hw

pub spelled : (v : Value) → IsValue v → IsSpelled (spell v)
spelled v h = record { valid = rw (value_of-spell v h) h; spelled = rw (value_of-spell v h) }
