-- What follows a row, and the last match along units.
-- Main statements: column-below, rows_in, dead_stop, dead_if, stepped-some, stepped-none, goes_on, last_done,
-- last_dead, match_of_lists, finds.
-- Used by: `stored`, `search` and `laws`.
-- Idea: the rows that are left say what is found after what was found so far.
use Rattle.determinize_core.proofs.Common.{[], ap, arith, false, HalfMatch, length, List, lists_of, None, Option, refl}
use Rattle.determinize_core.proofs.Common.{slice_get, slice_index, Some, subst, suc, sym, true, units, Value, zero}
use Rattle.determinize_core.proofs.Common.{ℕ, ◌*◌, ◌+◌, ◌<◌, ◌∙◌, ◌∷◌, ◌≡◌, ◌≤◌}
use Rattle.std.specs.Option.{option_map, option_or}
use Rattle.std.specs.Prelude.{All, cond, Decides, drop, take}
use Rattle.std.proofs.lemmas.List.Elements.{All-drop, All-head, All-tail, All-take}
use Rattle.determinize_below.specs.Nfa.{IsAccepted}
use Rattle.determinize_below.specs.Search.{Asked, is_anchored, is_done}
use Rattle.determinize_below.specs.Semantics.{Nfa, Text}
use Rattle.determinize_below.specs.Truth.{IsUnit}
use Rattle.determinize_below.specs.declared.search.Anchored.{Anchored}
use Rattle.determinize_core.proofs.Common.{Bool}
use Rattle.determinize_core.specs.Chain.{chain}
use Rattle.determinize_dense.proofs.Along.{along_text, last_listed-dead, last_listed-done, last_listed-more, start_is}
use Rattle.ordered_reach.proofs.lists.Pieces.{option_or-assoc}
use Rattle.determinize_dense.specs.Table.{start_row}
use Rattle.determinize_start.proofs.kinds.StartSlots.{slot_number-below}
use Rattle.std.proofs.lemmas.Nat.{mul-add-lt}
use Rattle.determinize_engine.proofs.TextUnits.{text_units}
use Rattle.determinize_engine.specs.Searches.{in_haystack, last_in, start_for, text_of}
use Rattle.determinize_start.specs.StartKinds.{byte_before, start_kind_of}
use Rattle.determinize_start.specs.StartSlots.{slot_number, slot_of}
use Rattle.determinize_start.specs.declared.start.TheConstants.StartSlot.{COUNT}
use Rattle.std.specs.List.{slice_range}
use Rattle.determinize_core.specs.LastMatch.{last_match}
use Rattle.determinize_core.specs.Walk.{last_listed}
use Rattle.determinize_dense.specs.Bytes.{IsWhole, Stored}
use Rattle.determinize_dense.specs.Reading.{IsDead, lists_along}
use Rattle.determinize_dense.specs.Table.{column_of, patterns_at, row_after, row_over, Table}
use Rattle.determinize_dense.specs.Automaton.{first_row, HasRowsIn, IsStoredOf}
use Rattle.determinize_stored.specs.Reading.{HasDeadRow, last_along, last_found}

-- a column is one of a row
pub column-below : (s : Stored) → IsWhole s → (u : Option ℕ) → IsUnit u → column_of s.table u < s.table.class_count + 1
column-below s whole None h = omega arith
column-below s whole (Some byte) h =
    let bytes = whole.bytes in
    let within : slice_index s.table.classes byte < s.table.class_count =
    whole.class_within byte 0 (omega (arith, bytes, h)) in
    omega (arith, within)

-- the starts and the entries are numbers of rows
pub rows_in : (s : Stored) → IsWhole s → HasRowsIn s
rows_in s whole = record {
  starts = λ anchored p h.
      let slot = slot_of anchored (start_kind_of s.terminator p) in
      let below : slot_number slot < COUNT = slot_number-below slot in
      whole.start_within (slot_number slot) 0 (omega (arith, whole.starts, below));
  rows = λ r u h unit.
      let columns = s.table.class_count + 1 in
      whole.entry_within (r * columns + column_of s.table u) 0 (omega (
        arith,
        whole.entries,
        mul-add-lt r columns (column_of s.table u) (length s.table.patterns) h (column-below s whole u unit),
      ));
}

stays_at : (n : ℕ) (xs : List ℕ) → All (λ r. r ≡ 0) (take n xs) → (k : ℕ) → k < n → slice_index xs k ≡ 0
stays_at zero xs stays k h = absurd (let no : ⊥ = omega (arith, h) in no)
stays_at (suc n) [] stays k h = refl
stays_at (suc n) (x ∷ xs) stays zero h = All-head (λ r. r ≡ 0) x (take n xs) stays
stays_at (suc n) (x ∷ xs) stays (suc k) h =
    stays_at n xs (All-tail (λ r. r ≡ 0) x (take n xs) stays) k (omega (arith, h))

-- row 0 follows itself
pub dead_stop : (s : Stored) → IsWhole s → HasDeadRow s.table → IsDead s.table 0
dead_stop s whole stop [] all = stop.lists
dead_stop s whole stop (u ∷ us) all =
    let d = s.table in
    let at = column-below s whole u (All-head IsUnit u us all) in
    let place : 0 * (d.class_count + 1) + column_of d u ≡ column_of d u = omega arith in
    let same : row_over d 0 u ≡ 0 =
    ap (λ n. slice_index d.next n) place ∙ stays_at (d.class_count + 1) d.next stop.stays (column_of d u) at in
    ap (λ r. patterns_at d (row_after d r us)) same ∙ dead_stop s whole stop us (All-tail IsUnit u us all)

pub dead_if : (s : Stored) (r : ℕ) (is_dead : Bool) → IsWhole s → Decides is_dead ((r ≡ 0) × HasDeadRow s.table)
    → is_dead ≡ true → IsDead s.table r
dead_if s r is_dead whole decides so =
    let is = decides.0 so in subst (λ n. IsDead s.table n) (sym is.0) (dead_stop s whole is.1)

-- what is found after a row whose first pattern is this
abbrev pub stepped : ℕ → Option ℕ → Option HalfMatch → Option HalfMatch
stepped n first found = option_or (option_map (λ pattern. record { pattern = pattern; offset = n }) first) found

pub stepped-some : (n p : ℕ) (first : Option ℕ) (found now : Option HalfMatch) → first ≡ Some p
    → now ≡ Some record { pattern = p; offset = n } → now ≡ stepped n first found
stepped-some n p first found now is e = rw is e

pub stepped-none : (n : ℕ) (first : Option ℕ) (found now : Option HalfMatch) → first ≡ None → now ≡ found
    → now ≡ stepped n first found
stepped-none n first found now is e = rw is e

-- what is found after a step
pub goes_on : (d : Table) (us : List (Option ℕ)) (r n : ℕ) (u : Option ℕ) (found all : Option HalfMatch) (row : ℕ)
    (first : Option ℕ) (now : Option HalfMatch) → slice_get us n ≡ Some u → row ≡ row_over d r u
    → first ≡ slice_get (patterns_at d row) 0
    → now ≡ stepped n first found
    → option_or (last_listed n (lists_along d r (drop n us))) found ≡ all
    → option_or (last_listed (n + 1) (lists_along d row (drop (n + 1) us))) now ≡ all
goes_on d us r n u found all row first now at over listed is so_far =
    rw (is, listed, over, ← option_or-assoc) (rw (last_listed-more d r n us u at) at so_far)

-- where no unit is left
pub last_done : (d : Table) (us : List (Option ℕ)) (r n : ℕ) (found all : Option HalfMatch) → length us ≤ n
    → option_or (last_listed n (lists_along d r (drop n us))) found ≡ all → found ≡ all
last_done d us r n found all past so_far = rw (last_listed-done d r n us past) at so_far

-- where no match is left
pub last_dead : (d : Table) (us : List (Option ℕ)) (r n : ℕ) (found all : Option HalfMatch) → IsDead d r
    → All IsUnit (drop n us) → option_or (last_listed n (lists_along d r (drop n us))) found ≡ all → found ≡ all
last_dead d us r n found all dead left so_far = rw (last_listed-dead d (drop n us) r n dead left) at so_far

-- the last match of a walk is that of its lists
pub match_of_lists : (lists : List (List ℕ)) (vs : List Value) → [] ∷ lists ≡ lists_of vs
    → last_match vs ≡ last_listed 0 lists
match_of_lists lists [] e = absurd (let no : ⊥ = cc e in no)
match_of_lists lists (v ∷ vs) e = ap (λ ls. last_listed 0 ls) (sym (let tails : lists ≡ lists_of vs = cc e in tails))

unit_get : (xs : List ℕ) (i : ℕ) → All (λ b. b < 256) xs → IsUnit (slice_get xs i)
unit_get [] i small = tt
unit_get (x ∷ xs) zero small = All-head (λ b. b < 256) x xs small
unit_get (x ∷ xs) (suc i) small = unit_get xs i (All-tail (λ b. b < 256) x xs small)

unit_before : (xs : List ℕ) (i : ℕ) → All (λ b. b < 256) xs → IsUnit (byte_before xs i)
unit_before xs zero small = tt
unit_before xs (suc i) small = unit_get xs i small

-- what a search reads is units
behind_unit : (back : Bool) (asked : Asked) → All (λ b. b < 256) asked.haystack → IsUnit (text_of back asked).behind
behind_unit false asked small = unit_before asked.haystack asked.start small
behind_unit true asked small = unit_get asked.haystack asked.end small

all_units : (back : Bool) (asked : Asked) → All (λ b. b < 256) asked.haystack → All IsUnit (units (text_of back asked))
all_units false asked small = text_units (byte_before asked.haystack asked.start) false
    (slice_range asked.haystack asked.start asked.end) _
    (All-take (λ b. b < 256) _ _ (All-drop (λ b. b < 256) _ _ small)) (unit_get asked.haystack asked.end small)
all_units true asked small = text_units (slice_get asked.haystack asked.end) true
    (slice_range asked.haystack asked.start asked.end) _
    (All-take (λ b. b < 256) _ _ (All-drop (λ b. b < 256) _ _ small)) (unit_before asked.haystack asked.start small)

module _ (nfa : Nfa) (s : Stored) (accepted : IsAccepted nfa) (is : IsStoredOf nfa s) where
  along_is : (a : Anchored) (text : Text) → IsUnit text.behind → All IsUnit (units text)
      → last_along s (is_anchored a) text ≡ last_match (chain nfa s.kind (start_for nfa a) text)
  along_is a text behind all =
      let lists = along_text nfa s.kind s.table accepted is.means (is_anchored a) text behind all
      (start_for nfa a) (start_is nfa a) in
      let row : first_row s (is_anchored a) text.behind ≡ start_row nfa s.table (is_anchored a) text.behind =
      ap (λ t. slice_index s.table.starts (slot_number (slot_of (is_anchored a) (start_kind_of t text.behind))))
      is.terminator in
      ap (λ r. last_listed 0 (lists_along s.table r (units text))) row
      ∙ sym (match_of_lists _ (chain nfa s.kind (start_for nfa a) text) lists.walk)

  -- a search of what is stored finds what a search of the DFA does
  pub finds : (asked : Asked) → All (λ b. b < 256) asked.haystack → last_found s asked ≡ last_in nfa s.kind asked
  unfolding last_in
  finds asked small =
      ap (λ back. cond (is_done asked) None (option_map (in_haystack back asked)
      (last_along s (is_anchored asked.anchored) (text_of back asked)))) is.reverse
      ∙ ap (λ found. cond (is_done asked) None (option_map (in_haystack nfa.reverse asked) found))
      (along_is asked.anchored (text_of nfa.reverse asked) (behind_unit nfa.reverse asked small)
      (all_units nfa.reverse asked small))
