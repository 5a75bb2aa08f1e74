-- The table that is built: each row follows the steps of its value.
-- Main statements: is_dfa, has_states.
-- Used by: `finish`.
-- Idea: the unit for which a column is computed is alike to each unit of the column.
use Rattle.determinize_dense.proofs.Common.{All, All-head, All-tail, AreStarts, arith, Bool, Building, by_cases}
use Rattle.determinize_dense.proofs.Common.{cases_lt, column_of, columns_of, Contains, dead, dead_stays, div-mul-add}
use Rattle.determinize_dense.proofs.Common.{each_class_steps, false, first_of, get_or, get_or_from_slice_get, HasStates}
use Rattle.determinize_dense.proofs.Common.{IsBuilding, IsDfa, IsFilled, IsNextRow, IsReachedRow, IsReachedValue}
use Rattle.determinize_dense.proofs.Common.{IsUnit, length, length-map, List, lists_of, MatchKind, mod-mul-add}
use Rattle.determinize_dense.proofs.Common.{mul-add-lt, nat_lt, NeedsTested, Nfa, None, of_some, Option, patterns_at}
use Rattle.determinize_dense.proofs.Common.{refl, row_after, row_over, slice_get, slice_get-get_or, slice_get-map}
use Rattle.determinize_dense.proofs.Common.{slice_get_within, slice_index, slot_number-below, slot_of, Some}
use Rattle.determinize_dense.proofs.Common.{start_kind_of, start_row, step, sym, Table, true, unit_at, Value}
use Rattle.determinize_dense.proofs.Common.{value_after, value_from, [], ℕ, ◌*◌, ◌+◌, ◌<◌, ◌∙◌, ◌∷◌, ◌≡◌}
use Rattle.determinize_dense.proofs.Reached.{reached-tested}

-- the dead value stays along units
dead_after : (nfa : Nfa) (kind : MatchKind) (us : List (Option ℕ)) → value_after nfa kind dead us ≡ dead
dead_after nfa kind [] = refl
dead_after nfa kind (u ∷ us) = rw (dead_stays nfa kind u).0 (dead_after nfa kind us)

module _ (b : Building) (is : IsBuilding b) (whole : length b.next ≡ length b.values * columns_of b.classes)
    (starts : List ℕ) (are : AreStarts b.nfa b.values 12 starts) where
  abbrev pub table : Table
  table = record {
    classes = b.classes.of_bytes;
    class_count = length b.classes.firsts;
    next = b.next;
    starts = starts;
    patterns = lists_of b.values;
  }

  column-below : (u : Option ℕ) → IsUnit u → column_of table u < columns_of b.classes
  column-below None h = omega arith
  column-below (Some byte) h = omega (arith, is.sound.within byte h)

  -- the unit for which a column is computed is alike to each unit of the column
  same-step : (v : Value) (u : Option ℕ) → NeedsTested b.nfa v → IsUnit u
      → step b.nfa b.kind v (unit_at b.classes (column_of table u)) ≡ step b.nfa b.kind v u
  same-step v None tested h =
      let past : nat_lt (length b.classes.firsts) (length b.classes.firsts) ≡ false = grind arith in rw past
  same-step v (Some byte) tested h =
      let c : ℕ = slice_index b.classes.of_bytes byte in
      let k : c < length b.classes.firsts = is.sound.within byte h in
      let inside : nat_lt c (length b.classes.firsts) ≡ true = grind (arith, k) in
      rw inside (each_class_steps b.nfa is.accepted b.kind v tested (first_of b.classes c) byte
      (is.classes.alike (first_of b.classes c) byte (is.sound.bytes c k) h (is.sound.own c k)))

  -- the entry of a row is the row of the next value
  row_over-step : (r : ℕ) (v : Value) (u : Option ℕ) → slice_get b.values r ≡ Some v → IsUnit u
      → slice_get b.values (row_over table r u) ≡ Some (step b.nfa b.kind v u)
  row_over-step r v u at h =
      let columns : ℕ = columns_of b.classes in
      let c : ℕ = column_of table u in
      let below : c < columns = column-below u h in
      let place = mul-add-lt r columns c (length b.values) (slice_get_within b.values r v at) below in
      let inside : r * columns + c < length b.next = omega (arith, whole) in
      let next : IsNextRow b r c (slice_index b.next (r * columns + c))
      = rw (div-mul-add r columns c below, mod-mul-add r columns c below)
      at (is.entries (r * columns + c) _ (slice_get-get_or b.next (r * columns + c) 0 inside)) in
      let same : next.0 ≡ v = of_some (sym next.1 ∙ at) in
      let tested = same-step v u (reached-tested b.nfa b.kind v (is.reached r v at)) h in
      rw (← tested, ← same) next.2

  -- and so along units
  row_after-steps : (us : List (Option ℕ)) (r : ℕ) (v : Value) → slice_get b.values r ≡ Some v → All IsUnit us
      → slice_get b.values (row_after table r us) ≡ Some (value_after b.nfa b.kind v us)
  row_after-steps [] r v at h = at
  row_after-steps (u ∷ us) r v at h =
      row_after-steps us (row_over table r u) (step b.nfa b.kind v u) (row_over-step r v u at (All-head IsUnit u us h))
      (All-tail IsUnit u us h)

  -- from the row of a start
  row_after-start : (anchored : Bool) (p : Option ℕ) (us : List (Option ℕ)) → IsUnit p → All IsUnit us
      → slice_get b.values (row_after table (start_row b.nfa table anchored p) us)
      ≡ Some (value_from b.nfa b.kind anchored p us)
  row_after-start anchored p us h all =
      let slot = slot_of anchored (start_kind_of b.nfa.terminator p) in
      row_after-steps us _ _ (are.rows slot (slot_number-below slot) p h refl) all

  lists-at : (r : ℕ) (v : Value) → slice_get b.values r ≡ Some v → patterns_at table r ≡ v.patterns
  lists-at r v at = get_or_from_slice_get (lists_of b.values) r v.patterns []
      (rw (slice_get-map, at))

  count : length table.patterns ≡ length b.values
  count = length-map b.values (λ (x : Value). x.patterns)

  -- each column has a unit
  unit-there : (c : ℕ) → c < columns_of b.classes → (u : Option ℕ) × IsUnit u × (column_of table u ≡ c)
  unit-there c h = by_cases (cases_lt c (length b.classes.firsts))
      (λ k. (Some (first_of b.classes c), is.sound.bytes c k, is.sound.own c k)) (λ k. (None, tt, omega arith))

  -- each row is reached
  row-reached : (r : ℕ) → r < length table.patterns → IsReachedRow b.nfa table r
  row-reached r h =
      let v : Value = get_or b.values r dead in
      let at : slice_get b.values r ≡ Some v = slice_get-get_or b.values r dead (omega (arith, count)) in
      let k : IsReachedValue b.nfa b.kind v = is.reached r v at in
      let again = rw (← k.5) at (row_after-start k.0 k.1 k.2 k.3 k.4) in
      (k.0, k.1, k.2, k.3, k.4, is.apart r (row_after table (start_row b.nfa table k.0 k.1) k.2) v at again)

  is_table : IsFilled table
  is_table = record {
    size = rw count whole;
    starts = are.count;
    first = λ i h. rw count (are.within i h);
    column = column-below;
    units = unit-there;
    few = omega (arith, count);
    narrow = omega (arith, is.sound.few);
    within = λ r u h unit. rw count (slice_get_within b.values (row_over table r u) _
        (row_over-step r (get_or b.values r dead) u (slice_get-get_or b.values r dead (omega (arith, count))) unit));
  }

  pub is_dfa : IsDfa record { nfa = b.nfa; kind = b.kind; table = table }
  is_dfa = record {
    accepted = is.accepted;
    classes = λ p same. record {
      alike = λ x y h l e. is.classes.alike x y h l (rw same at e);
      coarsest = λ x y h l alike. rw same (is.classes.coarsest x y h l alike);
    };
    table = is_table;
    tells = λ anchored p us h all. lists-at _ _ (row_after-start anchored p us h all);
    reached = row-reached;
    dead = λ us all. rw (lists-at _ _ (row_after-steps us 0 dead is.first all), dead_after) refl;
  }

  -- the values are those that are reached
  pub has_states : HasStates b.nfa b.kind (length b.values)
  has_states = (
    b.values,
    is.apart,
    refl,
    λ v. (
      λ (h : Contains b.values v). is.reached h.0 v (rw h.2 at (slice_get-get_or b.values h.0 v h.1)),
      λ (r : IsReachedValue b.nfa b.kind v).
          let at = rw (← r.5) at (row_after-start r.0 r.1 r.2 r.3 r.4) in
          (_, slice_get_within b.values _ v at, get_or_from_slice_get b.values _ v v at),
    ),
  )
