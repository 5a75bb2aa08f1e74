-- A table that is being built: one value more, and one entry more.
-- Main statements: building-first, building-value, building-entry, next_row-before, next_row-base, stays-more,
-- one_too_many.
-- Used by: the functions of `Builder`, and `build`.
-- Idea: what holds of each value so far, and of one more, holds of each after it is added.
use Rattle.determinize_dense.proofs.Common.{All-nil, AllResolve, apart-push, AreClasses, AreClassesOf, AreStarts, arith}
use Rattle.determinize_dense.proofs.Common.{Bool, Building, by_cases, by_test, cases_eq, Classes, columns_of, dead}
use Rattle.determinize_dense.proofs.Common.{div-mul-add, EachApart, Err, false, filter-append, first_of, get_more}
use Rattle.determinize_dense.proofs.Common.{get_or, get_or-set_other, get_or-set_same, get_push, gives_nothing}
use Rattle.determinize_dense.proofs.Common.{HasChanges, HasIds, HasMoreStates, IsAccepted, IsBase, IsBuilding}
use Rattle.determinize_dense.proofs.Common.{IsNextRow, IsReachedValue, IsStart, IsUnit, length, length-set, length_push}
use Rattle.determinize_dense.proofs.Common.{List, list_any, MatchKind, MAX_STATES, mod-mul-add, mul-add-lt, mul_comm}
use Rattle.determinize_dense.proofs.Common.{nat_lt, Nfa, not_none, of_some, one_slot, refl, Result, same, slice_get}
use Rattle.determinize_dense.proofs.Common.{slice_get-get_or, slice_get_read, slice_get_within, slice_set, slot_number}
use Rattle.determinize_dense.proofs.Common.{slot_number-below, Some, Stays, step, sym, true, unit_at, Value, without}
use Rattle.determinize_dense.proofs.Common.{[], ℕ, ◌%◌, ◌*◌, ◌++◌, ◌+◌, ◌-◌, ◌/◌, ◌<◌, ◌∙◌, ◌∷◌, ◌≡◌, ◌≤◌}
use Rattle.determinize_dense.proofs.IdleStates.{step_same}
use Rattle.ordered_reach.proofs.lists.Elements.{In_from_Contains}
use Rattle.determinize_dense.proofs.Reached.{reached-dead}
use Rattle.determinize_start.specs.declared.start.StartSlot.{StartSlot}
use Rattle.std.specs.Result.{IsErrAnd}
use Rattle.determinize_dense.specs.declared.error.DfaError.{DfaError}
use Rattle.determinize_dense.specs.declared.error.DfaError.TheVariants.{OutOfMemory, TooManyStates}

-- other values behind those that were found, and other entries
pub stays-grown : (b : Building) (values : List Value) (next : List ℕ) → length b.values ≤ length values
    → ((i : ℕ) (v : Value) → slice_get b.values i ≡ Some v → slice_get values i ≡ Some v)
    → Stays b (record b { values = values; next = next })
stays-grown b values next longer stay =
    record { nfa = refl; kind = refl; classes = refl; limit = refl; longer = longer; values = stay }

-- nothing changes
pub stays-same : (b : Building) → Stays b b
stays-same b = stays-grown b b.values b.next (omega arith) (λ i v at. at)

-- the unit of a column is a unit
pub unit_at-unit : (p : Classes) → AreClasses p → (c : ℕ) → IsUnit (unit_at p c)
unit_at-unit p are c = by_test (nat_lt c (length p.firsts))
    (λ e. rw e (are.bytes c (grind (arith, e))))
    (λ e. rw e tt)

-- what is true of each element, and of one more
one_more : {K : Type 0} (P : K → Type 0) (xs : List K) (x : K) → ((i : ℕ) (y : K) → slice_get xs i ≡ Some y → P y) → P x
    → (i : ℕ) (y : K) → slice_get (xs ++ x ∷ []) i ≡ Some y → P y
one_more P xs x each new i y at = by_cases (get_push xs x i y at) (each i y) (λ k. rw k.1 new)

-- the unit of a class is its least byte
pub unit_at-byte : (p : Classes) (c : ℕ) → c < length p.firsts → unit_at p c ≡ Some (first_of p c)
unit_at-byte p c inside = let e : nat_lt c (length p.firsts) ≡ true = grind (arith, inside) in rw e refl

-- the row and the column of an entry
place-of : (row column columns : ℕ) → column < columns
    → ((row * columns + column) / columns ≡ row) × ((row * columns + column) % columns ≡ column)
place-of row column columns inside = (div-mul-add row columns column inside, mod-mul-add row columns column inside)

module _ (b : Building) (is : IsBuilding b) where
  module _ (v : Value) (fresh : list_any (same v) b.values ≡ false) (reached : IsReachedValue b.nfa b.kind v) where
    abbrev more : Building
    more = record b { values = b.values ++ v ∷ [] }

    longer : length more.values ≡ length b.values + 1
    longer = length_push b.values v

    each_reached : (i : ℕ) (x : Value) → slice_get more.values i ≡ Some x → IsReachedValue b.nfa b.kind x
    each_reached = one_more (λ x. IsReachedValue b.nfa b.kind x) b.values v is.reached reached

    -- a value more
    pub building-value : AllResolve b.nfa v.states → length b.values < b.limit → IsBuilding more
    building-value resolve room = record {
      accepted = is.accepted;
      classes = is.classes;
      sound = is.sound;
      apart = apart-push b.values v is.apart fresh;
      first = get_more b.values (v ∷ []) 0 _ is.first;
      reached = each_reached;
      resolve = one_more (λ x. AllResolve b.nfa x.states) b.values v is.resolve resolve;
      entries = λ e r at. let k = is.entries e r at in
          (k.0, get_more b.values (v ∷ []) _ _ k.1, get_more b.values (v ∷ []) _ _ k.2);
      within = rw longer (omega (arith, is.within));
      few = omega (arith, longer, room);
      limit = is.limit;
    }

    pub stays-value : Stays b more
    stays-value = stays-grown b more.values b.next (omega (arith, longer)) (get_more b.values (v ∷ []))

    -- there are more values than the limit
    pub one_too_many : length b.values ≡ b.limit → HasMoreStates b.nfa b.kind b.limit
    one_too_many full = (
      more.values,
      apart-push b.values v is.apart fresh,
      omega (arith, longer, full),
      λ x h. let k = In_from_Contains more.values x h in each_reached k.0 x k.1,
    )

  -- an entry that is computed serves another place, if the step is the same
  next_row-as : (row column at_row at_column r : ℕ) (v w : Value) → slice_get b.values row ≡ Some v
      → slice_get b.values at_row ≡ Some w → at_column < columns_of b.classes
      → slice_get b.next (at_row * columns_of b.classes + at_column) ≡ Some r
      → step b.nfa b.kind w (unit_at b.classes at_column) ≡ step b.nfa b.kind v (unit_at b.classes column)
      → IsNextRow b row column r
  next_row-as row column at_row at_column r v w at there inside entry same =
      let place = place-of at_row at_column (columns_of b.classes) inside in
      let found : IsNextRow b at_row at_column r = rw (place.0, place.1) at (is.entries _ r entry) in
      let here : found.0 ≡ w = of_some (sym found.1 ∙ there) in
      (v, at, rw (← same, ← here) found.2)

  -- the entry of the column before, if one step serves both columns
  pub next_row-before : (row column r : ℕ) (v : Value) → slice_get b.values row ≡ Some v → 0 < column
      → column < length b.classes.firsts → slice_get b.next (row * columns_of b.classes + (column - 1)) ≡ Some r
      → step b.nfa b.kind v (Some (first_of b.classes (column - 1)))
      ≡ step b.nfa b.kind v (Some (first_of b.classes column))
      → IsNextRow b row column r
  next_row-before row column r v at positive inside entry same =
      next_row-as row column row (column - 1) r v v at at (omega (arith, inside)) entry
      (rw (unit_at-byte b.classes (column - 1) (omega (arith, inside)), unit_at-byte b.classes column inside) same)

  -- the entry of the base, if no further state gives anything
  pub next_row-base : (row base column r : ℕ) (further : List ℕ) → row < length b.values → IsBase b row base further
      → column < columns_of b.classes → slice_get b.next (base * columns_of b.classes + column) ≡ Some r
      → without (gives_nothing b.nfa (unit_at b.classes column)) further ≡ [] → IsNextRow b row column r
  next_row-base row base column r further room base_is inside entry idle =
      let at = slice_get-get_or b.values row dead room in
      let there = slice_get-get_or b.values base dead (omega (arith, room, base_is.before)) in
      let v = base_is.of_row _ at in
      let w = base_is.of_base _ there in
      next_row-as row column base column r _ _ at there inside entry
      (step_same b.nfa b.kind _ _ _ w.0 v.0 (rw (v.1, w.1, filter-append, idle) refl))

  -- an entry more
  pub building-entry : (row column r : ℕ) → length b.next ≡ row * columns_of b.classes + column
      → column < columns_of b.classes → IsNextRow b row column r → IsBuilding (record b { next = b.next ++ r ∷ [] })
  building-entry row column r count inside next =
      let place = place-of row column (columns_of b.classes) inside in
      let room = mul-add-lt row (columns_of b.classes) column (length b.values)
      (slice_get_within b.values row _ next.1) inside in
      record {
        accepted = is.accepted;
        classes = is.classes;
        sound = is.sound;
        apart = is.apart;
        first = is.first;
        reached = is.reached;
        resolve = is.resolve;
        entries = λ e s at. by_cases (get_push b.next r e s at)
            (is.entries e s)
            (λ new. rw (new.0, new.1, count, place.0, place.1) next);
        within = omega (arith, length_push b.next r, count, mul_comm (columns_of b.classes) (length b.values), room);
        few = is.few;
        limit = is.limit;
      }

-- one call after another
pub stays-more : {a b c : Building} → Stays a b → Stays b c → Stays a c
stays-more {a} {b} {c} s t = record {
  nfa = t.nfa ∙ s.nfa;
  kind = t.kind ∙ s.kind;
  classes = t.classes ∙ s.classes;
  limit = t.limit ∙ s.limit;
  longer = omega (arith, s.longer, t.longer);
  values = λ i v at. t.values i v (s.values i v at);
}

-- the rows of the starts stay
pub starts-stay : {a b : Building} {nfa : Nfa} {n : ℕ} {starts : List ℕ} → Stays a b → AreStarts nfa a.values n starts
    → AreStarts nfa b.values n starts
starts-stay {a} {b} s are = record {
  count = are.count;
  within = λ i h. omega (arith, are.within i h, s.longer);
  rows = λ slot h p unit e. s.values _ _ (are.rows slot h p unit e);
}

-- the row of one start more
pub starts-push : {nfa : Nfa} {values : List Value} {n : ℕ} {starts : List ℕ} (slot : StartSlot) (row : ℕ)
    → AreStarts nfa values n starts → slot_number slot ≡ n → row < length values → IsStart nfa values slot row
    → AreStarts nfa values (n + 1) (slice_set starts n row)
starts-push {nfa} {values} {n} {starts} slot row are n_is inside start =
    let below : slot_number slot < 12 = slot_number-below slot in
    let here = get_or-set_same starts n row 0 (omega (arith, below, n_is, are.count)) in
    record {
      count = length-set starts n row ∙ are.count;
      within = λ i h. by_cases (cases_eq i n)
          (λ e. rw (e, here) inside)
          (λ e. rw (get_or-set_other starts n i row 0 e) (are.within i (omega (arith, e, h))));
      rows = λ other h. by_cases (cases_eq (slot_number other) n)
          (λ e. rw (e, here, one_slot other slot (e ∙ sym n_is)) start)
          (λ e. rw (get_or-set_other starts n (slot_number other) row 0 e) (are.rows other (omega (arith, e, h))));
    }

-- another NFA, kind and limit that are the same
pub more-as : {m n : Nfa} {j k : MatchKind} {l r : ℕ} → m ≡ n → j ≡ k → l ≡ r → HasMoreStates m j l
    → HasMoreStates n k r
more-as nfa kind limit h = rw (← nfa, ← kind, ← limit) h

-- there were more values than the limit before a call, if there are after it
pub more-before : {a b : Building} → Stays a b → HasMoreStates b.nfa b.kind b.limit → HasMoreStates a.nfa a.kind a.limit
more-before s = more-as s.nfa s.kind s.limit

-- of the dead value only
dead_only : (P : Value → Type 0) → P dead → (i : ℕ) (v : Value) → slice_get (dead ∷ []) i ≡ Some v → P v
dead_only P = one_more P [] dead (λ i v at. not_none (sym at))

dead_apart : EachApart (dead ∷ [])
dead_apart = apart-push [] dead (λ p q v at. not_none (sym at)) refl

module _ (nfa : Nfa) (kind : MatchKind) where
  dead_reached : (i : ℕ) (v : Value) → slice_get (dead ∷ []) i ≡ Some v → IsReachedValue nfa kind v
  dead_reached = dead_only (λ v. IsReachedValue nfa kind v) (reached-dead nfa kind)

  -- there is one value at least
  pub more-than-none : {limit : ℕ} → limit ≡ 0 → HasMoreStates nfa kind limit
  more-than-none none = (
    dead ∷ [],
    dead_apart,
    omega (arith, none),
    λ x h. let k = In_from_Contains (dead ∷ []) x h in dead_reached k.0 x k.1,
  )

  -- a builder with the dead value only
  pub building-first : (classes : Classes) (limit : ℕ) → IsAccepted nfa → AreClassesOf nfa classes → AreClasses classes
      → 0 < limit → limit ≤ MAX_STATES
      → IsBuilding record { nfa = nfa; kind = kind; classes = classes; limit = limit; values = dead ∷ []; next = [] }
  building-first classes limit accepted of sound some few = record {
    accepted = accepted;
    classes = of;
    sound = sound;
    apart = dead_apart;
    first = refl;
    reached = dead_reached;
    resolve = dead_only (λ v. AllResolve nfa v.states) (All-nil _);
    entries = λ e r at. not_none (sym at);
    within = omega arith;
    few = some;
    limit = few;
  }

-- what was read at an index
pub read-at : {K : Type 0} {xs ys : List K} {i : ℕ} {x : K} → i < length xs → ys ≡ xs → x ≡ get_or ys i x
    → slice_get xs i ≡ Some x
read-at {K} {xs} {ys} {i} {x} inside same is = slice_get_read xs (length xs) i x refl inside (rw same at is)

-- the value of a row before is the one after
value-before : {a b : Building} {row : ℕ} {v : Value} → Stays a b → row < length a.values
    → slice_get b.values row ≡ Some v → slice_get a.values row ≡ Some v
value-before {a} {b} {row} {v} s inside at =
    let here = slice_get-get_or a.values row v inside in let there = s.values row _ here in cc

-- the marks of a row stay
pub changes-stay : {a b : Building} {row : ℕ} (marks : List Bool) → Stays a b → row < length a.values
    → HasChanges a row marks → HasChanges b row marks
changes-stay marks s inside has v at = rw s.nfa (has v (value-before s inside at))

-- the dead value has no NFA states
pub dead-ids : {b : Building} → IsBuilding b → HasIds b 0 []
dead-ids is v at = rw (← of_some (sym is.first ∙ at)) (refl, refl)

-- the NFA states of a row stay
pub ids-stay : {a b : Building} {row : ℕ} (ids : List ℕ) → Stays a b → row < length a.values → HasIds a row ids
    → HasIds b row ids
ids-stay ids s inside has v at = has v (value-before s inside at)

-- the base of a row stays
pub base-stays : {a b : Building} {row base : ℕ} (further : List ℕ) → Stays a b → row < length a.values
    → IsBase a row base further → IsBase b row base further
base-stays further s inside is = record {
  before = is.before;
  ids = is.ids;
  of_base = ids-stay is.ids s (omega (arith, inside, is.before)) is.of_base;
  of_row = ids-stay (further ++ is.ids) s inside is.of_row;
}

-- the row after a row, once its value was placed
pub next_row-placed : {a b : Building} → Stays a b → (row column r : ℕ) (v w : Value) → slice_get a.values row ≡ Some v
    → w ≡ step a.nfa a.kind v (unit_at a.classes column) → slice_get b.values r ≡ Some w → IsNextRow b row column r
next_row-placed s row column r v w at next to = (v, s.values row v at, rw (s.nfa, s.kind, s.classes, ← next) to)

-- other entries are not read
pub stays-next : {a b : Building} (next : List ℕ) → Stays a b → Stays a (record b { next = next })
stays-next {a} {b} next s = stays-more s (stays-grown b b.values next (omega arith) (λ i v at. at))

-- the error of one result and of another
pub err-as : {T U E : Type 0} {r : Result T E} {x y : E} → r ≡ Err y → r ≡ Err x
    → ◌≡◌ {A = Result U E} (Err x) (Err y)
err-as same is = cc

-- a lack of memory says nothing of the number of states
pub out-of-memory : {T A : Type 0} {r : Result T DfaError} → IsErrAnd r (λ e. e ≡ OutOfMemory) → r ≡ Err TooManyStates
    → A
out-of-memory memory many = let same : TooManyStates ≡ OutOfMemory = rw many at memory in absurd (cc)
