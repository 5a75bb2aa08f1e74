-- A cursor over matches, and a search from its position.
-- Main statements: IsSought, next_further, rest_same, inside_later, sought_further, sought_moved, sought_paid,
-- sought_more, sought_none, sought_past.
-- Used by: `Cursor::advance` and `Searcher::advance_with`.
-- Idea: what a search found is the next match or is skipped, and either way the next search begins further on.
use Rattle.std.specs.Prelude.{nat_lt, option_map}
use Rattle.std.proofs.Common.{◌≡◌, ◌<◌, ◌≤◌, ◌+◌, ◌-◌, ◌∙◌, ℕ, Bool, None, Option, Some}
use Rattle.std.proofs.Common.{ap, arith, cond, false, length, refl, subst, sym, true}
use Rattle.std.specs.Option.{IfNone, IfSome}
use Rattle.std.proofs.lemmas.Bool.{ltb-false, ltb-true, true≢false}
use Rattle.std.proofs.lemmas.Option.{none-some}
use Rattle.determinize_below.specs.Search.{Asked}
use Rattle.determinize_below.specs.Semantics.{Nfa, Text}
use Rattle.determinize_below.specs.declared.search.HalfMatch.{HalfMatch}
use Rattle.determinize_below.specs.declared.search.Match.{Match}
use Rattle.determinize_find.specs.Cursors.{SearcherValue, after_match}
use Rattle.determinize_find.specs.Matches.{IsNext}
use Rattle.determinize_find.specs.Private.BestAt.{IsBestAt, IsBestIn, from_index}
use Rattle.ordered_reach.proofs.Cases.{by_test}
use Rattle.determinize_linear.specs.Private.Paid.{IsPaid, end_of, in_haystack}
use Rattle.determinize_linear.specs.Private.Turns.{CursorValue, HasMoved, IsCursor, IsInside, IsTurned, ends_at}
use Rattle.determinize_linear.specs.Private.Turns.{index_of}
use Rattle.determinize_linear.specs.Private.Turns.{most_left, next_at, passed, place_of, rest_of, taken}
use Rattle.determinize_linear.proofs.search.InTurn.{best_found, best_order, next_empty, next_longer, next_none}
use Rattle.determinize_linear.proofs.search.InTurn.{next_past, turn_pays, turned_empty, turned_longer, turned_none}
use Rattle.determinize_linear.proofs.search.InTurn.{turned_touching}

-- the cursor, and the next match if it is taken
abbrev pub IsPassed : Nfa → CursorValue → Option HalfMatch → Type 0
IsPassed nfa c found = IsCursor nfa (passed c found)
    × ((m : Match) → taken c found ≡ Some m → IsNext nfa (rest_of c.asked c.before) c.before (Some m))

-- the rest of an input has its mode and its end
pub rest_same : (asked : Asked) (before : Option ℕ)
    → ((rest_of asked before).anchored ≡ asked.anchored) × ((rest_of asked before).end ≡ asked.end)
rest_same asked None = (refl, refl)
rest_same asked (Some end) = (refl, refl)

-- the range stays, wherever the next search begins
pub inside_later : (c d : CursorValue) → IsInside c → c.at ≤ length c.text.bytes → d.asked ≡ c.asked → d.text ≡ c.text
    → IsInside d
inside_later c d is l a t = record {
  haystack = rw a is.haystack;
  limit = rw a is.limit;
  count = rw (a, t) is.count;
  order = λ k. rw a (is.order l);
  text = rw (a, t) is.text;
}

module _ (nfa : Nfa) (c : CursorValue) (inside : IsInside c) (is : IsCursor nfa c)
    (l : c.at ≤ length c.text.bytes) where
  -- a later position
  cursor_at : (before : Option ℕ) (at : ℕ) → IsTurned nfa c.asked before (c.asked.start + at)
      → IsCursor nfa (record c { before = before; at = at })
  cursor_at before at turned = record {
    anchored = is.anchored;
    turned = λ k. turned;
    done = λ k. next_past nfa c.asked before (c.asked.start + at) turned
        (omega (arith, k, inside.count, inside.order l));
  }

  cursor_done : IsNext nfa (rest_of c.asked c.before) c.before None
      → IsCursor nfa (record c { at = length c.text.bytes + 1 })
  cursor_done next = record {
    anchored = is.anchored;
    turned = λ k. absurd (omega (arith, k));
    done = λ k. next;
  }

  high : index_of c ≤ c.asked.end
  high = omega (arith, l, inside.count, inside.order l)

  further_on : c.asked.start + (c.at + 1) ≡ index_of c + 1
  further_on = omega arith

  pub has_passed : (found : Option HalfMatch) → IsBestAt nfa c.text c.at (option_map (from_index c.at) found)
      → IsPassed nfa c found
  has_passed None best =
      let turned = is.turned l in
      let here = best_found nfa c.asked c.text c.at None (inside.text (inside.order l)) best in (
        by_test c.is_anchored
            (λ t. subst (λ (b : Bool). IsCursor nfa (record c { at = cond b (length c.text.bytes + 1) (c.at + 1) }))
            (sym t)
            (cursor_done (next_none nfa c.asked c.before (index_of c) turned high here (sym is.anchored ∙ t))))
            (λ f. subst (λ (b : Bool). IsCursor nfa (record c { at = cond b (length c.text.bytes + 1) (c.at + 1) }))
            (sym f)
            (cursor_at c.before (c.at + 1)
            (rw further_on (turned_none nfa c.asked c.before (index_of c) turned high here (sym is.anchored ∙ f))))),
        λ m e. absurd (none-some m e),
      )
  has_passed (Some h) best = by_test (nat_lt c.at h.offset)
      (λ t. let longer : index_of c < c.asked.start + h.offset = omega (arith, ltb-true c.at h.offset t) in
      rw t (
        cursor_at (Some (c.asked.start + h.offset)) h.offset
            (turned_longer nfa c.asked c.before (index_of c) turned high m here refl longer),
        λ n e. subst (λ o. IsNext nfa (rest_of c.asked c.before) c.before o) e
            (next_longer nfa c.asked c.before (index_of c) turned high m here refl longer),
      ))
      (λ f. let ends : c.asked.start + h.offset ≡ index_of c
      = omega (arith, ltb-false c.at h.offset f, best_order nfa c.text c.at h best) in
      by_test (ends_at c.before (index_of c))
      (λ t. rw (f, t) (
        cursor_at c.before (c.at + 1)
            (rw further_on (turned_touching nfa c.asked c.before (index_of c) turned high m here refl ends t)),
        λ n e. absurd (none-some n e),
      ))
      (λ g. rw (f, g) (
        cursor_at (Some (c.asked.start + h.offset)) (c.at + 1)
            (rw further_on (turned_empty nfa c.asked c.before (index_of c) turned high m here refl ends)),
        λ n e. subst (λ o. IsNext nfa (rest_of c.asked c.before) c.before o) e
            (next_empty nfa c.asked c.before (index_of c) turned high m here refl ends g),
      )))
    where
      turned : IsTurned nfa c.asked c.before (index_of c)
      turned = is.turned l

      m : Match
      m = in_haystack c.asked.start c.at h

      here : IsBestIn nfa c.asked (index_of c) (Some m)
      here = best_found nfa c.asked c.text c.at (Some h) (inside.text (inside.order l)) best

-- a match that is skipped moves the position only
pub passed_none : (old c : CursorValue) (found : Option HalfMatch) → c ≡ record old { at = c.at } → taken c found ≡ None
    → passed c found ≡ record old { at = next_at c found }
passed_none old c found same e =
    let p : passed c found ≡ record c { at = next_at c found } = rw e refl in
    p ∙ ap (λ (d : CursorValue). record d { at = next_at c found }) same

-- a match that is taken is the next one
pub moved_some : (Finds : Nfa → Type 0) (old c : CursorValue) (found : Option HalfMatch) (m : Match)
    → c ≡ record old { at = c.at } → taken c found ≡ Some m → IsInside (passed c found)
    → ((nfa : Nfa) → Finds nfa → IsPassed nfa c found) → HasMoved Finds old (Some m) (passed c found)
moved_some Finds old c found m same e inside p = record {
  next = λ nfa f. subst (λ (d : CursorValue). IsNext nfa (rest_of d.asked d.before) d.before (Some m)) same
      ((p nfa f).1 m e);
  after = after;
  inside = inside;
  is = λ nfa f. (p nfa f).0;
  asked = ap (λ (d : CursorValue). d.asked) same;
  text = ap (λ (d : CursorValue). d.text) same;
  anchored = ap (λ (d : CursorValue). d.is_anchored) same;
}
  where
    again : (before : Option ℕ) (asked : Asked)
        → rest_of (rest_of asked before) (Some m.end) ≡ rest_of asked (Some m.end)
    again None asked = refl
    again (Some end) asked = refl

    behind : Asked → SearcherValue
    behind asked = record { asked = asked; before = Some m.end }

    after : place_of (passed c found) ≡ after_match (place_of old) (Some m)
    after = rw e (ap (λ (d : CursorValue). behind (rest_of d.asked (Some m.end))) same
        ∙ ap behind (sym (again old.before old.asked)))

pub moved_none : (Finds : Nfa → Type 0) (old c : CursorValue) → c ≡ record old { at = c.at } → IsInside c
    → ((nfa : Nfa) → Finds nfa → IsCursor nfa c) → length c.text.bytes < c.at → HasMoved Finds old None c
moved_none Finds old c same inside is past = record {
  next = λ nfa f. subst (λ (d : CursorValue). IsNext nfa (rest_of d.asked d.before) d.before None) same
      ((is nfa f).done past);
  after = ap place_of same;
  inside = inside;
  is = is;
  asked = ap (λ (d : CursorValue). d.asked) same;
  text = ap (λ (d : CursorValue). d.text) same;
  anchored = ap (λ (d : CursorValue). d.is_anchored) same;
}

-- where the next search begins
module _ (c : CursorValue) (l : c.at ≤ length c.text.bytes) where
  pub next_further : (found : Option HalfMatch) → c.at < next_at c found
  next_further None = by_test c.is_anchored (λ t. rw t (omega (arith, l))) (λ f. rw f (omega arith))
  next_further (Some m) = by_test (nat_lt c.at m.offset)
      (λ t. rw t (omega (arith, ltb-true c.at m.offset t)))
      (λ f. rw f (omega arith))

  next_late : (found : Option HalfMatch) → IfSome found (λ m. c.at ≤ m.offset)
      → end_of c.at found ≤ next_at c found
  next_late None low = omega (arith, next_further None)
  next_late (Some m) low = by_test (nat_lt c.at m.offset)
      (λ t. rw t (omega arith))
      (λ f. rw f (omega (arith, ltb-false c.at m.offset f)))

  -- what the search costs
  pass_pays : (left new : ℕ → ℕ) (most extra before total : ℕ) (found : Option HalfMatch)
      → IfSome found (λ m. c.at ≤ m.offset)
      → IfSome found (λ m. IsPaid new most (left c.at) c.at m.offset extra before total)
      → IfNone found ((k : ℕ) → c.at ≤ k → total + new k ≤ before + extra + left c.at)
      → total + most_left new (most + extra) (passed c found) ≤ before + most_left left (most + extra) c
  pass_pays left new most extra before total None low paid unpaid = omega (
    arith,
    unpaid (next_at c None) (omega (arith, next_further None)),
    turn_pays (most + extra) (length c.text.bytes + 1 - next_at c None) (length c.text.bytes + 1 - c.at)
        (omega (arith, next_further None, l)),
  )
  pass_pays left new most extra before total (Some m) low paid unpaid = by_test (nat_lt c.at m.offset)
      (λ t. rw t (omega (
        arith,
        paid.here,
        turn_pays (most + extra) (length c.text.bytes + 1 - m.offset) (length c.text.bytes + 1 - c.at)
            (omega (arith, ltb-true c.at m.offset t, l)),
      )))
      (λ f. rw f (omega (
        arith,
        paid.further (c.at + 1) (omega (arith, ltb-false c.at m.offset f)),
        turn_pays (most + extra) (length c.text.bytes + 1 - (c.at + 1)) (length c.text.bytes + 1 - c.at)
            (omega (arith, l)),
      )))

  -- a search counts a try for each position
  pass_counts : (before total : ℕ) (found : Option HalfMatch) → IfSome found (λ m. c.at ≤ m.offset)
      → before + end_of c.at found + 1 ≤ total + c.at
      → (c.is_anchored ≡ true → next_at c found ≤ length c.text.bytes) → before + next_at c found ≤ total + c.at
  pass_counts before total None low counted free = by_test c.is_anchored
      (λ t. let k : length c.text.bytes + 1 ≤ length c.text.bytes = rw t at (free t) in absurd (omega (arith, k)))
      (λ f. rw f (omega (arith, counted)))
  pass_counts before total (Some m) low counted free = by_test (nat_lt c.at m.offset)
      (λ t. rw t (omega (arith, counted)))
      (λ f. rw f (omega (arith, counted, low)))

-- a cursor whose searches since it was `old` found no match that is taken: what they cost, and that they count a try
-- for each position
pub record IsSought (Finds : Nfa → Type 0) (text : Text) (Ready : ℕ → Type 0) (first left : ℕ → ℕ) (most extra : ℕ)
    (Counts : Type 0) (before total : ℕ) (old c : CursorValue) : Type 0 where
  pub inside : IsInside c
  pub is : (nfa : Nfa) → Finds nfa → IsCursor nfa c
  pub later : old.at ≤ c.at
  pub same_text : text ≡ c.text
  pub same : c ≡ record old { at = c.at }
  pub ready : (k : ℕ) → c.at ≤ k → Ready k
  pub paid : total + most_left left (most + extra) c ≤ before + most_left first (most + extra) old
  pub counted : Counts → (c.is_anchored ≡ true → c.at ≤ length c.text.bytes) → before + c.at ≤ total + old.at
  pub more : Counts → before ≤ total

-- one more search from its position
module _ (Finds : Nfa → Type 0) (text : Text) (Ready : ℕ → Type 0) (first left : ℕ → ℕ) (most extra : ℕ)
    (Counts : Type 0) (before total : ℕ) (old c : CursorValue)
    (s : IsSought Finds text Ready first left most extra Counts before total old c)
    (at : ℕ) (here : at ≡ c.at) (high : at ≤ length text.bytes) (found : Option HalfMatch)
    (order : at ≤ end_of at found)
    (best : (nfa : Nfa) → Finds nfa → IsBestAt nfa text at (option_map (from_index at) found)) where
  within : c.at ≤ length c.text.bytes
  within = rw (← s.same_text, ← here) high

  low : IfSome found (λ m. c.at ≤ m.offset)
  low = go found (rw here at order)
    where
      go : (o : Option HalfMatch) → c.at ≤ end_of c.at o → IfSome o (λ m. c.at ≤ m.offset)
      go None l = tt
      go (Some m) l = l

  is_passed : (nfa : Nfa) → Finds nfa → IsPassed nfa c found
  is_passed nfa f = has_passed nfa c s.inside (s.is nfa f) within found (rw (s.same_text, here) at (best nfa f))

  is_inside : IsInside (passed c found)
  is_inside = inside_later c (passed c found) s.inside within refl refl

  -- the next search begins further on than the first one
  pub sought_further : (old.at < (passed c found).at) × (old.at ≤ length text.bytes)
  sought_further = (omega (arith, s.later, next_further c within found), omega (arith, s.later, here, high))

  pub sought_moved : (m : Match) → taken c found ≡ Some m → HasMoved Finds old (Some m) (passed c found)
  sought_moved m e = moved_some Finds old c found m s.same e is_inside is_passed

  sought_ready : (Next : ℕ → Type 0) → ((k : ℕ) → end_of at found ≤ k → Next k)
      → (k : ℕ) → next_at c found ≤ k → Next k
  sought_ready Next ready k l = ready k (rw here (omega (arith, l, next_late c within found low)))

  module _ (new : ℕ → ℕ) (sum : ℕ)
      (pays : IfSome found (λ m. IsPaid new most (left at) at m.offset extra total sum))
      (unpaid : IfNone found ((k : ℕ) → at ≤ k → sum + new k ≤ total + extra + left at))
      (counts : Counts → total + end_of at found + 1 ≤ sum + at) where
    sought_grows : Counts → before ≤ sum
    sought_grows k =
        let counted : total + end_of c.at found + 1 ≤ sum + c.at = rw here at (counts k) in
        omega (arith, s.more k, counted, ends found low)
      where
        ends : (o : Option HalfMatch) → IfSome o (λ m. c.at ≤ m.offset) → c.at ≤ end_of c.at o
        ends None l = omega arith
        ends (Some m) l = l

    pub sought_paid : sum + most_left new (most + extra) (passed c found)
        ≤ before + most_left first (most + extra) old
    sought_paid = omega (
      arith,
      s.paid,
      pass_pays c within left new most extra total sum found low (rw here at pays) (rw here at unpaid),
    )

    pub sought_more : (Next : ℕ → Type 0) → ((k : ℕ) → end_of at found ≤ k → Next k) → taken c found ≡ None
        → IsSought Finds text Next first new most extra Counts before sum old (passed c found)
    sought_more Next ready e = record {
      inside = is_inside;
      is = λ nfa f. (is_passed nfa f).0;
      later = omega (arith, sought_further.0);
      same_text = s.same_text;
      same = passed_none old c found s.same e;
      ready = sought_ready Next ready;
      paid = sought_paid;
      counted = λ k free. omega (
        arith,
        s.counted k (λ t. within),
        pass_counts c within total sum found low (rw here at (counts k)) free,
      );
      more = sought_grows;
    }

-- where no search is left
module _ (Finds : Nfa → Type 0) (text : Text) (Ready : ℕ → Type 0) (first left : ℕ → ℕ) (most extra : ℕ)
    (Counts : Type 0) (before total : ℕ) (old c : CursorValue)
    (s : IsSought Finds text Ready first left most extra Counts before total old c)
    (past : length text.bytes < c.at) where
  pub sought_none : HasMoved Finds old None c
  sought_none = moved_none Finds old c s.same s.inside s.is (rw (← s.same_text) past)

  pub sought_past : Counts → old.is_anchored ≡ false → before + (length old.text.bytes + 1 - old.at) ≤ total
  sought_past k free =
      let is : c.is_anchored ≡ old.is_anchored = ap (λ (d : CursorValue). d.is_anchored) s.same in
      let size : length c.text.bytes ≡ length old.text.bytes = ap (λ (d : CursorValue). length d.text.bytes) s.same in
      let far : length c.text.bytes < c.at = rw (← s.same_text) past in
      omega (arith, far, size, s.more k, s.counted k (λ t. absurd (true≢false (sym t ∙ is ∙ free))))
