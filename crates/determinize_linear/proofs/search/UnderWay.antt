-- A search from a pair, one iteration after another.
-- Main statements: IsUnderWay, begun, skipped, entered, ended, stopped, spent_after, fewer_held, fewer_new.
-- Used by: the loop of a search.
-- Idea: the first accepting pair of what is still to be searched stays the same, and what was searched is closed: a
-- visited pair is followed by visited or pending pairs.
use Rattle.std.proofs.Common.{◌≡◌, ◌<◌, ◌≤◌, ◌+◌, ◌++◌, ◌∙◌, ◌∷◌, ◌||◌, ◌==◌, ℕ, Bool, List, None, Option, Some, []}
use Rattle.std.proofs.Common.{ap, arith, cond, false, length, nat_eq, refl, replicate, reverse, subst, suc, sym, true}
use Rattle.std.proofs.lemmas.List.{reverse-append, reverse-reverse}
use Rattle.std.specs.List.{find, flat_map}
use Rattle.std.specs.Prelude.{nat_le, slice_index_or}
use mathlib.Core.Path.{fun_ext}
use Rattle.std.proofs.lemmas.Bool.{false≢true, or_left, or_right, true≢false}
use Rattle.std.proofs.lemmas.Bool.Decides.{nat_tests}
use Rattle.std.proofs.lemmas.Option.{slice_get_past}
use Rattle.determinize_below.specs.Nfa.{IsAccepted}
use Rattle.determinize_below.specs.Edges.{is_match}
use Rattle.determinize_below.specs.Positions.{byte_edges, true_edges, truth}
use Rattle.determinize_below.specs.Semantics.{Nfa, Text, after_at, before_at}
use Rattle.determinize_below.proofs.nfas.Edges.{target-end}
use Rattle.determinize_below.proofs.nfas.SoundNfa.{accepted_sound}
use Rattle.determinize_core.proofs.step.WorkingLists.{fuel}
use Rattle.ordered_reach.proofs.Cases.{by_test}
use Rattle.ordered_reach.proofs.graph.ClosedSets.{IsEnough}
use Rattle.ordered_reach.proofs.graph.FiniteGraphs.{IsEnough-below, same_decides}
use Rattle.ordered_reach.proofs.lists.Elements.{Contains_In, In_Contains, In_member, member_In}
use Rattle.ordered_reach.proofs.lists.NewNodes.{member-append}
use Rattle.ordered_reach.proofs.runs.ByPosition.{pair_eq, same_pairs}
use Rattle.ordered_reach.proofs.runs.RunFuel.{IsEnough-runs}
use Rattle.ordered_reach.specs.Reach.{ends, member, none_held, with_node}
use Rattle.determinize_linear.specs.Private.Marks.{is_marked, with_mark, without_marks}
use Rattle.determinize_linear.specs.Private.Spent.{HasPlaces, IsSpent}
use Rattle.determinize_linear.proofs.search.Marks.{is_marked-none, is_marked-with, is_marked-without}
use Rattle.determinize_linear.proofs.search.Pending.{IsPending, pending_below, pending_choices, pending_more}
use Rattle.determinize_linear.proofs.search.Pending.{run_steps, step_later}
use Rattle.determinize_linear.proofs.search.Skipping.{found, found-held, found-here, found-new, found-start, tries}
use Rattle.determinize_linear.proofs.search.Skipping.{tries-held, tries-new}

-- the fuel of all runs is enough
pub enough : (nfa : Nfa) → IsAccepted nfa → (text : Text) (p : ℕ × ℕ)
    → IsEnough (pair_eq nat_eq) (run_steps nfa text) (fuel nfa (length text.bytes)) none_held p
enough nfa accepted text p =
    IsEnough-runs same_decides (true_edges nfa text) (byte_edges nfa text) (suc (length nfa.states))
    (length text.bytes)
    (λ i s. IsEnough-below (true_edges nfa text i) (length nfa.states)
    ((accepted_sound nfa accepted).resolves (truth nfa (before_at text i) (after_at text i))) s)
    (λ i s l. rw (slice_get_past text.bytes i l) (target-end nfa s))
    (length text.bytes) p.0 p.1 (omega arith)

-- whether the pair is at a `Match`
abbrev pub accepts : Nfa → ℕ × ℕ → Bool
accepts nfa p = is_match nfa p.1

-- where the most preferred run from the anchored start at a position accepts
abbrev pub best_from : Nfa → Text → ℕ → Option (ℕ × ℕ)
best_from nfa text k = find (accepts nfa)
    (flat_map (ends (pair_eq nat_eq) (run_steps nfa text) (fuel nfa (length text.bytes)) none_held)
    ((k, nfa.start_anchored) ∷ []))

-- a search from position k, with the visited pairs and those still to be searched
pub record IsUnderWay (nfa : Nfa) (text : Text) (k : ℕ) (rows : List (List Bool)) (pairs : List (ℕ × ℕ))
    : Type 0 where
  pub first : found (pair_eq nat_eq) (run_steps nfa text) (fuel nfa (length text.bytes)) (accepts nfa) (is_marked rows)
      pairs ≡ best_from nfa text k
  pub none : (p : ℕ × ℕ) → is_marked rows p ≡ true → is_match nfa p.1 ≡ false
  pub closed : (p q : ℕ × ℕ) → is_marked rows p ≡ true → k ≤ p.0
      → member (pair_eq nat_eq) (run_steps nfa text p) q ≡ true
      → (is_marked rows q || member (pair_eq nat_eq) pairs q) ≡ true
  pub falls : IsPending nfa k (length text.bytes) pairs

module _ (nfa : Nfa) (accepted : IsAccepted nfa) (text : Text) (k : ℕ) (rows : List (List Bool)) where
  pub begun : k ≤ length text.bytes → nfa.start_anchored < length nfa.states → IsSpent nfa text k rows
      → IsUnderWay nfa text k rows ((k, nfa.start_anchored) ∷ [])
  begun l s h = record {
    first = found-start same_pairs (run_steps nfa text) (fuel nfa (length text.bytes)) (enough nfa accepted text)
        (accepts nfa) (is_marked rows) (λ p. nat_le k p.0) (k, nfa.start_anchored)
        (λ p q i m. later p q i (step_later nfa text p q m)) h.none
        (λ p q v i m. inner p q v (grind (arith, nat_tests, i)) m) (grind (arith, nat_tests));
    none = h.none;
    closed = λ p q v i m. or_left (is_marked rows q) _ (inner p q v i m);
    falls = (omega arith, l, s, tt);
  }
    where
      later : (p q : ℕ × ℕ) → nat_le k p.0 ≡ true → p.0 ≤ q.0 → nat_le k q.0 ≡ true
      later p q i l = grind (arith, nat_tests, i)

      inner : (p q : ℕ × ℕ) → is_marked rows p ≡ true → k ≤ p.0
          → member (pair_eq nat_eq) (run_steps nfa text p) q ≡ true → is_marked rows q ≡ true
      inner p q v i m =
          h.closed p q v i
          (In_Contains same_pairs (run_steps nfa text p) q (member_In same_pairs (run_steps nfa text p) q m))

  -- nothing is left: no run accepts
  pub ended : IsUnderWay nfa text k rows [] → (best_from nfa text k ≡ None) × IsSpent nfa text k rows
  ended h = (
    sym h.first,
    record {
      none = h.none;
      closed = λ p q v i c.
          let m = h.closed p q v i (In_member same_pairs (run_steps nfa text p) q
          (Contains_In same_pairs (run_steps nfa text p) q c)) in grind (arith, m);
    },
  )

  module _ (p : ℕ × ℕ) (ps : List (ℕ × ℕ)) (h : IsUnderWay nfa text k rows (p ∷ ps)) where
    place : (k ≤ p.0) × (p.0 ≤ length text.bytes) × (p.1 < length nfa.states) × IsPending nfa k p.0 ps
    place = h.falls

    -- a visited pair
    pub skipped : is_marked rows p ≡ true → IsUnderWay nfa text k rows ps
    skipped e = record {
      first = sym (found-held same_pairs (run_steps nfa text) (fuel nfa (length text.bytes)) (enough nfa accepted text)
          (accepts nfa) (is_marked rows) p ps e) ∙ h.first;
      none = h.none;
      closed = λ x y v i m. again x y (h.closed x y v i m);
      falls = pending_more nfa k p.0 (length text.bytes) ps place.1 place.3;
    }
      where
        again : (x y : ℕ × ℕ) → (is_marked rows y || member (pair_eq nat_eq) (p ∷ ps) y) ≡ true
            → (is_marked rows y || member (pair_eq nat_eq) ps y) ≡ true
        again x y m = by_test (pair_eq nat_eq p y)
            (λ z. or_left (is_marked rows y) _ (ap (is_marked rows) (sym ((same_pairs p y).0 z)) ∙ e))
            (λ z. grind (arith, m, z))

    -- a new pair that is not at a `Match`
    pub entered : p.0 < length rows → p.1 < length (slice_index_or rows p.0 []) → is_marked rows p ≡ false
        → is_match nfa p.1 ≡ false
        → IsUnderWay nfa text k (with_mark rows p.0 p.1) (run_steps nfa text p ++ ps)
    entered a b e n =
        let same : is_marked (with_mark rows p.0 p.1) ≡ with_node (pair_eq nat_eq) (is_marked rows) p
        = fun_ext (is_marked-with rows p.0 p.1 a b) in record {
          first = ap (λ v. found (pair_eq nat_eq) (run_steps nfa text) (fuel nfa (length text.bytes)) (accepts nfa) v
              (run_steps nfa text p ++ ps)) same
              ∙ sym (found-new same_pairs (run_steps nfa text) (fuel nfa (length text.bytes)) (enough nfa accepted text)
              (accepts nfa) (is_marked rows) p ps e n) ∙ h.first;
          none = λ x v. old_or_new x (sym (ap (λ w. w x) same) ∙ v)
              (λ z. ap (λ w. is_match nfa w.1) (sym z) ∙ n) (h.none x);
          closed = λ x y v i m. ap (λ w. w y || member (pair_eq nat_eq) (run_steps nfa text p ++ ps) y) same
              ∙ old_or_new x (sym (ap (λ w. w x) same) ∙ v)
              (λ z. from_new y (subst (λ w. member (pair_eq nat_eq) (run_steps nfa text w) y ≡ true) (sym z) m))
              (λ o. from_old y (h.closed x y o i m));
          falls = pending_choices nfa accepted text k p ps h.falls;
        }
      where
        old_or_new : {P : Type 0} (x : ℕ × ℕ) → with_node (pair_eq nat_eq) (is_marked rows) p x ≡ true
            → (p ≡ x → P) → (is_marked rows x ≡ true → P) → P
        old_or_new x v f g = by_test (pair_eq nat_eq p x)
            (λ z. f ((same_pairs p x).0 z))
            (λ z. g (grind (arith, v, z)))

        from_new : (y : ℕ × ℕ) → member (pair_eq nat_eq) (run_steps nfa text p) y ≡ true
            → (with_node (pair_eq nat_eq) (is_marked rows) p y
            || member (pair_eq nat_eq) (run_steps nfa text p ++ ps) y) ≡ true
        from_new y m = or_right _ _ (member-append same_pairs (run_steps nfa text p) ps y ∙ or_left _ _ m)

        from_old : (y : ℕ × ℕ) → (is_marked rows y || member (pair_eq nat_eq) (p ∷ ps) y) ≡ true
            → (with_node (pair_eq nat_eq) (is_marked rows) p y
            || member (pair_eq nat_eq) (run_steps nfa text p ++ ps) y) ≡ true
        from_old y m = grind (arith, m, member-append same_pairs (run_steps nfa text p) ps y)

    -- a pair at a `Match`: the most preferred run accepts there
    pub stopped : is_match nfa p.1 ≡ true → best_from nfa text k ≡ Some p
    stopped n = sym h.first ∙ found-here same_pairs (run_steps nfa text) (fuel nfa (length text.bytes))
        (enough nfa accepted text) (accepts nfa) (is_marked rows) p ps unmarked n
      where
        unmarked : is_marked rows p ≡ false
        unmarked = by_test (is_marked rows p)
            (λ e. absurd (true≢false (sym n ∙ h.none p e)))
            (λ e. e)

    -- and after it no pending pair follows a visited one
    pub spent_after : p.0 < length rows → IsSpent nfa text p.0 (without_marks rows p.0)
    spent_after a = record {
      none = λ x v. h.none x (was x v).0;
      closed = λ x y v i c.
          let m : member (pair_eq nat_eq) (run_steps nfa text x) y ≡ true
          = In_member same_pairs (run_steps nfa text x) y (Contains_In same_pairs (run_steps nfa text x) y c) in
          let l : x.0 ≤ y.0 = step_later nfa text x y m in
          let b : k ≤ p.0 = place.0 in
          let d : p.0 < x.0 = further x (was x v).1 i in
          is_marked-without rows p.0 a y ∙ stays y (omega arith) (h.closed x y (was x v).0 (omega arith) m);
    }
      where
        was : (x : ℕ × ℕ) → is_marked (without_marks rows p.0) x ≡ true
            → (is_marked rows x ≡ true) × ((p.0 == x.0) ≡ false)
        was x v = by_test (p.0 == x.0)
            (λ e. absurd (false≢true (sym (is_marked-without rows p.0 a x ∙ rw e refl) ∙ v)))
            (λ e. (sym (is_marked-without rows p.0 a x ∙ rw e refl) ∙ v, e))

        further : (x : ℕ × ℕ) → (p.0 == x.0) ≡ false → p.0 ≤ x.0 → p.0 < x.0
        further x e l = grind (arith, nat_tests, e)

        stays : (y : ℕ × ℕ) → p.0 < y.0 → (is_marked rows y || member (pair_eq nat_eq) (p ∷ ps) y) ≡ true
            → cond (p.0 == y.0) false (is_marked rows y) ≡ true
        stays y l m = by_test (member (pair_eq nat_eq) (p ∷ ps) y)
            (λ e. absurd (let low : y.0 ≤ p.0
            = pending_below nfa k p.0 (p ∷ ps) y (place.0, omega arith, place.2, place.3) e
            in omega arith))
            (λ e. grind (arith, nat_tests, m, e))

-- the stack after a pop
popped : {A : Type 0} (old new : List A) (x : A) → old ≡ new ++ x ∷ [] → reverse old ≡ x ∷ reverse new
popped old new x e = ap (λ l. reverse l) e ∙ reverse-append new (x ∷ [])

-- and after the pairs of a list were pushed, the last of them first
pub pushed : {A : Type 0} (old new xs : List A) → new ≡ old ++ reverse xs → reverse new ≡ xs ++ reverse old
pushed old new xs e = ap (λ l. reverse l) e ∙ reverse-append old (reverse xs)
    ∙ ap (λ l. l ++ reverse old) (reverse-reverse xs)

-- without marks all is spent
pub spent_new : (nfa : Nfa) (text : Text) (k positions states : ℕ)
    → IsSpent nfa text k (replicate positions (replicate states false))
spent_new nfa text k positions states = record {
  none = λ p v. absurd (false≢true (sym (is_marked-none positions states p) ∙ v));
  closed = λ p q v i c. absurd (false≢true (sym (is_marked-none positions states p) ∙ v));
}

-- a pair is on top of the stack, and has a place for its mark
pub record IsTop (nfa : Nfa) (text : Text) (k : ℕ) (rows : List (List Bool)) (before : List (ℕ × ℕ)) (p : ℕ × ℕ)
    (ps : List (ℕ × ℕ)) : Type 0 where
  pub top : before ≡ p ∷ ps
  pub way : IsUnderWay nfa text k rows (p ∷ ps)
  pub row : p.0 < length rows
  pub mark : p.1 < length (slice_index_or rows p.0 [])

pub on_top : (nfa : Nfa) (text : Text) (k : ℕ) (rows : List (List Bool)) (old new : List (ℕ × ℕ)) (p : ℕ × ℕ)
    → old ≡ new ++ p ∷ [] → IsUnderWay nfa text k rows (reverse old) → HasPlaces nfa text rows
    → IsTop nfa text k rows (reverse old) p (reverse new)
on_top nfa text k rows old new p e h places =
    let top : reverse old ≡ p ∷ reverse new = popped old new p e in
    let way : IsUnderWay nfa text k rows (p ∷ reverse new) = subst (λ l. IsUnderWay nfa text k rows l) top h in
    let low : p.0 ≤ length text.bytes = way.falls.1 in
    let state : p.1 < length nfa.states = way.falls.2 in
    let count : length rows ≡ length text.bytes + 1 = places.positions in record {
      top = top;
      way = way;
      row = omega arith;
      mark = omega (arith, places.states p.0 low, state);
    }

one_less : (a b : ℕ) → b ≡ suc a → a < b
one_less a b e = omega arith

-- each iteration leaves one try less
module _ (nfa : Nfa) (accepted : IsAccepted nfa) (text : Text) (rows more : List (List Bool)) (p : ℕ × ℕ)
    (before ps after : List (ℕ × ℕ)) (top : before ≡ p ∷ ps) where
  abbrev left : List (List Bool) → List (ℕ × ℕ) → ℕ
  left rows pairs = tries (pair_eq nat_eq) (run_steps nfa text) (fuel nfa (length text.bytes)) (is_marked rows) pairs

  pub fewer_held : more ≡ rows → after ≡ ps → is_marked rows p ≡ true → left more after < left rows before
  fewer_held m a e = rw (m, a, top) (one_less (left rows ps) (left rows (p ∷ ps))
      (tries-held same_pairs (run_steps nfa text) (fuel nfa (length text.bytes)) (enough nfa accepted text)
      (is_marked rows) p ps e))

  pub fewer_new : p.0 < length rows → p.1 < length (slice_index_or rows p.0 []) → more ≡ with_mark rows p.0 p.1
      → after ≡ run_steps nfa text p ++ ps → is_marked rows p ≡ false → left more after < left rows before
  fewer_new a b m z e =
      let same : is_marked (with_mark rows p.0 p.1) ≡ with_node (pair_eq nat_eq) (is_marked rows) p
      = fun_ext (is_marked-with rows p.0 p.1 a b) in
      rw (m, z, top) (one_less (left (with_mark rows p.0 p.1) (run_steps nfa text p ++ ps)) (left rows (p ∷ ps))
      (tries-new same_pairs (run_steps nfa text) (fuel nfa (length text.bytes)) (enough nfa accepted text)
      (is_marked rows) p ps e
      ∙ ap (λ v. suc (tries (pair_eq nat_eq) (run_steps nfa text) (fuel nfa (length text.bytes)) v
      (run_steps nfa text p ++ ps))) (sym same)))
