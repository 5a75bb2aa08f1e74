-- Marks in a table as a set of pairs.
-- Main statements: set_at, changed_at, is_marked-with, is_marked-without, is_marked-none, places_with, places_without,
-- places_new, with_mark-marked.
-- Used by: the loop of a search, and `Visited`.
-- Idea: a list in a list changes at one index of one list.
use Rattle.std.proofs.Common.{◌≡◌, ◌<◌, ◌+◌, ◌∙◌, ◌==◌, ℕ, Bool, List, [], ap, arith, cond, false, get_or, length}
use Rattle.std.proofs.Common.{map, nat_eq, refl, replicate, set, sym, true}
use Rattle.std.proofs.lemmas.Bool.Decides.{nat_tests}
use Rattle.std.proofs.lemmas.Bool.{eqb-true}
use Rattle.std.proofs.lemmas.List.{get_or-map, get_or-replicate, get_or-set_other, get_or-set_same, get_or_past}
use Rattle.std.proofs.lemmas.List.{length-replicate, length-set, map-set, set-get_or}
use Rattle.determinize_below.specs.Semantics.{Nfa, Text}
use Rattle.ordered_reach.proofs.Cases.{by_cases, by_test}
use Rattle.ordered_reach.proofs.runs.ByPosition.{pair_eq}
use Rattle.ordered_reach.specs.Reach.{with_node}
use Rattle.std.proofs.lemmas.Bool.{cases_lt}
use Rattle.determinize_linear.specs.Private.Marks.{is_marked, with_mark, without_marks}
use Rattle.determinize_linear.specs.Private.Spent.{HasPlaces}

-- the element at an index after one element is set
pub set_at : {A : Type 0} (xs : List A) (i j : ℕ) (x d : A) → i < length xs
    → get_or (set xs i x) j d ≡ cond (i == j) x (get_or xs j d)
set_at xs i j x d l = by_test (i == j)
    (λ e. let z : i ≡ j = eqb-true i j e in rw e (rw (← z) (get_or-set_same xs i x d l)))
    (λ e. rw e (get_or-set_other xs i j x d (λ z. grind (arith, nat_tests))))

-- one list of some lists is changed, as the program does it
pub changed_at : {V : Type 0} (items : V → List Bool) (lists : List V) (i : ℕ) (old new : V)
    (change : List Bool → List Bool) → i < length lists → old ≡ get_or lists i old → items new ≡ change (items old)
    → map items (set lists i new) ≡ set (map items lists) i (change (get_or (map items lists) i []))
changed_at items lists i old new change l e n =
    let o : items old ≡ get_or (map items lists) i [] = ap items e ∙ sym (get_or-map items lists i old [] l) in
    map-set items lists i new ∙ ap (λ w. set (map items lists) i w) (n ∙ ap change o)

-- a pair is marked if it is the new one, or was marked
pub is_marked-with : (rows : List (List Bool)) (at id : ℕ) → at < length rows → id < length (get_or rows at [])
    → (q : ℕ × ℕ) → is_marked (with_mark rows at id) q ≡ with_node (pair_eq nat_eq) (is_marked rows) (at, id) q
is_marked-with rows at id l m q =
    let row : List Bool = set (get_or rows at []) id true in
    let outer : get_or (set rows at row) q.0 [] ≡ cond (at == q.0) row (get_or rows q.0 [])
    = set_at rows at q.0 row [] l in
    let inner : get_or row q.1 false ≡ cond (id == q.1) true (get_or (get_or rows at []) q.1 false)
    = set_at (get_or rows at []) id q.1 true false m in
    ap (λ r. get_or r q.1 false) outer ∙ by_test (at == q.0)
    (λ e. let z : at ≡ q.0 = eqb-true at q.0 e in
    let same : get_or (get_or rows at []) q.1 false ≡ get_or (get_or rows q.0 []) q.1 false
    = ap (λ i. get_or (get_or rows i []) q.1 false) z in
    grind (arith, e, inner, same))
    (λ e. grind (arith, e))

-- a pair is marked if it was and is at another position
pub is_marked-without : (rows : List (List Bool)) (at : ℕ) → at < length rows → (q : ℕ × ℕ)
    → is_marked (without_marks rows at) q ≡ cond (at == q.0) false (is_marked rows q)
is_marked-without rows at l q =
    let row : List Bool = replicate (length (get_or rows at [])) false in
    let outer : get_or (set rows at row) q.0 [] ≡ cond (at == q.0) row (get_or rows q.0 [])
    = set_at rows at q.0 row [] l in
    ap (λ r. get_or r q.1 false) outer ∙ by_test (at == q.0)
    (λ e. rw e (unmarked (length (get_or rows at [])) q.1))
    (λ e. rw e refl)
  where
    unmarked : (n i : ℕ) → get_or (replicate n false) i false ≡ false
    unmarked n i = by_cases (cases_lt i n)
        (λ k. get_or-replicate n i false false k)
        (λ k. get_or_past (replicate n false) i false (omega (arith, length-replicate n false, k)))

-- the places stay
pub places_with : (nfa : Nfa) (text : Text) (rows : List (List Bool)) (at id : ℕ) → at < length rows
    → HasPlaces nfa text rows → HasPlaces nfa text (with_mark rows at id)
places_with nfa text rows at id l h = record {
  positions = length-set rows at (set (get_or rows at []) id true) ∙ h.positions;
  states = λ i k. ap length (set_at rows at i (set (get_or rows at []) id true) [] l) ∙ by_test (at == i)
      (λ e. let z : at ≡ i = eqb-true at i e in
      rw e (length-set (get_or rows at []) id true ∙ ap (λ j. length (get_or rows j [])) z ∙ h.states i k))
      (λ e. rw e (h.states i k));
}

pub places_without : (nfa : Nfa) (text : Text) (rows : List (List Bool)) (at : ℕ) → at < length rows
    → HasPlaces nfa text rows → HasPlaces nfa text (without_marks rows at)
places_without nfa text rows at l h =
    let row : List Bool = replicate (length (get_or rows at [])) false in record {
      positions = length-set rows at row ∙ h.positions;
      states = λ i k. ap length (set_at rows at i row [] l) ∙ by_test (at == i)
          (λ e. let z : at ≡ i = eqb-true at i e in
          rw e (length-replicate (length (get_or rows at [])) false ∙ ap (λ j. length (get_or rows j [])) z
          ∙ h.states i k))
          (λ e. rw e (h.states i k));
    }

-- a new table has all places
pub places_new : (nfa : Nfa) (text : Text) → HasPlaces nfa text
    (replicate (length text.bytes + 1) (replicate (length nfa.states) false))
places_new nfa text = record {
  positions = length-replicate (length text.bytes + 1) (replicate (length nfa.states) false);
  states = λ i l. ap length (get_or-replicate (length text.bytes + 1) i (replicate (length nfa.states) false) []
      (omega (arith, l))) ∙ length-replicate (length nfa.states) false;
}

-- and no mark
pub is_marked-none : (positions states : ℕ) (q : ℕ × ℕ)
    → is_marked (replicate positions (replicate states false)) q ≡ false
is_marked-none positions states q = by_cases (cases_lt q.0 positions)
    (λ l. ap (λ r. get_or r q.1 false) (get_or-replicate positions q.0 (replicate states false) [] l) ∙ unmarked)
    (λ l. ap (λ r. get_or r q.1 false) (get_or_past (replicate positions (replicate states false)) q.0 []
    (omega (arith, length-replicate positions (replicate states false), l))))
  where
    unmarked : get_or (replicate states false) q.1 false ≡ false
    unmarked = by_cases (cases_lt q.1 states)
        (λ k. get_or-replicate states q.1 false false k)
        (λ k. get_or_past (replicate states false) q.1 false (omega (arith, length-replicate states false, k)))

-- a mark that is set twice
pub with_mark-marked : (rows : List (List Bool)) (at id : ℕ) → is_marked rows (at, id) ≡ true
    → with_mark rows at id ≡ rows
with_mark-marked rows at id e =
    ap (λ b. set rows at (set (get_or rows at []) id b)) (sym e)
    ∙ ap (λ row. set rows at row) (set-get_or (get_or rows at []) id false)
    ∙ set-get_or rows at []
