-- The states that are reached are found one after another, and their list is closed in the end.
-- Main statements: found_start, found_more, found_all, found_index, over the record IsFound.
-- Used by: `reached`.
-- Idea: the targets of the states visited so far are in the list, which has no element twice and so cannot grow for
-- ever.
use Rattle.determinize_nfa.proofs.Common.{All, All_at, In, In_append_cases, In_append_left, In_append_right, In_cases}
use Rattle.determinize_nfa.proofs.Common.{In_head, In_map_from, In_none, In_tail, IsAccepted, IsClosed, IsDistinct}
use Rattle.determinize_nfa.proofs.Common.{List, Nfa, Node, None, Some, [], all_visited, ap, append-nil, append_assoc}
use Rattle.determinize_nfa.proofs.Common.{arcs_of, arith, by_cases, by_test, cases_lt, get_or, get_or_from_slice_get}
use Rattle.determinize_nfa.proofs.Common.{leads_to, length, nat_eq, next_of, refl, slice_get, slice_get-get_or}
use Rattle.determinize_nfa.proofs.Common.{slice_get_within, state_at, sym, take, targets_in, true, ℕ, ◌++◌, ◌+◌, ◌<◌}
use Rattle.determinize_nfa.proofs.Common.{◌∙◌, ◌∷◌, ◌≡◌, ◌≤◌}
use Rattle.std.proofs.lemmas.List.Elements.{All-nil, All-push}
use Rattle.std.proofs.lemmas.Map.Steps.{length-le_from_distinct_below}
use Rattle.determinize_below.specs.Members.{has_id}
use Rattle.determinize_below.proofs.sets.SparseSets.{distinct_none, distinct_push}
use Rattle.determinize_nfa.specs.Private.Closed.{visited}
use Rattle.determinize_nfa.proofs.kinds.ArcsOfStates.{arc_below, leads_arc}
use Rattle.determinize_nfa.proofs.kinds.TestedLists.{In_one, any_In}
use Rattle.determinize_nfa.proofs.prefixes.Parts.{state_is}
use Rattle.std.proofs.lemmas.List.{take-append-le, take_all, take_more}

-- distinct ids below a number: these, and then those of a list that are new
pub record IsLonger (count : ℕ) (old xs new : List ℕ) : Type 0 where
  pub distinct : IsDistinct nat_eq new
  pub below : All (λ id. id < count) new
  pub more : List ℕ
  pub is : new ≡ old ++ more
  pub has : (x : ℕ) → In x xs → In x new

longer_one : (count : ℕ) (ids : List ℕ) (id : ℕ) → IsDistinct nat_eq ids → All (λ x. x < count) ids → id < count
    → IsLonger count ids (id ∷ []) (visited ids id)
longer_one count ids id d b l = by_test (has_id ids id)
    (λ e. rw e (record {
      distinct = d;
      below = b;
      more = [];
      is = sym (append-nil ids);
      has = λ x k. rw (In_one x id k) (any_In id ids e);
    }))
    (λ e. rw e (record {
      distinct = distinct_push ids id d e;
      below = All-push (λ x. x < count) ids id b l;
      more = id ∷ [];
      is = refl;
      has = λ x k. In_append_right x ids (id ∷ []) k;
    }))

longer_all : (count : ℕ) (xs ids : List ℕ) → IsDistinct nat_eq ids → All (λ x. x < count) ids
    → ((x : ℕ) → In x xs → x < count) → IsLonger count ids xs (all_visited ids xs)
longer_all count [] ids d b f =
    record { distinct = d; below = b; more = []; is = sym (append-nil ids); has = λ x k. In_none x k }
longer_all count (y ∷ ys) ids d b f =
    let v = longer_one count ids y d b (f y (In_head y ys)) in
    let w = longer_all count ys (visited ids y) v.distinct v.below (λ x k. f x (In_tail x y ys k)) in
    record {
      distinct = w.distinct;
      below = w.below;
      more = v.more ++ w.more;
      is = w.is ∙ ap (λ z. z ++ w.more) v.is ∙ append_assoc ids v.more w.more;
      has = λ x k. In_cases x y ys k
          (λ e. rw (e, w.is) (In_append_left y (visited ids y) w.more (v.has y (In_head y []))))
          (w.has x);
    }

-- the states that were found: distinct, with the start, and with the targets of the first of them
pub record IsFound (nfa : Nfa) (ids : List ℕ) (done : ℕ) : Type 0 where
  pub distinct : IsDistinct nat_eq ids
  pub below : All (λ id. id < length nfa.states) ids
  pub start : In nfa.start_anchored ids
  pub followed : (s t : ℕ) → In s (take done ids) → leads_to t (state_at nfa s) ≡ true → In t ids

pub found_start : (nfa : Nfa) → nfa.start_anchored < length nfa.states → IsFound nfa (visited [] nfa.start_anchored) 0
found_start nfa l =
    let v = longer_one (length nfa.states) [] nfa.start_anchored (distinct_none [] refl)
    (All-nil (λ x. x < length nfa.states)) l in
    record {
      distinct = v.distinct;
      below = v.below;
      start = v.has nfa.start_anchored (In_head nfa.start_anchored []);
      followed = λ s t k. In_none s k;
    }

found_count : (nfa : Nfa) (ids : List ℕ) (done : ℕ) → IsFound nfa ids done → length ids ≤ length nfa.states
found_count nfa ids done f = length-le_from_distinct_below ids (length nfa.states) f.distinct
    (λ q m. All_at (λ id. id < length nfa.states) ids f.below q (any_In q ids m))

-- the next state is followed
pub found_more : (nfa : Nfa) → IsAccepted nfa → (ids : List ℕ) (k s : ℕ) (node : Node) → IsFound nfa ids k
    → slice_get ids k ≡ Some s → slice_get nfa.states s ≡ Some node
    → IsFound nfa (all_visited ids (targets_in node)) (k + 1)
found_more nfa accepted ids k s node f e n =
    let is : state_at nfa s ≡ node = state_is nfa s node n in
    let within : k < length ids = slice_get_within ids k s e in
    let w = longer_all (length nfa.states) (targets_in node) ids f.distinct f.below target_below in
    let stays : (x : ℕ) → In x ids → In x (all_visited ids (targets_in node))
    = λ x i. rw w.is (In_append_left x ids w.more i) in
    let first : take (k + 1) (all_visited ids (targets_in node)) ≡ take k ids ++ s ∷ []
    = rw (
      w.is,
      take-append-le (k + 1) ids w.more (omega arith),
      take_more ids k s within,
      get_or_from_slice_get ids k s s e,
    ) refl in
    record {
      distinct = w.distinct;
      below = w.below;
      start = stays nfa.start_anchored f.start;
      followed = λ x t i m. In_append_cases x (take k ids) (s ∷ []) (rw first at i)
          (λ j. stays t (f.followed x t j m))
          (λ j. w.has t (leads_arc t node (rw (In_one x s j, is) at m)));
    }
  where
    target_below : (x : ℕ) → In x (targets_in node) → x < length nfa.states
    target_below x i = In_map_from next_of x (arcs_of node) i (λ a j z. rw z (arc_below nfa accepted s node a n j))

-- with no state left, the states are closed
pub found_all : (nfa : Nfa) (ids : List ℕ) (k : ℕ) → IsFound nfa ids k → slice_get ids k ≡ None → IsClosed nfa ids
found_all nfa ids k f e = record {
  start = f.start;
  further = λ s t i l. f.followed s t (rw (take_all k ids all) i) l;
}
  where
    all : length ids ≤ k
    all = by_cases (cases_lt k (length ids))
        (λ l. absurd (let z : Some (get_or ids k 0) ≡ None = sym (slice_get-get_or ids k 0 l) ∙ e in cc))
        (λ l. l)

pub found_index : (nfa : Nfa) (ids : List ℕ) (k s : ℕ) → IsFound nfa ids k → slice_get ids k ≡ Some s
    → (k < length nfa.states) × (s < length nfa.states)
found_index nfa ids k s f e = (
  omega (arith, slice_get_within ids k s e, found_count nfa ids k f),
  All_at (λ id. id < length nfa.states) ids f.below s (k, e),
)
