-- The patterns of the states that runs reach, in terms of whole runs, and that runs determine what a walk lists.
-- Main statements: lists_accepted, each_answer_is_one.
-- Used by: WalkOfRuns, `answer_law`.
-- Idea: a pattern has one `Match`, so its best run is the least run to that state; least runs are unique, so lists in
-- their order are.
use Rattle.determinize_core.proofs.Common.{[], ap, arith, Before, Bool, by_option, choices, Contains, is_capture}
use Rattle.determinize_core.proofs.Common.{is_match, IsBestRun, IsLeastRun, IsPreferredRun, IsReached, List}
use Rattle.determinize_core.proofs.Common.{ListsAccepted, Match, Nfa, option_to_list, pattern_in, pattern_of}
use Rattle.determinize_core.proofs.Common.{patterns_of, refl, same_decides, Some, some_injective, state_at, sym, Text}
use Rattle.determinize_core.proofs.Common.{true, ℕ, ◌∙◌, ◌∷◌, ◌≡◌}
use Rattle.ordered_reach.proofs.lists.Elements.{Contains_In, In, In_append_right, In_cases, In_Contains, In_head}
use Rattle.ordered_reach.proofs.lists.Elements.{In_none, In_tail, same_by_order}
use Rattle.determinize_below.proofs.nfas.SoundNfa.{IsSound, match_in}
use Rattle.determinize_below.proofs.nfas.Edges.{match-capture}
use Rattle.std.proofs.lemmas.Map.Made.{IsDistinct-from_AllPairs}
use Rattle.ordered_reach.proofs.lists.Pairs.{pairs_at, pairs_from, Sorted, Sorted-at, Sorted-from}
use Rattle.std.specs.List.{AllPairs}
use Rattle.std.specs.Prelude.{◌↔◌}
use Rattle.determinize_below.specs.Reached.{known_choices}
use Rattle.ordered_reach.specs.Runs.{ListsReached}
use Rattle.ordered_reach.proofs.lists.Lexicographic.{Before-asym, same_least}
use Rattle.ordered_reach.proofs.graph.UniqueOrder.{one_end}
use Rattle.determinize_core.specs.Laws.{EachAnswerIsOne}

-- two numbers have runs that are in order
abbrev AreOrdered : (List ℕ → ℕ → Type 0) → ℕ → ℕ → Type 0
AreOrdered IsRunOf x y = (cs : List ℕ) × (ds : List ℕ) × IsRunOf cs x × IsRunOf ds y × Before cs ds

-- and they are distinct
abbrev AreApart : (List ℕ → ℕ → Type 0) → ℕ → ℕ → Type 0
AreApart IsRunOf x y = (x ≡ y → ⊥) × AreOrdered IsRunOf x y

module _ (nfa : Nfa) where
  patterns_In : {P : Type 0} (xs : List ℕ) (x : ℕ) → In x (patterns_of nfa xs)
      → ((s : ℕ) → In s xs → pattern_of nfa s ≡ Some x → P) → P
  patterns_In [] x h f = In_none x h
  patterns_In (z ∷ xs) x h f = by_option (pattern_of nfa z)
      (λ e. patterns_In xs x (rw e at h) (λ s i q. f s (In_tail s z xs i) q))
      (λ w e. In_cases x w (patterns_of nfa xs) (rw e at h)
      (λ q. f z (In_head z xs) (e ∙ ap Some (sym q)))
      (λ i. patterns_In xs x i (λ s j q. f s (In_tail s z xs j) q)))

  In_patterns : (xs : List ℕ) (s x : ℕ) → In s xs → pattern_of nfa s ≡ Some x → In x (patterns_of nfa xs)
  In_patterns [] s x h e = In_none s h
  In_patterns (z ∷ xs) s x h e = In_cases s z xs h
      (λ q. let k : pattern_of nfa z ≡ Some x = cc in rw k (In_head x (patterns_of nfa xs)))
      (λ i. In_append_right x (option_to_list (pattern_of nfa z)) (patterns_of nfa xs) (In_patterns xs s x i e))

  -- patterns are in order where their states are
  Sorted-patterns : (R S : ℕ → ℕ → Type 0)
      → ((s t x y : ℕ) → S s t → pattern_of nfa s ≡ Some x → pattern_of nfa t ≡ Some y → R x y)
      → (xs : List ℕ) → Sorted S xs → Sorted R (patterns_of nfa xs)
  Sorted-patterns R S f [] h = tt
  Sorted-patterns R S f (z ∷ xs) h = by_option (pattern_of nfa z)
      (λ e. rw e (Sorted-patterns R S f xs h.1))
      (λ x e. rw e ((λ y i. patterns_In xs y i (λ t j. f z t x y (h.0 t j) e)), Sorted-patterns R S f xs h.1))

  pub matches_at : (s x : ℕ) → state_at nfa s ≡ Match x → is_match nfa s ≡ true
  matches_at s x e = rw e refl

  module _ (sound : IsSound nfa) (text : Text) (start : ℕ) where
    -- the patterns of what is reached are those that runs accept, best run first
    pub lists_accepted : (i : ℕ) (xs : List ℕ) → IsReached nfa text start i xs
        → ListsAccepted nfa text start i (patterns_of nfa xs)
    lists_accepted i xs is = record {
      accepted = λ x. (
        (λ c. patterns_In xs x (Contains_In same_decides _ x c) (λ s j e.
            let r = (is.reached s).0 (In_Contains same_decides xs s j) in
            (r.1.0, (s, r.1.1, match_in (state_at nfa s) x e)))),
        (λ h. In_Contains same_decides _ x (In_patterns xs h.1.0 x
            (Contains_In same_decides xs h.1.0 ((is.reached h.1.0).1
            (match-capture nfa h.1.0 (matches_at h.1.0 x h.1.2), (h.0, h.1.1))))
            (ap pattern_in h.1.2))),
      );
      once = IsDistinct-from_AllPairs same_decides _ (λ a b d l m. (pairs a b d l m).0);
      best_first = λ a b d l m. (pairs a b d l m).1;
    }
      where
        best_of : (cs : List ℕ) (s x : ℕ) → pattern_of nfa s ≡ Some x
            → IsLeastRun (choices nfa text) (0, start) cs (i, s) → IsBestRun nfa text start cs i x
        best_of cs s x e h = record {
          accepts = (s, h.run, match_in (state_at nfa s) x e);
          best = λ ds a. h.least ds (rw (sound.one_match a.0 s x (ap pattern_in a.2) e) at a.1);
        }

        pairs : AllPairs (AreApart (λ cs x. IsBestRun nfa text start cs i x)) (patterns_of nfa xs)
        pairs = pairs_from _ _ (Sorted-at _ _ (Sorted-patterns (AreApart (λ cs x. IsBestRun nfa text start cs i x))
            (AreApart (λ cs s. IsLeastRun (choices nfa text) (0, start) cs (i, s)))
            (λ s t x y h p q. (
              λ e. h.0 (sound.one_match s t x p (q ∙ ap Some (sym e))),
              (h.1.0, h.1.1, best_of h.1.0 s x p h.1.2, best_of h.1.1 t y q h.1.3, h.1.4),
            ))
            xs (Sorted-from _ xs (λ a b s t l p q. (
              λ e. let same : a ≡ b = is.once a b s p (q ∙ ap Some (sym e)) in omega arith,
              is.by_least a b s t l p q,
            )))))

-- where each number has one run, two ordered lists of the same numbers are equal
one_list : (IsRunOf : List ℕ → ℕ → Type 0) (IsListed : ℕ → Type 0) (xs ys : List ℕ)
    → ((x : ℕ) (cs ds : List ℕ) → IsRunOf cs x → IsRunOf ds x → cs ≡ ds) → ((x : ℕ) → (Contains xs x) ↔ IsListed x)
    → ((x : ℕ) → (Contains ys x) ↔ IsListed x) → AllPairs (AreOrdered IsRunOf) xs
    → AllPairs (AreOrdered IsRunOf) ys → xs ≡ ys
one_list IsRunOf IsListed xs ys one f g a b = same_by_order (AreOrdered IsRunOf)
    (λ x y p q. Before-asym q.1 q.0 (rw (one x p.0 q.1 p.2 q.3, one y p.1 q.0 p.3 q.2) at p.4) q.4) xs ys
    (λ x h. Contains_In same_decides ys x ((g x).1 ((f x).0 (In_Contains same_decides xs x h))))
    (λ x h. Contains_In same_decides xs x ((f x).1 ((g x).0 (In_Contains same_decides ys x h))))
    (pairs_at _ xs a) (pairs_at _ ys b)

module _ (nfa : Nfa) (text : Text) (start : ℕ) where
  one_listing : (i : ℕ) (ps qs : List ℕ) → ListsAccepted nfa text start i ps → ListsAccepted nfa text start i qs
      → ps ≡ qs
  one_listing i ps qs a b = one_list (λ cs x. IsBestRun nfa text start cs i x) _ ps qs
      (λ x cs ds p q. same_least cs ds (p.best ds q.accepts) (q.best cs p.accepts))
      a.accepted b.accepted a.best_first b.best_first

  one_preferred : (i j x y : ℕ) (cs ds : List ℕ) → IsPreferredRun nfa text start cs i x
      → IsPreferredRun nfa text start ds j y → (i ≡ j) × (x ≡ y)
  one_preferred i j x y cs ds a b =
      let e : cs ≡ ds = same_least cs ds (a.preferred ds j y b.accepts) (b.preferred cs i x a.accepts) in
      let q : (i, a.accepts.0) ≡ (j, b.accepts.0) =
      one_end (choices nfa text) [] (0, start) ds (i, a.accepts.0) (j, b.accepts.0)
      (rw e at a.accepts.1) b.accepts.1 in (
        ap (λ w. w.0) q,
        some_injective x y (ap pattern_in (sym a.accepts.2 ∙ ap (λ w. state_at nfa w.1) q ∙ b.accepts.2)),
      )

-- a list in the order of the least runs is one
one_reached : (edges : ℕ × ℕ → List (ℕ × ℕ)) (cap : ℕ → Bool) (start i : ℕ) (xs ys : List ℕ)
    → ListsReached edges cap start i xs → ListsReached edges cap start i ys → xs ≡ ys
one_reached edges cap start i xs ys a b = one_list (λ cs s. IsLeastRun edges (0, start) cs (i, s)) _ xs ys
    (λ s cs ds p q. same_least cs ds (p.least ds q.run) (q.least cs p.run)) a.reached b.reached
    (pairs_from _ xs a.by_least) (pairs_from _ ys b.by_least)

pub each_answer_is_one : EachAnswerIsOne
each_answer_is_one nfa text start = (
  one_listing nfa text start,
  one_preferred nfa text start,
  λ i. one_reached (known_choices nfa text i) (is_capture nfa) start i,
  λ i. one_reached (choices nfa text) (is_capture nfa) start i,
)
