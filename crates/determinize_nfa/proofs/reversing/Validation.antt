-- The states of a reversed NFA pass validation, if there are not too many, and one of them is a match.
-- Main statements: only_size, one_match.
-- Used by: `reversed`.
-- Idea: all ids are below the count, no state is sparse or dense, and only one has a pattern.
use Rattle.determinize_nfa.proofs.Common.{Arc, BuildError, ID_LIMIT, In, In_cases, In_head, In_map_from, In_tail}
use Rattle.determinize_nfa.proofs.Common.{IsTooLarge, List, Match, Nfa, Node, None, Some, TooManyStates, Turned, Union}
use Rattle.determinize_nfa.proofs.Common.{[], ap, append-nil, arith, by_cases, by_test, failure, false, filter}
use Rattle.determinize_nfa.proofs.Common.{gathered, get_or_from_slice_get, inr, is_match_node, length, list_all}
use Rattle.determinize_nfa.proofs.Common.{list_any, map, nat_lt, nat_tests, pattern_in, refl, slice_get_within}
use Rattle.determinize_nfa.proofs.Common.{some_injective, sources, states_of, suc, sym, true, ℕ, ◌++◌, ◌+◌, ◌<◌, ◌∙◌}
use Rattle.determinize_nfa.proofs.Common.{◌∷◌, ◌≡◌}
use Rattle.determinize_below.specs.Nfa.{failure_of, is_match_of, is_repeated, states_failure}
use Rattle.determinize_nfa.proofs.reversing.Counts.{length-states}
use Rattle.determinize_nfa.proofs.reversing.Recorded.{IsSound, alone, turned_to}
use Rattle.determinize_nfa.proofs.reversing.StatesById.{arc_within, pattern-alone, pattern-gathered, pattern_within}
use Rattle.std.proofs.lemmas.Bool.{and_from}
use Rattle.std.proofs.lemmas.List.Elements.{filter-append}
use Rattle.std.proofs.lemmas.List.Folds.{list_any-append}

-- a state without a pattern that passes validation
record IsPlain (count : ℕ) (node : Node) : Type 0 where
  passes : (i : ℕ) → failure_of count false i node ≡ None
  pattern : pattern_in node ≡ None

below : (a b : ℕ) → a < b → nat_lt a b ≡ true
below a b l = grind (arith, nat_tests)

-- the state for a transition
alone_plain : (count s : ℕ) (a : Arc) → s < count → IsPlain count (alone (turned_to s a))
alone_plain count s a l = record { passes = λ i. grind (arith, nat_tests, l); pattern = pattern-alone (turned_to s a) }

-- a state with transitions to ids
all_pass : (count : ℕ) (ids : List ℕ) → ((y : ℕ) → In y ids → y < count) → list_all (λ id. nat_lt id count) ids ≡ true
all_pass count [] f = refl
all_pass count (y ∷ ys) f = and_from (nat_lt y count) (list_all (λ id. nat_lt id count) ys)
    (below y count (f y (In_head y ys))) (all_pass count ys (λ z i. f z (In_tail z y ys i)))

gathered_plain : (count : ℕ) (ids : List ℕ) → ((y : ℕ) → In y ids → y < count) → IsPlain count (gathered ids)
gathered_plain count ids f = record {
  passes = λ i. grind (arith, nat_tests, all_pass count ids f);
  pattern = pattern-gathered ids;
}

-- validation of such states
not_match : (q : ℕ) (earlier : List Node) (node : Node) → pattern_in node ≡ None
    → (is_repeated earlier node ≡ false) × (is_match_of q node ≡ false)
not_match q earlier node e = (grind (arith, e), grind (arith, e))

-- plain states before others, where the states before these have a property that plain states keep
plain_before : (count : ℕ) (others : List Node) (Q : List Node → Type 0)
    → ((earlier : List Node) (x : Node) → pattern_in x ≡ None → Q earlier → Q (earlier ++ x ∷ []))
    → ((earlier : List Node) (i : ℕ) → Q earlier → states_failure count earlier i others ≡ None)
    → (xs earlier : List Node) (i : ℕ) → ((x : Node) → In x xs → IsPlain count x) → Q earlier
    → states_failure count earlier i (xs ++ others) ≡ None
plain_before count others Q keep f [] earlier i p q = f earlier i q
plain_before count others Q keep f (x ∷ xs) earlier i p q =
    let plain : IsPlain count x = p x (In_head x xs) in
    rw ((not_match 0 earlier x plain.pattern).0, plain.passes i)
    (plain_before count others Q keep f xs (earlier ++ x ∷ []) (i + 1) (λ y k. p y (In_tail y x xs k))
    (keep earlier x plain.pattern q))

none_matches : (xs : List Node) → ((x : Node) → In x xs → pattern_in x ≡ None) → filter is_match_node xs ≡ []
none_matches [] f = refl
none_matches (x ∷ xs) f = rw (f x (In_head x xs)) (none_matches xs (λ y k. f y (In_tail y x xs k)))

-- the states of the reversed transitions
module _ (nfa : Nfa) (h : Turned) (sound : IsSound nfa h) where
  abbrev count : ℕ
  count = length (states_of h)

  count_is : count ≡ length nfa.states + 2 + length h.rest
  count_is = length-states h ∙ ap (λ n. n + 2 + length h.rest) sound.count

  source_below : (t y : ℕ) → In y (sources h t) → y < count
  source_below t y k = by_cases (sound.into t y k)
      (λ d. omega (arith, count_is, d.0))
      (λ d. by_cases d.4
      (λ e. omega (arith, count_is, e.1, arc_within nfa d.0 d.1 d.2))
      (λ e. omega (arith, count_is, e.1, slice_get_within h.rest e.0 _ e.2)))

  rest_plain : (x : Node) → In x h.rest → IsPlain count x
  rest_plain x k =
      let d = sound.rest x k in rw d.3 (alone_plain count d.0 d.1 (omega (arith, count_is, d.2)))

  into_plain : (x : Node) → In x (map gathered h.into) → IsPlain count x
  into_plain x k = In_map_from gathered x h.into k (λ ids i e.
      let is : sources h i.0 ≡ ids = get_or_from_slice_get h.into i.0 ids [] i.1 in
      rw e (gathered_plain count ids (λ y j. source_below i.0 y (rw is j))))

  ends_plain : IsPlain count (Union h.ends)
  ends_plain =
      let all = all_pass count h.ends (λ y k. let d = sound.ends y k in
      omega (arith, count_is, pattern_within nfa y d.0 d.1)) in
      record { passes = λ i. rw all refl; pattern = refl }

  passes : states_failure count [] 0 (states_of h) ≡ None
  passes = plain_before count (Match 0 ∷ Union h.ends ∷ h.rest) (λ xs. list_any (is_match_of 0) xs ≡ false)
      (λ earlier x e n. list_any-append (is_match_of 0) earlier (x ∷ [])
      ∙ rw (n, (not_match 0 earlier x e).1) refl)
      (λ earlier i n. rw n (rw (append-nil h.rest) at (plain_before count [] (λ xs. Unit {0}) (λ earlier x e q. q)
      (λ earlier i q. refl) (Union h.ends ∷ h.rest) (earlier ++ Match 0 ∷ []) (i + 1)
      (λ x k. In_cases x (Union h.ends) h.rest k (λ e. rw e ends_plain) (rest_plain x)) tt)))
      (map gathered h.into) [] 0 into_plain refl

  -- the only error that validation finds
  pub only_size : (start : ℕ) (e : BuildError) → start ≡ suc (length nfa.states)
      → failure (states_of h) start start ≡ Some e → IsTooLarge count e
  only_size start e z k = by_test (nat_lt ID_LIMIT count)
      (λ t. inr (sym (some_injective TooManyStates e (rw t at k)), above t))
      (λ t. absurd (let j : None ≡ Some e = rw (t, below start count (omega (arith, count_is)), passes) at k in cc))
    where
      above : nat_lt ID_LIMIT count ≡ true → ID_LIMIT < count
      above t = grind (arith, nat_tests)

  pub one_match : filter is_match_node (states_of h) ≡ Match 0 ∷ []
  one_match =
      rw (
        filter-append is_match_node (map gathered h.into) (Match 0 ∷ Union h.ends ∷ h.rest),
        none_matches (map gathered h.into) (λ x k. (into_plain x k).pattern),
        none_matches h.rest (λ x k. (rest_plain x k).pattern),
      ) refl
