-- The states at which a sequence, a choice and a pattern before its `Match` state begin.
-- Main statements: then_entry, or_entry, pattern_found, if_moved, if_stayed.
-- Used by: Loops, Leftmost and the files compiled.
-- Idea: what a state finds is the join of what its targets find.
use Rattle.std.specs.List.{flat_map}
use Rattle.std.specs.Option.{option_to_list}
use Rattle.std.specs.Prelude.{Contains, cond, map, nat_lt, option_map, slice_get}
use Rattle.std.proofs.Common.{◌≡◌, ◌<◌, ◌++◌, ◌∙◌, ◌∷◌, ℕ, Bool, List, None, Option, Some, [], ap, arith, false, refl, suc, sym, true}
use Rattle.std.proofs.lemmas.List.Concat.{flat_map-append}
use Rattle.std.proofs.lemmas.List.Concat.{flat_map_single}
use Rattle.ordered_reach.proofs.Cases.{by_cases, by_test}
use Rattle.ordered_reach.proofs.lists.Elements.{Contains_from_In, In, In_append_left, In_append_right, In_cases, In_flat_map, In_from_Contains, In_head, In_none}
use Rattle.ordered_reach.proofs.walks.Steps.{list_none, list_two}
use Rattle.determinize_below.specs.Edges.{pattern_in, pattern_of}
use Rattle.determinize_below.specs.Semantics.{Fail, Match, Nfa, Node, Text, Union, after_at, before_at, choices, edges_of, holds, state_at, target_of}
use Rattle.determinize_pattern.proofs.entries.Ends.{Onward, ends_onward, lt_false, lt_true}
use Rattle.determinize_pattern.specs.Private.Entries.{Finds, IsEntry, matched, target_of_end}
use Rattle.determinize_pattern.specs.Meaning.{Or, Re, Then, ends}

pub flat_map-flat_map : {A B C : Type 0} (f : B → List C) (g : A → List B) (xs : List A)
    → flat_map f (flat_map g xs) ≡ flat_map (λ x. flat_map f (g x)) xs
flat_map-flat_map f g [] = refl
flat_map-flat_map f g (x ∷ xs) = rw (flat_map-append f (g x) (flat_map g xs), flat_map-flat_map f g xs) refl

pub if_same : {A : Type 0} (b : Bool) (x : A) → cond b x x ≡ x
if_same true x = refl
if_same false x = refl

pub if_moved : (i j moved stayed : ℕ) → i < j → target_of_end i j moved stayed ≡ moved
if_moved i j moved stayed l = rw (lt_true i j l) refl

pub if_stayed : (i j moved stayed : ℕ) → j ≡ i → target_of_end i j moved stayed ≡ stayed
if_stayed i j moved stayed l = rw (lt_false i j l) refl

module _ (nfa : Nfa) (text : Text) where
  -- the steps from a state: over a byte, and then without one
  abbrev pub steps_of : ℕ → Node → List (ℕ × ℕ)
  steps_of i node = map (λ t. (suc i, t)) (option_to_list (target_of (slice_get text.bytes i) node))
      ++ map (λ t. (i, t)) (edges_of (holds nfa.reverse nfa.terminator (before_at text i) (after_at text i)) node)

  pub next_of : (s i : ℕ) (node : Node) → state_at nfa s ≡ node → choices nfa text (i, s) ≡ steps_of i node
  next_of s i node e = rw e refl

  pub unlabelled : (s i : ℕ) (node : Node) → state_at nfa s ≡ node → pattern_in node ≡ None → matched nfa (i, s) ≡ []
  unlabelled s i node e n = rw (e, n) refl

  pub fails : (s i : ℕ) → state_at nfa s ≡ Fail → Finds nfa text s i []
  fails s i e = rw (unlabelled s i Fail e refl) at
      (list_none (choices nfa text) (matched nfa) (i, s) (next_of s i Fail e))

  pub finds_two : (s t u i : ℕ) (xs ys : List (ℕ × ℕ)) → state_at nfa s ≡ Union (t ∷ u ∷ []) → Finds nfa text t i xs
      → Finds nfa text u i ys → Finds nfa text s i (xs ++ ys)
  finds_two s t u i xs ys e h k = list_two (choices nfa text) (matched nfa) (i, s) (i, t) (i, u) xs ys
      (next_of s i (Union (t ∷ u ∷ [])) e) (unlabelled s i (Union (t ∷ u ∷ [])) e refl) h k

  abbrev E : Re → ℕ → List ℕ
  E re = ends nfa.terminator text re

  -- a run from j to k continues where one from i to j and then to k does
  continues : (i j k moved stayed : ℕ) → Onward text i j → Onward text j k
      → target_of_end i k moved stayed ≡ target_of_end j k moved (target_of_end i j moved stayed)
  continues i j k moved stayed a b = by_cases b
      (λ e. ap (λ w. target_of_end i w moved stayed) e ∙ sym (if_stayed j k moved (target_of_end i j moved stayed) e))
      (λ l. if_moved i k moved stayed (by_cases a (λ e. omega (arith, l.0)) (λ m. omega (arith, l.0, m.0)))
      ∙ sym (if_moved j k moved (target_of_end i j moved stayed) l.0))

  pub then_entry : (a b : Re) (moved stayed onward here s : ℕ)
      → IsEntry nfa text b moved moved onward → IsEntry nfa text b moved stayed here
      → IsEntry nfa text a onward here s → IsEntry nfa text (Then a b) moved stayed s
  then_entry a b moved stayed onward here s ho hs ha i zs h =
      rw (flat_map-flat_map zs (E b) (E a i)) (ha i (λ j. flat_map zs (E b j)) each)
    where
      rest : (j : ℕ) → In j (E a i) → (k : ℕ) → Contains (E b j) k
          → Finds nfa text (target_of_end j k moved (target_of_end i j moved stayed)) k (zs k)
      rest j c k d =
          let l = In_from_Contains (E b j) k d in
          rw (continues i j k moved stayed (ends_onward nfa.terminator text a i j c)
          (ends_onward nfa.terminator text b j k l)) at
          (h k (Contains_from_In (flat_map (E b) (E a i)) k (In_flat_map (E b) (E a i) j k c l)))

      each : (j : ℕ) → Contains (E a i) j → Finds nfa text (target_of_end i j onward here) j (flat_map zs (E b j))
      each j c =
          let l = In_from_Contains (E a i) j c in
          by_test (nat_lt i j)
          (λ e. rw e (ho j zs (λ k d. rw e at (rest j l k d))))
          (λ e. rw e (hs j zs (λ k d. rw e at (rest j l k d))))

  pub or_entry : (a b : Re) (moved stayed first second s : ℕ)
      → IsEntry nfa text a moved stayed first → IsEntry nfa text b moved stayed second
      → state_at nfa s ≡ Union (first ∷ second ∷ []) → IsEntry nfa text (Or a b) moved stayed s
  or_entry a b moved stayed first second s ha hb e i zs h =
      rw (flat_map-append zs (E a i) (E b i))
      (finds_two s first second i (flat_map zs (E a i)) (flat_map zs (E b i)) e
      (ha i zs (λ j c. h j (either j (In_append_left j (E a i) (E b i) (In_from_Contains (E a i) j c)))))
      (hb i zs (λ j c. h j (either j (In_append_right j (E a i) (E b i) (In_from_Contains (E b i) j c))))))
    where
      either : (j : ℕ) → In j (E a i ++ E b i) → Contains (E a i ++ E b i) j
      either j l = Contains_from_In (E a i ++ E b i) j l

  match_found : (m pattern i : ℕ) → state_at nfa m ≡ Match pattern → Finds nfa text m i ((pattern, i) ∷ [])
  match_found m pattern i e =
      let label : matched nfa (i, m) ≡ (pattern, i) ∷ [] = rw e refl in
      rw label at (list_none (choices nfa text) (matched nfa) (i, m) (next_of m i (Match pattern) e))

  -- the entry of a pattern in front of its `Match` state finds its ends
  pub pattern_found : (re : Re) (m pattern s i : ℕ) → state_at nfa m ≡ Match pattern → IsEntry nfa text re m m s
      → Finds nfa text s i (map (λ j. (pattern, j)) (E re i))
  pattern_found re m pattern s i e h =
      let one : ℕ → ℕ × ℕ = λ j. (pattern, j) in
      rw (flat_map_single one (E re i)) at
      (h i (λ j. (pattern, j) ∷ []) (λ j c. rw (if_same (nat_lt i j) m) (match_found m pattern j e)))

  -- the label of a pair is its pattern and position
  pub label_is : (q : ℕ × ℕ) (x : ℕ × ℕ) → In x (matched nfa q) → (pattern_of nfa q.1 ≡ Some x.0) × (q.0 ≡ x.1)
  label_is q x h = go (pattern_of nfa q.1) refl h
    where
      go : (o : Option ℕ) → pattern_of nfa q.1 ≡ o
          → In x (option_to_list (option_map (λ pattern. (pattern, q.0)) o))
          → (pattern_of nfa q.1 ≡ Some x.0) × (q.0 ≡ x.1)
      go None e k = In_none x k
      go (Some p) e k = In_cases x (p, q.0) [] k
          (λ z. (e ∙ ap Some (sym (ap (λ w. w.0) z)), sym (ap (λ w. w.1) z))) (λ l. In_none x l)

  pub label_of : (i s pattern : ℕ) → state_at nfa s ≡ Match pattern → In (pattern, i) (matched nfa (i, s))
  label_of i s pattern e = rw e (In_head (pattern, i) [])
