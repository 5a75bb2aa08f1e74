-- The pairs that follow a pair in runs, by the kind of its state.
-- Main statements: map_reversed, choices_look, choices_not_look, choices_union, choices_both, choices_capture,
-- choices_byte.
-- Used by: `push_each` and `push_choices`.
-- Idea: a state has a target over a byte, or epsilon transitions, and not both.
use Rattle.std.specs.Prelude.{slice_get}
use Rattle.std.proofs.Common.{◌≡◌, ◌++◌, ◌∙◌, ◌∷◌, ℕ, Bool, List, Some, [], ap, append-nil, false, map, refl, reverse}
use Rattle.std.proofs.Common.{sym, true}
use Rattle.std.proofs.lemmas.List.{map-append, reverse-append}
use Rattle.std.proofs.lemmas.Option.{get_or_from_slice_get}
use Rattle.determinize_below.specs.Semantics.{BinaryUnion, Capture, Fail, Look, Nfa, Node, Text, Union, after_at}
use Rattle.determinize_below.specs.Semantics.{before_at, choices, edges_of, holds}
use Rattle.determinize_below.specs.declared.look.Look.{Look as Assertion}
use Rattle.ordered_reach.specs.Runs.{placed}
use Rattle.determinize_linear.proofs.search.Targets.{over_byte}

pub map_reversed : {A B : Type 0} (f : A → B) (xs : List A) → map f (reverse xs) ≡ reverse (map f xs)
map_reversed f [] = refl
map_reversed f (x ∷ xs) =
    ap (λ l. map f l) (reverse-append (x ∷ []) xs) ∙ map-append f (reverse xs) (x ∷ [])
    ∙ ap (λ l. l ++ f x ∷ []) (map_reversed f xs) ∙ sym (reverse-append (f x ∷ []) (map f xs))

module _ (nfa : Nfa) (text : Text) (at id : ℕ) where
  abbrev free : Node → List (ℕ × ℕ)
  free node = map (placed at)
      (edges_of (holds nfa.reverse nfa.terminator (before_at text at) (after_at text at)) node)

  choices_at : (node : Node) → slice_get nfa.states id ≡ Some node
      → choices nfa text (at, id) ≡ over_byte text.bytes at node ++ free node
  choices_at node e = ap (λ n. over_byte text.bytes at n ++ free n) (get_or_from_slice_get nfa.states id node Fail e)

  pub choices_look : (look : Assertion) (next : ℕ) → slice_get nfa.states id ≡ Some (Look look next)
      → holds nfa.reverse nfa.terminator (before_at text at) (after_at text at) look ≡ true
      → choices nfa text (at, id) ≡ (at, next) ∷ []
  choices_look look next e h = choices_at (Look look next) e ∙ rw h refl

  pub choices_not_look : (look : Assertion) (next : ℕ) → slice_get nfa.states id ≡ Some (Look look next)
      → holds nfa.reverse nfa.terminator (before_at text at) (after_at text at) look ≡ false
      → choices nfa text (at, id) ≡ []
  choices_not_look look next e h = choices_at (Look look next) e ∙ rw h refl

  pub choices_union : (ids : List ℕ) → slice_get nfa.states id ≡ Some (Union ids)
      → choices nfa text (at, id) ≡ map (placed at) ids
  choices_union ids e = choices_at (Union ids) e

  pub choices_both : (a b : ℕ) → slice_get nfa.states id ≡ Some (BinaryUnion a b)
      → choices nfa text (at, id) ≡ (at, a) ∷ (at, b) ∷ []
  choices_both a b e = choices_at (BinaryUnion a b) e

  pub choices_capture : (next : ℕ) → slice_get nfa.states id ≡ Some (Capture next)
      → choices nfa text (at, id) ≡ (at, next) ∷ []
  choices_capture next e = choices_at (Capture next) e

  pub choices_byte : (node : Node) → slice_get nfa.states id ≡ Some node
      → ((hold : Assertion → Bool) → edges_of hold node ≡ [])
      → choices nfa text (at, id) ≡ over_byte text.bytes at node
  choices_byte node e n = choices_at node e
      ∙ ap (λ l. over_byte text.bytes at node ++ map (placed at) l)
      (n (holds nfa.reverse nfa.terminator (before_at text at) (after_at text at)))
      ∙ append-nil (over_byte text.bytes at node)
