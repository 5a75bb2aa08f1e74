-- The pair that a state has a transition to over a byte, as the program finds it.
-- Main statements: one_target, no_target, past_target, reversed_target.
-- Used by: `push_target` and `push_choices`.
-- Idea: the byte of a text at an index is that of the list of its units.
use Rattle.std.specs.Option.{option_map, option_to_list}
use Rattle.std.specs.Prelude.{slice_get}
use Rattle.std.proofs.Common.{◌≡◌, ◌≤◌, ◌+◌, ◌++◌, ◌∙◌, ◌∷◌, ℕ, List, None, Some, [], ap, append-nil, arith, length}
use Rattle.std.proofs.Common.{map, refl, reverse, suc, sym}
use Rattle.std.proofs.lemmas.Option.{slice_get-map, slice_get_past}
use Rattle.determinize_below.specs.Semantics.{Node, target_of}
use Rattle.ordered_reach.proofs.Cases.{by_option, some_injective}
use Rattle.ordered_reach.specs.Runs.{placed}

-- the pair that a state has a transition to over the byte at a position, as a list
abbrev pub over_byte : List ℕ → ℕ → Node → List (ℕ × ℕ)
over_byte bytes at node = map (placed (suc at)) (option_to_list (target_of (slice_get bytes at) node))

byte_is : (bytes : List ℕ) (at b : ℕ) → slice_get (map Some bytes) at ≡ Some (Some b) → slice_get bytes at ≡ Some b
byte_is bytes at b e = by_option (slice_get bytes at)
    (λ z. absurd (let k : None ≡ Some (Some b)
    = sym (slice_get-map Some bytes at ∙ ap (λ o. option_map Some o) z) ∙ e in cc))
    (λ x z. let k : Some (Some x) ≡ Some (Some b)
    = sym (slice_get-map Some bytes at ∙ ap (λ o. option_map Some o) z) ∙ e in
    z ∙ some_injective (Some x) (Some b) k)

module _ (bytes : List ℕ) (at : ℕ) (node : Node) where
  pub one_target : (b next : ℕ) → slice_get (map Some bytes) at ≡ Some (Some b) → target_of (Some b) node ≡ Some next
      → (at + 1, next) ∷ [] ≡ over_byte bytes at node
  one_target b next e t =
      let z : at + 1 ≡ suc at = omega arith in
      rw (byte_is bytes at b e, t, z) refl

  pub no_target : (xs : List (ℕ × ℕ)) (b : ℕ) → slice_get (map Some bytes) at ≡ Some (Some b)
      → target_of (Some b) node ≡ None → xs ≡ xs ++ over_byte bytes at node
  no_target xs b e t = rw (byte_is bytes at b e, t) (sym (append-nil xs))

  pub past_target : (xs : List (ℕ × ℕ)) → length bytes ≤ at → xs ≡ xs ++ over_byte bytes at node
  past_target xs l = rw (slice_get_past bytes at l, none node) (sym (append-nil xs))
    where
      none : (node : Node) → target_of None node ≡ None
      none node = grind arith

  pub reversed_target : reverse (over_byte bytes at node) ≡ over_byte bytes at node
  reversed_target = by_option (target_of (slice_get bytes at) node)
      (λ z. rw z refl)
      (λ t z. rw z refl)
