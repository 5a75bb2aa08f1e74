-- The preferred end of a class of characters is the end of the character.
-- Main statements: char_preferred.
-- Used by: the proof of `chars_law`.
-- Idea: all ends are one position, so the first one is that.
use Rattle.std.proofs.Common.{◌↔◌, ◌≡◌, ◌∙◌, ◌∷◌, ℕ, Bool, List, Some, [], ap, refl, slice_get}
use Rattle.ordered_reach.proofs.Cases.{some_injective}
use Rattle.ordered_reach.proofs.lists.Elements.{In, In_head, In_none}
use Rattle.determinize_below.specs.Semantics.{Text}
use Rattle.determinize_pattern.proofs.characters.Utf8.{one_char}
use Rattle.determinize_pattern.proofs.entries.Language.{end_matches, match_ends}
use Rattle.determinize_pattern.specs.Characters.{IsCharClass, IsCharFrom}
use Rattle.determinize_pattern.specs.Meaning.{Re, ends}

first_in : (xs : List ℕ) (j : ℕ) → slice_get xs 0 ≡ Some j → In j xs
first_in [] j e = let none : ⊥ = cc in absurd none
first_in (x ∷ xs) j e = rw (← some_injective x j e) (In_head x xs)

has_first : (xs : List ℕ) (j : ℕ) → In j xs → (k : ℕ) × (slice_get xs 0 ≡ Some k) × In k xs
has_first [] j h = In_none j h
has_first (x ∷ xs) j h = (x, refl, In_head x xs)

pub char_preferred : (test : ℕ → Bool) (re : Re) → IsCharClass test re → (t : ℕ) (text : Text) (i j : ℕ)
    → (slice_get (ends t text re i) 0 ≡ Some j) ↔ IsCharFrom test text.bytes i j
char_preferred test re class t text i j = (
  λ e. (class t text i j).0 (end_matches t text re i j (first_in (ends t text re i) j e)),
  λ c.
      let first = has_first (ends t text re i) j (match_ends t text re i j ((class t text i j).1 c)) in
      let other = (class t text i first.0).0 (end_matches t text re i first.0 first.2) in
      first.1 ∙ ap Some (one_char test text.bytes i first.0 j other c),
)
