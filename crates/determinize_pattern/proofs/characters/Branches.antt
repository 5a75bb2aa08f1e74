-- What a choice matches once branches are added to it.
-- Main statements: adds_one, adds_both, adds_same, adds_nothing, all_added.
-- Used by: the proofs of `push_numbers` and `chars_of`, and the files in `characters`.
-- Idea: a choice matches what one of its branches matches, and a branch that is added is its last.
use Rattle.std.proofs.Common.{◌↔◌, ◌≡◌, ◌⊎◌, ◌++◌, ◌∷◌, ℕ, List, None, Option, Some, [], inl, inr, slice_get, true}
use Rattle.std.proofs.lemmas.Bool.{false≢true}
use Rattle.ordered_reach.proofs.Cases.{by_cases}
use Rattle.determinize_below.specs.Semantics.{Text}
use Rattle.determinize_pattern.specs.Meaning.{Matches, Re, is_in}
use Rattle.determinize_pattern.specs.Patterns.{choice, choice_of}
use Rattle.determinize_pattern.specs.Private.Characters.{Adds}

-- the pattern matches what P says
pub record IsExactly (P : List ℕ → ℕ → ℕ → Type 0) (re : Re) : Type 0 where
  pub each : (t : ℕ) (text : Text) (i j : ℕ) → Matches t text re i j ↔ P text.bytes i j

pub in_none : (u : Option ℕ) → is_in [] u ≡ true → ⊥
in_none None h = false≢true h
in_none (Some b) h = false≢true h

module _ (t : ℕ) (text : Text) (i j : ℕ) where
  abbrev M : Re → Type 0
  M re = Matches t text re i j

  push_cases : (old : List Re) (re : Re) → M (choice (old ++ re ∷ [])) → M (choice old) ⊎ M re
  push_cases [] re h = by_cases h (λ a. inr a) (λ b. inl b)
  push_cases (a ∷ old) re h = by_cases h
      (λ k. inl (inl k))
      (λ k. by_cases (push_cases old re k) (λ m. inl (inr m)) (λ m. inr m))

  push_old : (old : List Re) (re : Re) → M (choice old) → M (choice (old ++ re ∷ []))
  push_old [] re h = inr h
  push_old (a ∷ old) re h = by_cases h (λ k. inl k) (λ k. inr (push_old old re k))

  push_new : (old : List Re) (re : Re) → M re → M (choice (old ++ re ∷ []))
  push_new [] re h = inl h
  push_new (a ∷ old) re h = inr (push_new old re h)

  single_choice : (res : List Re) → M (choice_of res) → M (choice res)
  single_choice [] h = h
  single_choice (a ∷ []) h = inl h
  single_choice (a ∷ b ∷ rest) h = h

  choice_single : (res : List Re) → M (choice res) → M (choice_of res)
  choice_single [] h = h
  choice_single (a ∷ []) h = by_cases h (λ k. k) (λ k. absurd (in_none (slice_get text.bytes i) k.0))
  choice_single (a ∷ b ∷ rest) h = h

pub adds_one : (P : List ℕ → ℕ → ℕ → Type 0) (old : List Re) (re : Re) → IsExactly P re
    → Adds P old (old ++ re ∷ [])
adds_one P old re h = record {
  each = λ t text i j. (
    λ m. by_cases (push_cases t text i j old re m) (λ k. inl k) (λ k. inr ((h.each t text i j).0 k)),
    λ m. by_cases m (λ k. push_old t text i j old re k) (λ k. push_new t text i j old re ((h.each t text i j).1 k)),
  );
}

pub adds_both : (P Q R : List ℕ → ℕ → ℕ → Type 0) (a b c : List Re)
    → ((bytes : List ℕ) (i j : ℕ) → R bytes i j ↔ (P bytes i j ⊎ Q bytes i j))
    → Adds P a b → Adds Q b c → Adds R a c
adds_both P Q R a b c both first second = record {
  each = λ t text i j. (
    λ m. by_cases ((second.each t text i j).0 m)
        (λ k. by_cases ((first.each t text i j).0 k)
        (λ x. inl x)
        (λ p. inr ((both text.bytes i j).1 (inl p))))
        (λ q. inr ((both text.bytes i j).1 (inr q))),
    λ m. by_cases m
        (λ x. (second.each t text i j).1 (inl ((first.each t text i j).1 (inl x))))
        (λ r. by_cases ((both text.bytes i j).0 r)
        (λ p. (second.each t text i j).1 (inl ((first.each t text i j).1 (inr p))))
        (λ q. (second.each t text i j).1 (inr q))),
  );
}

pub adds_same : (P Q : List ℕ → ℕ → ℕ → Type 0) (a b : List Re)
    → ((bytes : List ℕ) (i j : ℕ) → Q bytes i j ↔ P bytes i j) → Adds P a b → Adds Q a b
adds_same P Q a b same added = record {
  each = λ t text i j. (
    λ m. by_cases ((added.each t text i j).0 m) (λ x. inl x) (λ p. inr ((same text.bytes i j).1 p)),
    λ m. (added.each t text i j).1 (by_cases m (λ x. inl x) (λ q. inr ((same text.bytes i j).0 q))),
  );
}

pub adds_nothing : (P : List ℕ → ℕ → ℕ → Type 0) (a : List Re) → ((bytes : List ℕ) (i j : ℕ) → P bytes i j → ⊥)
    → Adds P a a
adds_nothing P a none = record {
  each = λ t text i j. (λ m. inl m, λ m. by_cases m (λ x. x) (λ p. absurd (none text.bytes i j p)));
}

-- what branches match that were added to none
pub all_added : (P : List ℕ → ℕ → ℕ → Type 0) (res : List Re) → Adds P [] res → IsExactly P (choice_of res)
all_added P res added = record {
  each = λ t text i j. (
    λ m. by_cases ((added.each t text i j).0 (single_choice t text i j res m))
        (λ k. absurd (in_none (slice_get text.bytes i) k.0))
        (λ p. p),
    λ p. choice_single t text i j res ((added.each t text i j).1 (inr p)),
  );
}
