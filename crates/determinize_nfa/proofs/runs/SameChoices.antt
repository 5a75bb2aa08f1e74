-- Where two texts, with two sets of assertions, give a run the same choices.
-- Main statements: same_choices, free_more.
-- Used by: runs over a text up to a position (Begun).
-- Idea: the choices at a pair depend on the next byte and on the assertions there, and no state has transitions of both
-- kinds.
use Rattle.determinize_nfa.proofs.Common.{Assertion, Bool, In, In_none, List, Nfa, Node, Option, Some, Text, [], arith}
use Rattle.determinize_nfa.proofs.Common.{by_cases, edges, edges_of, map, placed, refl, slice_get, state_at, suc}
use Rattle.determinize_nfa.proofs.Common.{target, true, ℕ, ◌++◌, ◌∷◌, ◌≡◌}
use Rattle.determinize_below.specs.Edges.{is_capture}
use Rattle.determinize_below.proofs.nfas.Edges.{edges-capture, edges-or-target, next_of, target-capture}
use Rattle.determinize_nfa.proofs.runs.Choices.{choices_under, under_cases}

-- with more assertions an epsilon transition keeps its number
edges_at : (holds others : Assertion → Bool) (node : Node) (i c : ℕ) (q : ℕ × ℕ)
    → ((look : Assertion) → holds look ≡ true → others look ≡ true)
    → slice_get (map (placed i) (edges_of holds node)) c ≡ Some q
    → slice_get (map (placed i) (edges_of others node)) c ≡ Some q
edges_at holds others node i c q m e = grind (arith, m, e)

-- the choices at a pair, by its two kinds of transitions
abbrev joined : ℕ × ℕ → List ℕ → List ℕ → List (ℕ × ℕ)
joined p bytes free = map (placed (suc p.0)) bytes ++ map (placed p.0) free

-- a capture has one choice
pub one_choice : (nfa : Nfa) (text : Text) (h : ℕ → Assertion → Bool) (p : ℕ × ℕ) → is_capture nfa p.1 ≡ true
    → choices_under nfa text h p ≡ (p.0, next_of nfa p.1) ∷ []
one_choice nfa text h p e =
    rw (target-capture nfa (slice_get text.bytes p.0) p.1 e, edges-capture nfa (h p.0) p.1 e) refl

module _ (nfa : Nfa) (text other : Text) (h g : ℕ → Assertion → Bool) where
  -- where the next bytes and the assertions are the same
  pub same_choices : (p : ℕ × ℕ) → slice_get text.bytes p.0 ≡ slice_get other.bytes p.0 → h p.0 ≡ g p.0
      → choices_under nfa text h p ≡ choices_under nfa other g p
  same_choices p b e = rw (b, e) refl

  -- a choice without input is one where more assertions hold
  pub free_more : (p q : ℕ × ℕ) (c : ℕ) → q.0 ≡ p.0
      → ((look : Assertion) → h p.0 look ≡ true → g p.0 look ≡ true)
      → slice_get (choices_under nfa text h p) c ≡ Some q → slice_get (choices_under nfa other g p) c ≡ Some q
  free_more p q c z m e = under_cases nfa text h p q c e (λ s t. absurd (omega arith)) (λ s f. free f)
    where
      no_target : In q.1 (edges nfa (h p.0) p.1) → (o : Option ℕ) → target nfa o p.1 ≡ []
      no_target f o = by_cases (edges-or-target nfa (h p.0) o p.1)
          (λ n. In_none q.1 (rw n at f))
          (λ n. n)

      free : In q.1 (edges nfa (h p.0) p.1) → slice_get (choices_under nfa other g p) c ≡ Some q
      free f =
          let k : slice_get (joined p [] (edges nfa (h p.0) p.1)) c ≡ Some q
          = rw (no_target f (slice_get text.bytes p.0)) at e in
          rw (no_target f (slice_get other.bytes p.0))
          (edges_at (h p.0) (g p.0) (state_at nfa p.1) p.0 c q m k)
