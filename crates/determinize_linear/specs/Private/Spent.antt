-- Marked pairs from which no run accepts.
use Rattle.std.specs.Prelude.{◌≡◌, ◌+◌, ◌≤◌, ℕ, Bool, Contains, List, [], false, length, slice_index_or, true}
use Rattle.determinize_below.specs.Edges.{is_match}
use Rattle.determinize_below.specs.Semantics.{Nfa, Text, choices}
use Rattle.determinize_linear.specs.Private.Marks.{is_marked}

-- there is a place for the mark of each pair of a position of the text and a state
pub record HasPlaces (nfa : Nfa) (text : Text) (rows : List (List Bool)) : Type 0 where
  pub positions : length rows ≡ length text.bytes + 1
  pub states : (i : ℕ) → i ≤ length text.bytes
      → length (slice_index_or rows i []) ≡ length nfa.states

-- no marked pair is at a `Match`, and from a position on their runs go to marked pairs only: so no
-- run from one of them accepts
pub record IsSpent (nfa : Nfa) (text : Text) (k : ℕ) (rows : List (List Bool)) : Type 0 where
  pub none : (p : ℕ × ℕ) → is_marked rows p ≡ true → is_match nfa p.1 ≡ false
  pub closed : (p q : ℕ × ℕ) → is_marked rows p ≡ true → k ≤ p.0
      → Contains (choices nfa text p) q → is_marked rows q ≡ true
