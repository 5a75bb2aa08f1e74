-- Marks of patterns: a flag for each id below their number.
use Rattle.std.specs.Prelude.{◌≡◌, ◌<◌, ◌↔◌, ◌⊎◌, ℕ, Bool, false, true, length, List, slice_index_or}
use Rattle.determinize_below.specs.Search.{Asked}
use Rattle.determinize_below.specs.Semantics.{Accepts, Nfa}
use Rattle.determinize_engine.specs.Searches.{start_for, text_of}

-- one is marked
abbrev pub IsMarked : List Bool → ℕ → Type 0
IsMarked marks p = slice_index_or marks p false ≡ true

-- those that were marked are, and each id of which P holds, and no other
pub record AreMarked (old : List Bool) (P : ℕ → Type 0) (new : List Bool) : Type 0 where
  pub same : length new ≡ length old
  pub marks : (p : ℕ) → p < length old → IsMarked new p ↔ (IsMarked old p ⊎ P p)

-- those that were marked are, and else only ids of which P holds
pub record AreSomeMarked (old : List Bool) (P : ℕ → Type 0) (new : List Bool) : Type 0 where
  pub same : length new ≡ length old
  pub kept : (p : ℕ) → p < length old → IsMarked old p → IsMarked new p
  pub some : (p : ℕ) → p < length old → IsMarked new p → IsMarked old p ⊎ P p

-- some run over the text of an input accepts the pattern
abbrev pub HasMatchOf : Nfa → Asked → ℕ → Type 0
HasMatchOf nfa asked pattern = (cs : List ℕ) × (i : ℕ)
    × Accepts nfa (text_of nfa.reverse asked) (start_for nfa asked.anchored) cs i pattern
