-- A row that a caller reaches step by step.
-- Main statements: row_after-byte, listed_at_end.
-- Used by: `determinize_uses`.
-- Idea: the row after all bytes and the unit ahead is the row after the units of a text.
use Rattle.determinize_dense.proofs.Common.{All, Bool, get_or, IsAccepted, IsDfaOf, IsUnit, length, List, list_after}
use Rattle.determinize_dense.proofs.Common.{ListsAccepted, map, map_push, Nfa, patterns_at, refl, row_after, row_over}
use Rattle.determinize_dense.proofs.Common.{Some, start_in, start_row, Table, take, take_more, Text, units_listed, []}
use Rattle.determinize_dense.proofs.Common.{ℕ, ◌+◌, ◌<◌, ◌∷◌, ◌≡◌}
use Rattle.determinize_dense.proofs.Least.{row_after-more}
use Rattle.determinize_dense.proofs.Listing.{each_text_is_listed}
use Rattle.determinize_below.specs.declared.search.MatchKind.TheVariants as kinds

-- a byte more
pub row_after-byte : (d : Table) (r : ℕ) (bytes : List ℕ) (i : ℕ) → i < length bytes → {row next : ℕ}
    → row ≡ row_after d r (map Some (take i bytes)) → next ≡ row_over d row (Some (get_or bytes i 0))
    → next ≡ row_after d r (map Some (take (i + 1) bytes))
row_after-byte d r bytes i inside so_far goes =
    let push = row_after-more d (map Some (take i bytes)) (Some (get_or bytes i 0) ∷ []) r in
    rw (take_more bytes i 0 inside, map_push, push, ← so_far) goes

-- the row over the unit ahead, after all bytes
module _ (nfa : Nfa) (d : Table) (anchored : Bool) (text : Text) where
  row_at_end : {row : ℕ} → row ≡ row_after d (start_row nfa d anchored text.behind) (map Some text.bytes)
      → patterns_at d (row_over d row text.ahead) ≡ list_after nfa d anchored text
  row_at_end is =
      let start : ℕ = start_row nfa d anchored text.behind in
      rw (is, units_listed text, row_after-more d (map Some text.bytes) (text.ahead ∷ []) start)

  pub listed_at_end : IsAccepted nfa → IsDfaOf nfa kinds.All d → IsUnit text.behind → All (λ b. b < 256) text.bytes
      → IsUnit text.ahead → {row : ℕ}
      → row ≡ row_after d (start_row nfa d anchored text.behind) (map Some text.bytes)
      → ListsAccepted nfa text (start_in nfa anchored) (length text.bytes) (patterns_at d (row_over d row text.ahead))
  listed_at_end accepted means behind bytes ahead is = rw (row_at_end is)
      ((each_text_is_listed nfa kinds.All d accepted means anchored text behind bytes ahead).0 refl)
