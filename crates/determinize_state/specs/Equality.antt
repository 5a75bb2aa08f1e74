-- Equality and order of states: states are equal if and only if their values are.
use Rattle.std.specs.Prelude.{◌≡◌, ◌==◌, ◌&&◌, ℕ, Bool, true, false, List, ◌∷◌, ◌++◌, cond, drop, length, nat_eq, slice_index, take}
use Rattle.std.proofs.Common.{refl, sym, ap, ◌∙◌}
use Rattle.std.proofs.Math.Seq.{drop-append_seam, take-append_seam}
use Rattle.std.specs.Bool.{Decides}
use Rattle.std.specs.Cmp.{both_tied, unsigned_ties}
use Rattle.std.specs.Cmp.Lexicographic.{bytes_decides, lists_ties, pointwise, slice_cmp}
use Rattle.std.specs.Ordering.{eq_by_cmp, nat_cmp, on, then_cmp}
use Rattle.std.specs.declared.cmp.Ordering.{Ordering}
use Rattle.determinize_state.specs.Spelling.{spell}
use Rattle.determinize_state.specs.Value.{Value}

-- the parts of a value in one list: the flags, the two sets, the number of patterns, the patterns,
-- the NFA states
abbrev pub parts : Value → List ℕ
parts v =
    cond v.from_word 1 0 ∷ cond v.half_crlf 1 0 ∷ v.look_have ∷ v.look_need ∷ length v.patterns
    ∷ v.patterns ++ v.states

-- whether two values are equal
abbrev pub same : Value → Value → Bool
same = on parts (pointwise ◌==◌)

-- the order of the bytes, and then that of the parts; no two states need the latter
abbrev pub by_bytes : Value → Value → Ordering
by_bytes = then_cmp (on spell (slice_cmp nat_cmp)) (on parts (slice_cmp nat_cmp))

-- the inverse of `parts`
abbrev from_parts : List ℕ → Value
from_parts list = record {
  from_word = nat_eq (slice_index list 0) 1;
  half_crlf = nat_eq (slice_index list 1) 1;
  look_have = slice_index list 2;
  look_need = slice_index list 3;
  patterns = take (slice_index list 4) (drop 5 list);
  states = drop (slice_index list 4) (drop 5 list);
}

one_bit : (b : Bool) → nat_eq (cond b 1 0) 1 ≡ b
one_bit true = refl
one_bit false = refl

from_parts-parts : (v : Value) → from_parts (parts v) ≡ v
from_parts-parts v = λ i. record {
  from_word = one_bit v.from_word i;
  half_crlf = one_bit v.half_crlf i;
  look_have = v.look_have;
  look_need = v.look_need;
  patterns = take-append_seam v.patterns v.states i;
  states = drop-append_seam v.patterns v.states i;
}

-- `same` decides equality
pub Decides-same : (v w : Value) → Decides (same v w) (v ≡ w)
Decides-same v w =
    let lists : Decides (same v w) (parts v ≡ parts w) = bytes_decides (parts v) (parts w) in (
      λ e. sym (from_parts-parts v) ∙ ap from_parts (lists.0 e) ∙ from_parts-parts w,
      λ e. lists.1 (ap parts e),
    )

-- two values are the same if and only if their order is a tie
pub same-ties : (v w : Value) → same v w ≡ eq_by_cmp by_bytes v w
same-ties v w =
    first (same v w) (pointwise ◌==◌ (spell v) (spell w))
    (λ e. (bytes_decides (spell v) (spell w)).1 (ap spell ((Decides-same v w).0 e)))
    ∙ both_tied _ _ _ _ (lists_ties nat_cmp unsigned_ties (spell v) (spell w))
    (lists_ties nat_cmp unsigned_ties (parts v) (parts w))
  where
    first : (s t : Bool) → (s ≡ true → t ≡ true) → s ≡ (t && s)
    first true t so = rw (so refl)
    first false true so = refl
    first false false so = refl
