-- The bytes of states decide equality of their values, and their order.
-- Main statements: same_bytes, same_order.
-- Used by: `==` and `cmp` of states, `state_laws`.
-- Idea: RoundTrip: equal bytes are decoded to equal values.
use Rattle.determinize_state.proofs.Common.{arith, ◌≡◌, ◌==◌, refl, sym, ap, ◌∙◌, one_answer, unsigned_ties, Equal-is, bytes_decides, lists_ties, pointwise, slice_cmp, by_bytes, Decides-same, parts, same, spell, IsValue, Value}
use Rattle.std.specs.Ordering.{nat_cmp}
use Rattle.determinize_state.specs.Equality.{same-ties}
use Rattle.determinize_state.proofs.encoding.RoundTrip.{spell_tells}

-- comparing the bytes is comparing the values
pub same_bytes : (v w : Value) → IsValue v → IsValue w → pointwise ◌==◌ (spell v) (spell w) ≡ same v w
same_bytes v w hv hw =
    let bytes = bytes_decides (spell v) (spell w) in
    one_answer _ _ (λ t. spell_tells v w hv hw (bytes.0 t), λ e. bytes.1 (ap spell e)) (Decides-same v w)

-- the order of the bytes is the order of the values
pub same_order : (v w : Value) → IsValue v → IsValue w → slice_cmp nat_cmp (spell v) (spell w) ≡ by_bytes v w
same_order v w hv hw =
    grind (arith, same_bytes v w hv hw, same-ties v w, lists_ties nat_cmp unsigned_ties (spell v) (spell w))

pub ruleset comparisons = (same_bytes, same_order, Decides-same, bytes_decides)
