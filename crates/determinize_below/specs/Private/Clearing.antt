-- The bits of a sparse set after `clear_bits`.
use Rattle.std.specs.Prelude.{ℕ, List, IsTrue, not}
use Rattle.determinize_below.specs.Members.{has_id}
use Rattle.determinize_below.specs.Private.Sparse.{has_bit}

-- a bit that is set afterwards was set before, and is not that of one of these ids
pub record IsCleared (words fewer ids : List ℕ) : Type 0 where
  pub was : (id : ℕ) → IsTrue (has_bit fewer id) → IsTrue (has_bit words id)
  pub none : (id : ℕ) → IsTrue (has_bit fewer id) → IsTrue (not (has_id ids id))
