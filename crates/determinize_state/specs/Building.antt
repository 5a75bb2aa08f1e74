-- The bytes of a state that is being built.
use Rattle.std.specs.Prelude.{◌≡◌, ◌⊎◌, ℕ, List, [], ◌∷◌}
use Rattle.determinize_state.specs.Spelling.{value_of, IsSpelled}
use Rattle.determinize_state.specs.Varint.{last_id}

-- the bytes encode a value whose last NFA state is this one (0 if it has none)
pub record IsBuilding (bytes : List ℕ) (id : ℕ) : Type 0 where
  pub is : IsSpelled bytes
  pub last : id ≡ last_id 0 (value_of bytes).states

-- the header of a state with nothing set, patterns or NFA states: the encoding of the dead value
abbrev pub header : List ℕ
header = 0 ∷ 0 ∷ 0 ∷ 0 ∷ 0 ∷ 0 ∷ 0 ∷ 0 ∷ 0 ∷ []

-- the buffer of an empty builder: nothing, or the header of an earlier state, cleared
abbrev pub IsClear : List ℕ → Type 0
IsClear bytes = (bytes ≡ []) ⊎ (bytes ≡ header)
