-- The mark of a builder.
use Rattle.std.specs.Prelude.{◌≡◌, length}
use Rattle.determinize_state.specs.Value.{Value}
use Rattle.determinize_state.specs.Spelling.{spell}
use Rattle.determinize_state.specs.Varint.{last_id}
use Rattle.determinize_state.specs.declared.state.builders.Mark.{Mark}

-- the mark has what a builder needs to return to this value
pub record IsMarkOf (mark : Mark) (value : Value) : Type 0 where
  pub bytes : mark.bytes ≡ length (spell value)
  pub last : mark.last ≡ last_id 0 value.states
  pub have : mark.look_have ≡ value.look_have
  pub need : mark.look_need ≡ value.look_need
