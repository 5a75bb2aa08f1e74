-- When one step serves two bytes.
use Rattle.std.specs.Prelude.{◌≡◌, ℕ, Option}
use Rattle.determinize_start.specs.LookTables.{Tables, from_word_after, half_crlf_after, have_after}

-- the look-behind after both units is the same
pub record HaveSameLookBehind (t : Tables) (u w : Option ℕ) : Type 0 where
  pub have : have_after t u ≡ have_after t w
  pub from_word : from_word_after t u ≡ from_word_after t w
  pub half_crlf : half_crlf_after t u ≡ half_crlf_after t w
