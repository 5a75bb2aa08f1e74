-- What is true of a text that is read line by line.
use Rattle.std.specs.Prelude.{◌≤◌, ℕ, Bool, List, length}
use Rattle.byte_set.specs.Sets.{IsOnly}
use Rattle.determinize_lines.specs.Blocks.{BlocksValue}
use Rattle.determinize_lines.specs.Finders.{FinderValue}

-- the reader, the count of lines and the search know the same byte that ends a line, and the line
-- that was returned last and the start of the others are in the block
pub record IsReading (finder : FinderValue) (blocks : BlocksValue) (ends : List Bool)
    (start end next : ℕ) : Type 0 where
  pub read : IsOnly blocks.ends finder.terminator
  pub counted : IsOnly ends finder.terminator
  pub order : start ≤ end
  pub within : end ≤ length blocks.lines
  pub others : next ≤ length blocks.lines
