use Rattle.determinize_pattern.proofs.in_lines.FirstLines.{none_is_first, some_is_first}
use Rattle.determinize_pattern.proofs.laws.first_line_law.Goals as goal

pub returns : goal.returns
returns c = record { none = none_is_first; some = some_is_first }
