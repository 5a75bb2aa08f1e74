use Rattle.determinize_pattern.proofs.in_lines.Edges.{ends_in_line, ends_in_place}
use Rattle.determinize_pattern.proofs.in_lines.LeftmostLines.{leftmost_in_line, none_in_line, some_in_line}
use Rattle.determinize_pattern.proofs.laws.lines_law.Goals as goal

pub returns : goal.returns
returns c = record {
  in_place = ends_in_place;
  in_line = ends_in_line;
  leftmost = leftmost_in_line;
  none = none_in_line;
  some = some_in_line;
}
