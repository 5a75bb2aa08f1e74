use Rattle.std.proofs.Common.{◌≡◌, map, take, true}
use Rattle.determinize_pattern.specs.Lines.{all_stay}
use Rattle.determinize_pattern.specs.Patterns.{meaning}
use Rattle.determinize_pattern.proofs.lines.+stay_in_lines.Given as goal

abbrev pub invariant-stay_in_lines-loop-i : goal.invariant-stay_in_lines-loop-i
invariant-stay_in_lines-loop-i l = all_stay l.terminator (map meaning (take l.i l.patterns)) ≡ true
