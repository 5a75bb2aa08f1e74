use Rattle.std.proofs.Common.{◌≡◌}
use Rattle.determinize_lines.specs.Private.Reading.{IsReading}
use Rattle.determinize_lines.proofs.lines.Lines.advance.Given as goal

abbrev pub invariant-loop : goal.invariant-loop
invariant-loop g l = record {
  start : l.self-inside.start ≡ 0;
  end : l.self-inside.end ≡ 0;
  reading : IsReading l.self-inside.finder l.self-inside.blocks l.self-inside.ends l.self-inside.start
      l.self-inside.end l.self-inside.next;
  same : l.self-inside.finder ≡ l.fn.self.finder;
}
