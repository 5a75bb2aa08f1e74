use Rattle.determinize_core.proofs.Common.{length, ◌<◌}
use Rattle.std.specs.Prelude.{drop, ◌↔◌, ◌^◌}
use Rattle.determinize_stored.specs.Private.Parts.{AreEnds}
use Rattle.determinize_stored.proofs.format.Parts.check_ends.Given as goal

abbrev pub invariant-loop-row : goal.invariant-loop-row
invariant-loop-row l = record {
  small : l.start < 2 ^ 32;
  rest : AreEnds l.start (drop l.row l.fn.self.ends) (length l.fn.self.patterns)
      ↔ AreEnds 0 l.fn.self.ends (length l.fn.self.patterns);
}
