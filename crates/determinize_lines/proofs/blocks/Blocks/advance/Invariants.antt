use Rattle.std.proofs.Common.{[], ◌≡◌}
use Rattle.determinize_lines.proofs.blocks.Blocks.advance.Given as goal

abbrev pub invariant-loop : goal.invariant-loop
invariant-loop g l = record { lines : l.self.lines ≡ []; ends : l.self.ends ≡ l.fn.self.ends }
