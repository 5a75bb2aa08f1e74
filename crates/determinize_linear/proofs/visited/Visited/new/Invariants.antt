use Rattle.std.proofs.Common.{◌≡◌, false, map, replicate}
use Rattle.determinize_linear.proofs.visited.Visited.new.Given as goal

abbrev pub invariant-loop : goal.invariant-loop
invariant-loop g l = map (λ row. row.items) l.rows.items ≡ replicate l.counter (replicate l.states false)
