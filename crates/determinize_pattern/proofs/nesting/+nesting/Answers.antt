use Rattle.std.proofs.Common.{◌≤◌, ◌<◌, arith}
use Rattle.std.proofs.lemmas.Grind.{common_steps}
use Rattle.std.proofs.lemmas.List.{take_more}
use Rattle.determinize_pattern.specs.Nesting.{deepest, depth}
use Rattle.determinize_pattern.proofs.levels.Deepest.{deepest_push, depth_le_deepest}
use Rattle.determinize_pattern.proofs.nesting.+nesting.Goals as goal

pub are_within-returns-then-not-is_within : goal.are_within-returns-then-not-is_within
are_within-returns-then-not-is_within t c =
    let sub = c.index-patterns-i.result in
    let some : depth sub ≤ deepest c.args.patterns.now
    = rw c.index-patterns-i.is (depth_le_deepest c.args.patterns.now c.loop-i.i sub (omega arith)) in
    let deep : c.args.limit < depth sub = grind (arith, common_steps) in
    grind (arith, common_steps, some, deep)

pub are_within-loop-i-preserved : goal.are_within-loop-i-preserved
are_within-loop-i-preserved t c =
    let sub = c.index-patterns-i.result in
    let shallow : depth sub ≤ c.args.limit = grind (arith, common_steps) in
    rw (take_more c.args.patterns.now c.loop-i.i sub (omega arith), ← c.index-patterns-i.is, deepest_push)
    (omega (arith, shallow, c.loop-i.invariant))
