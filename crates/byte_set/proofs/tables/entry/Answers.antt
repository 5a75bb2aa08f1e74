use Rattle.std.proofs.Common.{◌+◌}
use Rattle.byte_set.proofs.Members.{bits-left, bits-set, HasBits, HasNoBitFrom}
use Rattle.byte_set.proofs.tables.entry.Goals.{then-members-first, else-members-first}
use Rattle.byte_set.proofs.tables.entry.Goals as goal

pub loop-high-preserved : goal.loop-high-preserved
loop-high-preserved c =
    let a = c.args in
    let l = c.loop-high in
    let more : HasBits a.members.now a.first (l.high + 1) c.if-members-first.entry
    × HasNoBitFrom (l.high + 1) c.if-members-first.entry =
    elim c.if-members-first.branch [
      | then-members-first w ↦ bits-set a.members.now a.first l.high l.entry _ c.loop-high-test.true l.invariant.has
          l.invariant.clear w.if-members-first.true w.entry-is
      | else-members-first w ↦ bits-left a.members.now a.first l.high l.entry _ c.loop-high-test.true l.invariant.has
          l.invariant.clear w.if-members-first.false w.entry-is
    ] in
    record { has = more.0; clear = more.1 }
