use Rattle.std.proofs.Common.{inl}
use Rattle.determinize_pattern.proofs.compiled.Growing.{extends_same}
use Rattle.determinize_pattern.proofs.compiled.Compiling.{unread_fails}
use Rattle.determinize_pattern.proofs.compiler.Compiler.unread.Goals as goal

pub returns-then-always_reads-clause-unread : goal.returns-then-always_reads-clause-unread
returns-then-always_reads-clause-unread g c =
    record { extends = extends_same _; fails = inl (c.always_reads.ensures c.if-always_reads.true) }

pub returns-else-always_reads-clause-unread : goal.returns-else-always_reads-clause-unread
returns-else-always_reads-clause-unread g c = unread_fails _ _ _ c.fail.result c.fail.ensures.id c.fail.ensures.added
