use Rattle.determinize_core.proofs.Common.{ap, length, subst, ◌∙◌}
use Rattle.determinize_dense.specs.Bytes.{IsWhole, Stored}
use Rattle.determinize_stored.proofs.Files.{rows_are}
use Rattle.determinize_stored.proofs.stored.StoredDfa.len.Goals as goal

pub returns-clause-value : goal.returns-clause-value
returns-clause-value c = rows_are c.self.inside.head c.self.inside.parts c.self.invariant.sizes
    ∙ ap (λ (s : Stored). length s.table.patterns) c.self.view_is

pub returns-clause-whole : goal.returns-clause-whole
returns-clause-whole c = subst (λ (s : Stored). IsWhole s) c.self.view_is c.self.invariant.whole
