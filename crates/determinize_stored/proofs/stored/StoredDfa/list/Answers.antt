use Rattle.determinize_core.proofs.Common.{ap, arith, sym, ◌+◌, ◌<◌, ◌∙◌, ◌≤◌}
use Rattle.std.proofs.lemmas.List.Elements.{All-weaker}
use Rattle.determinize_below.specs.declared.primitives.TheConstants.{MAX_ID}
use Rattle.determinize_dense.specs.Bytes.{Stored}
use Rattle.determinize_dense.specs.Table.{patterns_at}
use Rattle.determinize_stored.proofs.Files.{patterns-past}
use Rattle.determinize_stored.proofs.Lists.{list-all}
use Rattle.determinize_stored.proofs.stored.StoredDfa.list.Goals as goal

pub returns-then-row-self-clause-ids : goal.returns-then-row-self-clause-ids
returns-then-row-self-clause-ids c = rw c.list.ensures
    (list-all (λ id. id ≤ MAX_ID) 0 c.self.inside.parts.ends c.self.inside.parts.patterns c.as_usize-row.result
    (All-weaker (λ n. n < MAX_ID + 1) (λ n. n ≤ MAX_ID) (λ n less. omega (arith, less)) c.self.inside.parts.patterns
    c.self.invariant.range.patterns))

pub returns-else-row-self-clause-value : goal.returns-else-row-self-clause-value
returns-else-row-self-clause-value c =
    let past = c.if-row-self.false in
    let row = c.as_usize-row.ensures in
    c.range.ensures ∙ sym (patterns-past c.self.inside.head c.self.inside.parts c.self.invariant.sizes c.args.row
    (omega (arith, past, row))) ∙ ap (λ (s : Stored). patterns_at s.table c.args.row) c.self.view_is
