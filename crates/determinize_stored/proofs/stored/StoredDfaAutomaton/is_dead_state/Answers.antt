use Rattle.determinize_core.proofs.Common.{rules, subst, ◌≡◌}
use Rattle.std.specs.Prelude.{Decides}
use Rattle.determinize_dense.specs.Bytes.{IsWhole, Stored}
use Rattle.determinize_stored.proofs.Paths.{dead_if}
use Rattle.determinize_stored.specs.Reading.{HasDeadRow}
use Rattle.determinize_stored.proofs.stored.StoredDfaAutomaton.is_dead_state.Goals as goal

pub returns-then-self-clause-dead : goal.returns-then-self-clause-dead
returns-then-self-clause-dead c =
    let value : Decides c.eq.result ((c.args.row ≡ 0) × HasDeadRow c.args.self.now.table) = search rules in
    dead_if c.args.self.now c.args.row c.eq.result
    (subst (λ (s : Stored). IsWhole s) c.self.view_is c.self.invariant.whole) value
