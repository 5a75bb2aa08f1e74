use Rattle.std.proofs.Common.{ap}
use Rattle.determinize_pattern.proofs.compiled.Compiling.{node_added, node_kept}
use Rattle.determinize_pattern.proofs.compiled.Growing.{node_paid}
use Rattle.determinize_pattern.proofs.compiler.Compiler.range.Goals as goal

pub returns-in-Some-clause-node : goal.returns-in-Some-clause-node
returns-in-Some-clause-node g c = node_kept _ _ _ c.in-Some.ensures

pub returns-clause-node : goal.returns-clause-node
returns-clause-node g c =
    let kept = c.spend.ensures.kept in
    node_added _ _ _ _ (rw kept at c.in_ok-id.ensures.id) (rw kept at c.in_ok-id.ensures.added)

pub returns-clause-paid : goal.returns-clause-paid
returns-clause-paid g c = node_paid _ _ _ _ _ _ (ap (λ b. b.states) c.spend.ensures.kept)
    c.in_ok-spend.ensures.spent (ap (λ b. b.states) c.in_ok-id.ensures.added)
