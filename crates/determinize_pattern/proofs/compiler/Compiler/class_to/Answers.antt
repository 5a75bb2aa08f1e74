use Rattle.std.proofs.Common.{ap, arith}
use Rattle.std.proofs.lemmas.Result.{IfOk-weaker}
use Rattle.determinize_pattern.proofs.compiled.Compiling.{class_none, class_one, ok_both, sparse_begun}
use Rattle.determinize_pattern.proofs.compiled.Growing.{node_paid}
use Rattle.determinize_pattern.proofs.compiler.Compiler.class_to.Goals as goal

pub returns-in-0-clause-begun : goal.returns-in-0-clause-begun
returns-in-0-clause-begun g c = ok_both c.fail.result c.fail.ensures.id c.fail.ensures.added
    (λ s e k. class_none _ _ _ c.args.class.now c.args.next s
    (rw c.ranges-2.ensures at c.in_ok-transitions.ensures) (omega arith) e k)

pub returns-in-1-clause-begun : goal.returns-in-1-clause-begun
returns-in-1-clause-begun g c = IfOk-weaker c.range.result _ _
    (λ s h. class_one _ _ c.in_ok-transitions.transitions.items _ c.args.class.now c.args.next s
    (rw c.ranges-2.ensures at c.in_ok-transitions.ensures) (omega arith) c.index.ensures h) c.range.ensures.node

pub returns-clause-begun : goal.returns-clause-begun
returns-clause-begun g c =
    let kept = c.spend.ensures.kept in
    sparse_begun _ _ c.args.class.now c.args.next _ (rw kept at c.in_ok-add_sparse-in_default.ensures.id)
    (rw (kept, c.deref.ensures.value, c.in_ok-transitions.ensures, c.ranges-2.ensures)
    at c.in_ok-add_sparse-in_default.ensures.added)

pub returns-clause-paid : goal.returns-clause-paid
returns-clause-paid g c = node_paid _ _ _ _ _ _ (ap (λ b. b.states) c.spend.ensures.kept)
    c.in_ok-spend-in_default.ensures.spent (ap (λ b. b.states) c.in_ok-add_sparse-in_default.ensures.added)
