use Rattle.std.proofs.Common.{◌≡◌, [], ap, arith}
use Rattle.determinize_below.specs.Semantics.{Look, Union}
use Rattle.determinize_pattern.proofs.compiled.Growing.{adds_all, adds_more, adds_none, left_entry, node_paid}
use Rattle.determinize_pattern.proofs.compiler.Compiler.look_each.Goals as goal

pub loop-k-init : goal.loop-k-init
loop-k-init g c = (adds_none _ _ _ _, omega arith)

pub loop-k-preserved : goal.loop-k-preserved
loop-k-preserved g c =
    let k = c.loop-k.k in
    let here = left_entry _ _ _ _ _ _ _ k _ c.loop-k.invariant.0 (omega arith) (omega arith) c.index-ids-k.is in
    let kept = c.spend.ensures.kept in
    let paid = node_paid _ _ _ _ _ _ (ap (λ b. b.states) kept) c.in_ok-spend.ensures.spent
    (ap (λ b. b.states) c.in_ok-ids.ensures.added) in (
      adds_more _ _ _ _ _ _ _ _ _ c.loop-k.invariant.0 (omega arith) (rw kept at c.in_ok-ids.ensures.id)
          (rw (kept, here) at c.in_ok-ids.ensures.added)
          (λ z. let y : Look _ _ ≡ Union [] = z in cc),
      omega (arith, c.loop-k.invariant.1, paid),
    )

pub returns-clause-added : goal.returns-clause-added
returns-clause-added g c = adds_all _ _ _ _ _ _ _ c.loop-k.invariant.0 (omega arith)
