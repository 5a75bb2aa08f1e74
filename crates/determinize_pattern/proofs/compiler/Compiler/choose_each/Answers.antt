use Rattle.std.proofs.Common.{◌≡◌, arith, slice_index}
use Rattle.std.proofs.lemmas.List.{get_or_read}
use Rattle.determinize_pattern.proofs.compiled.Growing.{adds_all, adds_more, adds_none, is_written, left_entry}
use Rattle.determinize_pattern.proofs.compiler.Compiler.choose_each.Goals as goal

pub loop-k-init : goal.loop-k-init
loop-k-init g c = (adds_none _ _ _ _, omega arith)

pub loop-k-preserved : goal.loop-k-preserved
loop-k-preserved g c =
    let k = c.loop-k.k in
    let here = left_entry _ _ _ _ _ _ _ k _ c.loop-k.invariant.0 (omega arith) (omega arith) c.index-ids-k.is in
    let other : c.index-others-k.result ≡ slice_index c.args.others.now k
    = get_or_read c.args.others.now k _ (omega (arith, c.loop-k.invariant.0.len)) c.index-others-k.is 0 in (
      adds_more _ _ _ _ _ _ _ _ _ c.loop-k.invariant.0 (omega arith) c.in_ok-ids.ensures.id
          (rw (c.in_order-alternates.ensures, here, other) at c.in_ok-ids.ensures.added)
          (is_written c.args.first_wins _ _),
      omega (arith, c.loop-k.invariant.1, c.in_ok-ids.ensures.paid),
    )

pub returns-clause-added : goal.returns-clause-added
returns-clause-added g c = adds_all _ _ _ _ _ _ _ c.loop-k.invariant.0 (omega arith)
