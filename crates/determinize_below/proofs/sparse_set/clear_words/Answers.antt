use Rattle.determinize_below.proofs.Common.{arith, get_or, length, ◌*◌, ◌<◌, ◌∙◌, ◌≡◌}
use Rattle.std.proofs.lemmas.Grind.{get_or_default_zero}
use Rattle.determinize_below.proofs.sets.SparseSets.{cleared_more}
use Rattle.determinize_below.proofs.sparse_set.clear_words.Goals as goal

pub loop-id-preserved : goal.loop-id-preserved
loop-id-preserved c =
    let id : c.as_usize.result ≡ get_or c.args.ids.now c.loop-id.id-index 0 =
    c.as_usize.ensures.value ∙ c.id-item.is ∙ get_or_default_zero _ _ _ c.loop-id-test.true in
    let within : get_or c.args.ids.now c.loop-id.id-index 0 < 64 * length c.loop-id.words =
    omega (arith, c.requires c.loop-id.id-index 0 c.loop-id-test.true) in
    rw id (cleared_more _ _ _ _ c.loop-id-test.true within c.loop-id.invariant)
