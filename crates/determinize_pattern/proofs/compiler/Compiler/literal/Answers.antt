use Rattle.std.proofs.Common.{◌≡◌, ◌+◌, ◌-◌, ◌∷◌, [], arith, length, slice_index}
use Rattle.std.proofs.lemmas.Grind.{common_steps}
use Rattle.std.proofs.lemmas.List.{drop_all, drop_more, get_or_read}
use Rattle.determinize_pattern.specs.Meaning as re
use Rattle.determinize_pattern.proofs.compiled.Compiling.{byte_begun, empty_begun, empty_compiled, one_compiled, then_begun}
use Rattle.determinize_pattern.proofs.compiled.Reads.{empty_literal, reads_some_literal}
use Rattle.determinize_pattern.proofs.compiler.Compiler.literal.Goals as goal

pub returns-then-is_empty-clause-compiled : goal.returns-then-is_empty-clause-compiled
returns-then-is_empty-clause-compiled g c =
    rw (empty_literal c.args.bytes.now (grind (arith, common_steps))) (empty_compiled _ _ _)

pub loop-i-init : goal.loop-i-init
loop-i-init g c =
    let first : c.index-ids-0.result ≡ slice_index c.args.ids.now 0
    = get_or_read c.args.ids.now 0 _ c.requires c.index-ids-0.is 0 in
    (rw (first, drop_all (length c.args.bytes.now) c.args.bytes.now (omega arith)) (empty_begun _ _), omega arith)

pub loop-i-preserved : goal.loop-i-preserved
loop-i-preserved g c =
    let i = c.loop-i.i in
    let back : i - 1 + 1 ≡ i = omega arith in
    let byte = slice_index c.args.bytes.now (i - 1) in (
      rw (drop_more c.args.bytes.now (i - 1) 0 (omega arith), back)
          (then_begun (re.Byte ((byte, byte) ∷ [])) _ _ _ _ _ _ _ c.loop-i.invariant.0
          (byte_begun _ _ _ _ c.in_ok-entry.ensures.node)),
      omega (arith, c.loop-i.invariant.1, c.in_ok-entry.ensures.paid),
    )

pub returns-clause-compiled : goal.returns-clause-compiled
returns-clause-compiled g c =
    let start : c.loop-i.i ≡ 0 = omega arith in
    one_compiled _ _ _ _ c.args.ids.now _ c.loop-i.entry
    (reads_some_literal c.args.bytes.now (grind (arith, common_steps)))
    (rw start at c.loop-i.invariant.0) c.set_each.ensures
