use Rattle.std.proofs.Common.{arith}
use Rattle.std.proofs.lemmas.Grind.{get_or_default_zero}
use Rattle.determinize_pattern.proofs.compiled.Compiling.{begun_of}
use Rattle.determinize_pattern.proofs.compiler.Compiler.in_front.Goals as goal

pub returns-clause-begun : goal.returns-clause-begun
returns-clause-begun g c =
    let entry = get_or_default_zero c.literal.new.ids 0 c.index-ids-0.result
    (omega (arith, c.in_ok-literal.ensures.compiled.len)) in
    rw entry (begun_of _ _ _ _ _ c.in_ok-literal.ensures.compiled)
