use Rattle.std.proofs.Common.{◌≡◌, slice_index}
use Rattle.std.proofs.lemmas.List.{get_or_read}
use Rattle.determinize_pattern.proofs.compiled.Compiling.{one_compiled}
use Rattle.determinize_pattern.proofs.compiled.Reads.{reads_byte}
use Rattle.determinize_pattern.proofs.compiler.Compiler.class.Goals as goal

pub returns-clause-compiled : goal.returns-clause-compiled
returns-clause-compiled g c =
    let first : c.index-ids-0.result ≡ slice_index c.args.ids.now 0
    = get_or_read c.args.ids.now 0 _ c.requires c.index-ids-0.is 0 in
    one_compiled _ _ _ _ _ _ _ (reads_byte c.args.class.now)
    (rw first at c.in_ok-entry.ensures.begun) c.set_each.ensures
