use Rattle.std.proofs.lemmas.Result.{err_from_is_err_and}
use Rattle.determinize_table.proofs.Changes.{index_before, kept-cleared, kept-failed, source_inside, source_there}
use Rattle.determinize_table.proofs.Changes.{target_there, transitions-kept}
use Rattle.determinize_table.proofs.table.TransitionTable.insert.Goals as goal

pub write_shared-requires-clause-source : goal.write_shared-requires-clause-source
write_shared-requires-clause-source g c = source_there c.in_ok-source.ensures c.in-Ok.ensures

pub write_shared-requires-clause-target : goal.write_shared-requires-clause-target
write_shared-requires-clause-target g c = target_there c.in_ok-source.ensures c.in-Ok.ensures

pub returns-in-Ok : goal.returns-in-Ok
returns-in-Ok g c = transitions-kept c.in_ok-source.ensures c.in-Ok.ensures c.write_shared.ensures

pub intern_after-requires-clause-found : goal.intern_after-requires-clause-found
intern_after-requires-clause-found g c = index_before c.in_ok-source.ensures c.args.target c.args.found c.requires.found

pub intern_after-requires-clause-source : goal.intern_after-requires-clause-source
intern_after-requires-clause-source g c = source_inside c.in_ok-source.ensures

pub returns-in_err-source : goal.returns-in_err-source
returns-in_err-source g c =
    let (e, is, _) = err_from_is_err_and c.from_residual.result c.from_residual.ensures.1 in
    rw is (kept-failed c.in_err-source.ensures.starts c.in_err-source.ensures.err)

pub returns-in-Err : goal.returns-in-Err
returns-in-Err g c = kept-cleared c.clear.ensures
