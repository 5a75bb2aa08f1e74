use Rattle.determinize_table.proofs.Common.{refl, sym, ◌∙◌}
use Rattle.std.proofs.lemmas.Result.{err_from_is_err_and}
use Rattle.determinize_table.proofs.Changes.{kept-alone, kept-failed, kept-none, none_in}
use Rattle.determinize_table.proofs.table.TransitionTable.keep.Goals as goal

pub returns-then-fits : goal.returns-then-fits
returns-then-fits g c = rw (sym c.fits.ensures ∙ c.if-fits.true) c.insert.ensures

pub returns-in_err-into_state : goal.returns-in_err-into_state
returns-in_err-into_state g c =
    let (e, is, _) = err_from_is_err_and c.from_residual.result c.from_residual.ensures.1 in
    rw is (kept-failed refl refl)

pub insert-requires-then-fits-2-clause-source : goal.insert-requires-then-fits-2-clause-source
insert-requires-then-fits-2-clause-source g c = none_in c.clear.ensures c.in_ok-into_state.field-0

pub insert-requires-then-fits-2-clause-found : goal.insert-requires-then-fits-2-clause-found
insert-requires-then-fits-2-clause-found g c = none_in c.clear.ensures c.args.following

pub returns-then-fits-2 : goal.returns-then-fits-2
returns-then-fits-2 g c = kept-alone c.clear.ensures c.args.limit _ _ c.args.following _
    (sym c.fits.ensures ∙ c.if-fits.false) c.in_ok-into_state.ensures
    (sym c.fits-2.ensures ∙ c.if-fits-2.true) c.insert-then-fits-2.ensures

pub returns : goal.returns
returns g c = kept-none c.clear.ensures c.args.limit _ _ c.args.following _
    (sym c.fits.ensures ∙ c.if-fits.false) c.in_ok-into_state.ensures (sym c.fits-2.ensures ∙ c.if-fits-2.false)
