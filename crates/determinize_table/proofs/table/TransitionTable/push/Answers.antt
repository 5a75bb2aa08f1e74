use Rattle.determinize_table.proofs.Common.{refl, rules}
use Rattle.determinize_engine.proofs.Places.{get_last}
use Rattle.std.proofs.lemmas.Result.{err_from_is_err_and}
use Rattle.determinize_table.proofs.Changes.{interned-failed}
use Rattle.determinize_table.proofs.TableRows.{pushed}
use Rattle.determinize_table.proofs.table.TransitionTable.push.Goals as goal

pub invariant_of-self-in-Ok : goal.invariant_of-self-in-Ok
invariant_of-self-in-Ok g c = record {
  stored = rw c.in-Ok.ensures.states
      (pushed c.resize.new.self.items c.len-len.result c.of-tag.result.bits c.args.state c.self.invariant.stored
      (rw (← c.self.view_is) at c.requires) c.of-tag.ensures (search rules) (search rules)).0;
  looping = tt;
}

pub returns-in-Ok : goal.returns-in-Ok
returns-in-Ok g c = rw (← c.self.view_is, c.in-Ok.ensures.states) record {
  id = rw (c.from_index.ensures, c.in-Ok.ensures.index) (get_last c.self.inside.states c.args.state);
  table = (pushed c.resize.new.self.items c.len-len.result c.of-tag.result.bits c.args.state c.self.invariant.stored
      (rw (← c.self.view_is) at c.requires) c.of-tag.ensures (search rules) (search rules)).1;
  starts = refl;
  err = tt;
}

pub returns-in_err-resize : goal.returns-in_err-resize
returns-in_err-resize g c =
    let (e, is, _) = err_from_is_err_and c.from_residual.result c.from_residual.ensures.1 in
    rw (is, c.in_err-resize.ensures.items) (interned-failed c.self.view_is)

pub invariant_of-self : goal.invariant_of-self
invariant_of-self g c = record { stored = rw c.in_err-resize.ensures.items c.self.invariant.stored; looping = tt }
