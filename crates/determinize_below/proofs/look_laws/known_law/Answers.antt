use Rattle.determinize_below.proofs.looks.LookBehindTable.{known_is, Decides-all_units}
use Rattle.determinize_below.specs.Semantics.{holds}
use Rattle.determinize_below.proofs.look_laws.known_law.Goals as goal

pub returns : goal.returns
returns c = record {
  every = Decides-all_units (λ q. holds c.args.reverse c.args.terminator c.args.before q c.args.look);
  table = known_is c.args.reverse c.args.terminator c.args.before c.args.look;
}
