use Rattle.determinize_start.proofs.Common.{refl, tables}
use Rattle.determinize_start.specs.LookTables.{line_opened, opened, word_opened}
use Rattle.determinize_start.proofs.tables.StepTables.{known_or_opened_any}
use Rattle.determinize_start.proofs.look_laws.opened_law.Goals as goal

pub returns-clause-truth : goal.returns-clause-truth
returns-clause-truth c =
    known_or_opened_any (tables c.args.reverse c.args.terminator c.args.any) c.args.before c.args.from_word c.args.half
    c.args.unit c.args.look c.requires.flags c.requires.there

pub returns-clause-known_alone : goal.returns-clause-known_alone
unfolding opened word_opened line_opened
returns-clause-known_alone c = (refl, refl, refl, refl)
