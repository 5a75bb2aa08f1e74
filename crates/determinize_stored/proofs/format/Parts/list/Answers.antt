use Rattle.determinize_core.proofs.Common.{length, sym, ◌∙◌}
use Rattle.determinize_stored.proofs.Lists.{end-below, list-at, start-order}
use Rattle.determinize_stored.proofs.format.Parts.list.Goals as goal

pub range-requires-clause-order : goal.range-requires-clause-order
range-requires-clause-order c = rw (c.list_start.ensures, c.get.ensures)
    (start-order c.args.self.now.ends (length c.args.self.now.patterns) c.args.row c.requires.ends c.requires.row)

pub range-requires-clause-within : goal.range-requires-clause-within
range-requires-clause-within c = rw c.get.ensures
    (end-below 0 c.args.self.now.ends (length c.args.self.now.patterns) c.args.row c.requires.ends c.requires.row)

pub returns : goal.returns
returns c = c.range.ensures ∙ rw (c.list_start.ensures, c.get.ensures)
    (sym (list-at c.args.self.now.ends c.args.self.now.patterns c.args.row c.requires.row))
