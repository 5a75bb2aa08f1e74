use Rattle.determinize_syntax.proofs.Common.{SpellsUnder, subst, sym}
use Rattle.determinize_syntax.proofs.parser.parse.Goals as goal

pub returns-clause-complete : goal.returns-clause-complete
returns-clause-complete c re h =
    c.parse_with.ensures.complete re (subst (λ f. SpellsUnder f re c.args.text.now) (sym c.new.ensures) h)

pub returns-clause-spells : goal.returns-clause-spells
returns-clause-spells c = rw c.new.ensures at c.parse_with.ensures.spells

pub returns-clause-nested : goal.returns-clause-nested
returns-clause-nested c = c.parse_with.ensures.nested

pub returns-clause-twice : goal.returns-clause-twice
returns-clause-twice c = c.parse_with.ensures.twice

pub returns-clause-range : goal.returns-clause-range
returns-clause-range c = c.parse_with.ensures.range
