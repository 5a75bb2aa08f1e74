use Rattle.determinize_dense.proofs.Common.{rules, sym, ◌∙◌}
use Rattle.determinize_dense.proofs.Offsets.{offset-zero, same-offset}
use Rattle.determinize_dense.proofs.dfa.Dfa.match_of.Goals as goal

-- row 0 lists no patterns
pub returns-then-row-eq0 : goal.returns-then-row-eq0
returns-then-row-eq0 g c = λ r h e.
    rw (offset-zero c.args.self.now.table (sym e ∙ c.if-row-eq0.true), c.row_number-number.ensures.dead)

pub returns-in_err-pattern : goal.returns-in_err-pattern
returns-in_err-pattern g c = λ r h e.
    let same = same-offset c.args.self.now.table (sym e ∙ c.row_number-number.ensures.row.1) in
    rw (same, ← c.patterns.ensures) (search rules)

pub returns : goal.returns
returns g c = λ r h e.
    let same = same-offset c.args.self.now.table (sym e ∙ c.row_number-number.ensures.row.1) in
    rw (same, ← c.patterns.ensures) (search rules)
