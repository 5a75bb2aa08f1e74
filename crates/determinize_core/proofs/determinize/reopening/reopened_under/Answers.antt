use Rattle.determinize_core.proofs.Common.{arith, byte_of, tables_of}
use Rattle.determinize_core.proofs.step.Reopening.{reopened_under, unneeded}
use Rattle.determinize_core.proofs.determinize.reopening.reopened_under.Goals as goal

pub returns : goal.returns
returns g c =
    let both = reopened_under c.args.nfa.now c.args.state.now (byte_of c.args.unit) c.opened-found.result
    c.reopens.result
    (λ look. rw (c.of-tables.ensures.tables, c.is_from_word-from_word.ensures, c.is_half_crlf.ensures)
    at (c.opened-found.ensures look))
    (rw (c.look_have-have.ensures, c.look_need-need.ensures) at c.reopens.ensures) in
    rw (c.then_some.ensures, c.union.ensures, c.look_have-have.ensures)
    record { none = both.none; some = both.some; accepted = c.of-tables.ensures.accepted }

pub returns-then-is_empty-clause-none : goal.returns-then-is_empty-clause-none
returns-then-is_empty-clause-none g c = unneeded c.args.nfa.now c.args.state.now _ (grind arith)

pub returns-then-stays_closed-clause-none : goal.returns-then-stays_closed-clause-none
returns-then-stays_closed-clause-none g c =
    rw (c.is_from_word-from_word.ensures, c.look_have-have.ensures, c.look_need-need.ensures)
    at (c.stays_closed.ensures (tables_of c.args.nfa.now) c.args.state.now.half_crlf c.if-stays_closed.true)
