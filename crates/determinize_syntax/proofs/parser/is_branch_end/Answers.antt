use Rattle.determinize_syntax.proofs.Common.{◌∙◌, at_end, front_of, inl, rest, sym}
use Rattle.determinize_syntax.proofs.Stepping.{no_stop, stop_here}
use Rattle.determinize_syntax.proofs.parser.is_branch_end.Goals as goal

pub returns-in-None-clause-end : goal.returns-in-None-clause-end
returns-in-None-clause-end c e = inl (inl (at_end (rest c.args.cursor.now) (sym c.peek.ensures ∙ c.in-None.is)))

pub returns-in-Some-clause-end : goal.returns-in-Some-clause-end
returns-in-Some-clause-end c e =
    let x = front_of (rest c.args.cursor.now) c.in-Some.next (sym c.peek.ensures ∙ c.in-Some.is) in
    rw x.1 (stop_here x.0 c.in-Some.next (sym c.ends_branch.ensures ∙ e))

pub returns-in-Some-clause-other : goal.returns-in-Some-clause-other
returns-in-Some-clause-other c e stop =
    let x = front_of (rest c.args.cursor.now) c.in-Some.next (sym c.peek.ensures ∙ c.in-Some.is) in
    no_stop x.0 c.in-Some.next (sym c.ends_branch.ensures ∙ e) (rw x.1 at stop)
