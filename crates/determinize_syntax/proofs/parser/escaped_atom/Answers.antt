use Rattle.determinize_syntax.proofs.Common.{◌∷◌, clash, false, renamed, rules}
use Rattle.determinize_syntax.proofs.Escapes.{past_boundary}
use Rattle.determinize_syntax.proofs.Stepping.{escape_here}
use Rattle.determinize_syntax.proofs.parser.escaped_atom.Goals as goal

pub returns-clause-read : goal.returns-clause-read
returns-clause-read c = renamed _ _ c.in_ok-escape.ensures.read (λ t h. c.in_ok-of_escape.ensures (0x5C ∷ t) h)

pub returns-in_err-escape-clause-whole : goal.returns-in_err-escape-clause-whole
returns-in_err-escape-clause-whole c k h =
    let x = escape_here k c.args.flags _ h in
    let limit = c.in_err-escape.ensures.whole x.1 x.0 x.2 (λ look is. past_boundary k c.args.flags false x.0 x.4) in
    search (rules, limit)

pub returns-in-Some-clause-whole : goal.returns-in-Some-clause-whole
returns-in-Some-clause-whole c k h =
    let x = escape_here k c.args.flags _ h in
    let y = c.in_ok-escape.ensures.whole x.1 x.0 x.2 (λ look is. past_boundary k c.args.flags false x.0 x.4) in
    clash (rw (← y.0) at x.3) (rw c.in-Some.is at c.unavailable.ensures.some)

pub returns-clause-whole : goal.returns-clause-whole
returns-clause-whole c k h =
    let x = escape_here k c.args.flags _ h in
    rw (c.in_ok-escape.ensures.whole x.1 x.0 x.2 (λ look is. past_boundary k c.args.flags false x.0 x.4)).1 x.4
