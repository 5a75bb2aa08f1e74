use Rattle.determinize_syntax.proofs.Common.{◌∙◌, ◌≡◌, None, SpellsUnder, [], ap, arith, is_some, meaning, rest}
use Rattle.determinize_syntax.proofs.Common.{slice_get, sym, true}
use Rattle.determinize_syntax.proofs.Following.{text_follows}
use Rattle.determinize_syntax.proofs.Limits.{names_none}
use Rattle.determinize_syntax.proofs.Rules.{none_of, whole_read}
use Rattle.determinize_syntax.proofs.Stepping.{whole_ended}
use Rattle.determinize_syntax.proofs.parser.parse_with.Goals as goal

pub returns-clause-spells : goal.returns-clause-spells
returns-clause-spells c =
    let off : c.peek.result ≡ None = none_of c.peek.result (sym c.is_some.ensures ∙ c.if-is_some.false) in
    let spells = SpellsUnder c.args.flags (meaning c.in-Ok.pattern) in
    rw c.new-cursor.ensures at (whole_read _ _ spells c.in-Ok.ensures.read (sym c.peek.ensures ∙ off))

pub returns-in-Err-clause-complete : goal.returns-in-Err-clause-complete
returns-in-Err-clause-complete c re h = rw c.in_text.ensures.kind (c.in-Err.ensures.whole []
    (rw c.new-cursor.ensures (text_follows c.args.flags re c.args.text.now h)))

pub returns-then-is_some-clause-complete : goal.returns-then-is_some-clause-complete
returns-then-is_some-clause-complete c re h =
    let x = c.in-Ok.ensures.whole []
    (rw c.new-cursor.ensures (text_follows c.args.flags re c.args.text.now h)) in
    let off : c.peek.result ≡ None = c.peek.ensures
    ∙ ap (λ l. slice_get l 0) (whole_ended x.0 (rest c.choice.new.cursor) x.1 x.2) in
    let never : is_some c.peek.result ≡ true = sym c.is_some.ensures ∙ c.if-is_some.true in
    absurd (cc)

pub returns-in-Err-clause-nested : goal.returns-in-Err-clause-nested
returns-in-Err-clause-nested c is = rw c.new-cursor.ensures at
    (c.in-Err.ensures.limits.nested (sym c.in_text.ensures.kind ∙ is) (omega arith))

pub returns-in-Err-clause-twice : goal.returns-in-Err-clause-twice
returns-in-Err-clause-twice c is = c.in-Err.ensures.limits.twice (sym c.in_text.ensures.kind ∙ is) c.args.text.now
    (names_none c.args.text.now (rest c.new-cursor.result) c.new-context.result c.new-cursor.ensures
    c.new-context.ensures)
