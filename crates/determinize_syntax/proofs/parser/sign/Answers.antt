use Rattle.determinize_syntax.proofs.Common.{◌≡◌, arith, meaning, ok_then}
use Rattle.determinize_syntax.specs.Spells.{dot, line_end, line_start}
use Rattle.determinize_syntax.proofs.parser.sign.Goals as goal

pub returns-in-94 : goal.returns-in-94
returns-in-94 c = rw (c.line.ensures, c.in-94.is) (line_start c.args.flags)

pub returns-in-36 : goal.returns-in-36
returns-in-36 c = rw (c.line-in-36.ensures, c.in-36.is) (line_end c.args.flags)

pub returns-in_default : goal.returns-in_default
returns-in_default c =
    let is : c.args.byte ≡ 0x2E = grind (arith, c.requires, c.in_default) in
    ok_then _ _ c.dot_of_characters.result c.dot_of_characters.ensures
    (λ p h. rw is (dot c.args.flags (meaning p) (rw c.if-flags.true h)))

pub returns-in_default-2 : goal.returns-in_default-2
returns-in_default-2 c =
    let is : c.args.byte ≡ 0x2E = grind (arith, c.requires, c.in_default) in
    ok_then _ _ c.dot_of_bytes.result c.dot_of_bytes.ensures
    (λ p h. rw is (dot c.args.flags (meaning p) (rw c.if-flags.false h)))
