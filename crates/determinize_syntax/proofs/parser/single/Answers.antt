use Rattle.determinize_syntax.proofs.Common.{◌∙◌, ap, ok_then, prefixed, rest, sym}
use Rattle.determinize_syntax.proofs.parser.single.Goals as goal

pub returns-then-take-clause-read : goal.returns-then-take-clause-read
returns-then-take-clause-read c =
    ok_then _ _ c.escaped_atom.result c.escaped_atom.ensures.read
    (λ p h. prefixed _ (c.take.ensures.read c.if-take.true) h)

pub returns-then-take-2-clause-read : goal.returns-then-take-2-clause-read
returns-then-take-2-clause-read c =
    ok_then _ _ c.bracket.result c.bracket.ensures.read (λ p h. prefixed _
    (ap rest (sym (c.take.ensures.left c.if-take.false)) ∙ c.take-2.ensures.read c.if-take-2.true) h)

pub returns-then-take-clause-whole : goal.returns-then-take-clause-whole
returns-then-take-clause-whole c k h other =
    c.escaped_atom.ensures.whole k (rw (c.take.ensures.read c.if-take.true) at h)

pub returns-then-take-2-clause-whole : goal.returns-then-take-2-clause-whole
returns-then-take-2-clause-whole c k h other = c.bracket.ensures.whole k
    (rw (ap rest (sym (c.take.ensures.left c.if-take.false)) ∙ c.take-2.ensures.read c.if-take-2.true) at h)
