use Rattle.determinize_syntax.proofs.Common.{◌∙◌, ap, on_ok, part_shorter, prefixed, rest, sym}
use Rattle.determinize_syntax.proofs.bracket.Items.item.Goals as goal

pub returns-then-take-clause-read : goal.returns-then-take-clause-read
returns-then-take-clause-read c =
    on_ok _ _ c.hyphen.result c.hyphen.ensures.read (λ h. prefixed _ (c.take.ensures.read c.if-take.true) h)

pub returns-then-take-clause-progress : goal.returns-then-take-clause-progress
returns-then-take-clause-progress c =
    on_ok _ _ c.hyphen.result c.hyphen.ensures.read (λ h. part_shorter _ (c.take.ensures.read c.if-take.true) h)

pub returns-then-take-2-clause-read : goal.returns-then-take-2-clause-read
returns-then-take-2-clause-read c =
    on_ok _ _ c.escaped.result c.escaped.ensures.read (λ h. prefixed _
    (ap rest (sym (c.take.ensures.left c.if-take.false)) ∙ c.take-2.ensures.read c.if-take-2.true) h)

pub returns-then-take-2-clause-progress : goal.returns-then-take-2-clause-progress
returns-then-take-2-clause-progress c =
    on_ok _ _ c.escaped.result c.escaped.ensures.read (λ h. part_shorter _
    (ap rest (sym (c.take.ensures.left c.if-take.false)) ∙ c.take-2.ensures.read c.if-take-2.true) h)

pub returns-then-take-3-clause-read : goal.returns-then-take-3-clause-read
returns-then-take-3-clause-read c =
    on_ok _ _ c.name.result c.name.ensures.read (λ h. prefixed _
    (ap rest (sym (c.take-2.ensures.left c.if-take-2.false ∙ c.take.ensures.left c.if-take.false))
    ∙ c.take-3.ensures.read c.if-take-3.true) h)

pub returns-clause-read : goal.returns-clause-read
returns-clause-read c =
    rw (← (c.take-3.ensures.left c.if-take-3.false ∙ c.take-2.ensures.left c.if-take-2.false
    ∙ c.take.ensures.left c.if-take.false)) c.plain.ensures.read
