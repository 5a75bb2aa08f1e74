use Rattle.determinize_syntax.proofs.Common.{◌∙◌, sym}
use Rattle.determinize_syntax.proofs.Munch.{no_boundary, text_differs}
use Rattle.determinize_syntax.proofs.escape.boundary_of.Goals as goal

pub returns-clause-none : goal.returns-clause-none
returns-clause-none c look e =
    let name = c.args.name.now in
    no_boundary name look (λ same. text_differs name c.as_bytes.result.now (sym c.eq.ensures ∙ c.if-eq.false)
    (same ∙ sym c.as_bytes.ensures.value))
    (λ same. text_differs name c.as_bytes-2.result.now (sym c.eq-2.ensures ∙ c.if-eq-2.false)
    (same ∙ sym c.as_bytes-2.ensures.value))
    (λ same. text_differs name c.as_bytes-3.result.now (sym c.eq-3.ensures ∙ c.if-eq-3.false)
    (same ∙ sym c.as_bytes-3.ensures.value))
    (λ same. text_differs name c.as_bytes-4.result.now (sym c.eq-4.ensures ∙ c.if-eq-4.false)
    (same ∙ sym c.as_bytes-4.ensures.value)) e
