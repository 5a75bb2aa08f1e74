use Rattle.determinize_syntax.proofs.Common.{◌∙◌, closed, is_in_boundary, sym}
use Rattle.determinize_syntax.proofs.Munch.{All, all_more}
use Rattle.determinize_syntax.proofs.escape.pass_letters.Goals as goal

pub loop-next-preserved : goal.loop-next-preserved
loop-next-preserved c =
    closed (All is_in_boundary) (All is_in_boundary) c.loop-next.invariant
    (c.pass.ensures c.in-Some.next (sym c.peek.ensures ∙ c.in-Some.is))
    (λ t all. all_more is_in_boundary t c.in-Some.next all (sym c.is_in_boundary.ensures
    ∙ c.if-not-is_in_boundary.false))
