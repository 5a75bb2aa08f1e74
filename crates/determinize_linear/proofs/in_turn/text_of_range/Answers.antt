use Rattle.std.proofs.Common.{◌≤◌, ◌∙◌, ap, arith, length}
use Rattle.determinize_below.specs.Semantics.{Text}
use Rattle.determinize_find.proofs.matches.OneList.{length-range}
use Rattle.determinize_linear.proofs.in_turn.text_of_range.Goals as goal

pub returns-clause-count : goal.returns-clause-count
returns-clause-count c =
    let within : c.args.input.now.end ≤ length c.args.input.now.haystack
    = omega (arith, c.end.ensures.value, c.end.ensures.in_haystack) in
    ap (λ (t : Text). length t.bytes) c.of_input.ensures ∙ length-range c.args.input.now within
