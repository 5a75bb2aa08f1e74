use Rattle.determinize_syntax.proofs.Common.{◌∙◌, ◌≡◌, arith, list_any, sym, true}
use Rattle.std.proofs.lemmas.Grind.{common_steps}
use Rattle.std.proofs.lemmas.List.{take_all}
use Rattle.determinize_syntax.proofs.Classes.{has_either, in_either}
use Rattle.determinize_syntax.proofs.class.has_case.Goals.{then-contains-via-else-contains+then-contains-2}
use Rattle.determinize_syntax.proofs.class.has_case.Goals.{then-contains-via-then-contains}
use Rattle.determinize_syntax.proofs.class.has_case.Goals as goal

pub returns-then-contains : goal.returns-then-contains
returns-then-contains c =
    let ranges = c.args.ranges.now in
    let lower = c.to_ascii_lowercase-lower in
    let upper = c.to_ascii_uppercase-upper in
    let some : list_any (has_either lower.result upper.result) ranges ≡ true = elim c.then-contains.branch [
      | then-contains-via-then-contains w ↦ grind (arith, common_steps, c.contains.ensures, w.if-contains.true)
      | then-contains-via-else-contains+then-contains-2 w ↦
          grind (arith, common_steps, w.contains-else-contains.ensures, w.if-contains-2.true)
    ] in
    rw (← lower.ensures.value, ← upper.ensures.value) (sym (sym (in_either ranges _ _) ∙ some))

pub returns : goal.returns
returns c =
    let ranges = c.args.ranges.now in
    let none = rw (take_all c.loop-range.range-index ranges (omega arith)) at c.loop-range.invariant in
    rw (← c.to_ascii_lowercase-lower.ensures.value, ← c.to_ascii_uppercase-upper.ensures.value)
    (sym (sym (in_either ranges _ _) ∙ none))
