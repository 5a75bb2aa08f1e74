use Rattle.determinize_core.proofs.Common.{rules, ◌<◌}
use Rattle.std.proofs.lemmas.List.Elements.{All-from_get_or}
use Rattle.determinize_engine.proofs.TextUnits.{text_units}
use Rattle.determinize_engine.proofs.text.Text.with_order.Goals as goal

pub invariant_of-result : goal.invariant_of-result
invariant_of-result c = text_units c.args.behind c.args.is_backward c.args.bytes.now c.args.ahead
    (All-from_get_or (λ b. b < 256) c.args.bytes.now 0 (λ i l. (c.type_inv.bytes i).fits)) (search rules)
