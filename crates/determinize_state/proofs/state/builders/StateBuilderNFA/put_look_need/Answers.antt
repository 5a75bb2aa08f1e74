use Rattle.determinize_state.proofs.Common.{Value, ap, refl, value_of, ◌∙◌}
use Rattle.determinize_state.proofs.building.UnfinishedBytes.{need_written, still_building}
use Rattle.determinize_state.proofs.state.builders.StateBuilderNFA.put_look_need.Goals as goal

pub invariant_of-self : goal.invariant_of-self
invariant_of-self g c = still_building c.self.invariant (rw c.as_repr.ensures.value at c.put_number.ensures.items)
    (need_written c.self.inside.bytes.items c.args.look_need c.self.invariant.is c.as_repr.ensures.small) refl

pub returns : goal.returns
returns g c = ap value_of (rw c.as_repr.ensures.value at c.put_number.ensures.items)
    ∙ (need_written c.self.inside.bytes.items c.args.look_need c.self.invariant.is c.as_repr.ensures.small).1
    ∙ ap (λ (v : Value). record v { look_need = c.args.look_need }) c.self.view_is
