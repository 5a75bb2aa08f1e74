use Rattle.determinize_state.proofs.Common.{Value, ap, refl, true, value_of, ◌∙◌}
use Rattle.determinize_state.proofs.building.UnfinishedBytes.{half_crlf_set, still_building}
use Rattle.determinize_state.proofs.state.builders.StateBuilderNFA.set_is_half_crlf.Goals as goal

pub invariant_of-self : goal.invariant_of-self
invariant_of-self g c = still_building c.self.invariant c.set_flag.ensures
    (half_crlf_set c.self.inside.bytes.items c.self.invariant.is) refl

pub returns : goal.returns
returns g c = ap value_of c.set_flag.ensures ∙ (half_crlf_set c.self.inside.bytes.items c.self.invariant.is).1
    ∙ ap (λ (v : Value). record v { half_crlf = true }) c.self.view_is
