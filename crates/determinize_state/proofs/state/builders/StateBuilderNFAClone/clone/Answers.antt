use Rattle.std.proofs.lemmas.List.Elements.{same_from_all_zip}
use Rattle.determinize_state.proofs.Common.{sym, ◌∙◌, ◌≡◌, ap, value_of}
use Rattle.determinize_state.proofs.state.builders.StateBuilderNFAClone.clone.Given.{Over}
use Rattle.determinize_state.proofs.state.builders.StateBuilderNFAClone.clone.Goals.{After-last-1}
use Rattle.determinize_state.proofs.state.builders.StateBuilderNFAClone.clone.Goals as goal

same_bytes : (g : Over) (c : After-last-1 g) → c.in_ok-bytes.bytes.items ≡ c.self.inside.bytes.items
same_bytes g c = same_from_all_zip _ _ _ c.in_ok-bytes.ensures.cases.0 (λ x y e. e)

pub invariant_of-result : goal.invariant_of-result
invariant_of-result g c = rw (same_bytes g c) c.self.invariant

pub returns : goal.returns
returns g c = record { cases = sym c.self.view_is ∙ ap value_of (sym (same_bytes g c)) }
