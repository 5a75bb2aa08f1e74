use Rattle.determinize_regex.proofs.Common.{filter_same, rules}
use Rattle.determinize_regex.proofs.utf8.retain_whole.Goals as goal

pub returns : goal.returns
returns g c = filter_same _ _ _ (λ x b f' k. search rules) _ _ c.retain.ensures.filtered
