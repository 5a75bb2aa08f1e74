use Rattle.std.proofs.Common.{rules}
use Rattle.std.proofs.lemmas.List.Sorted.{IsNonDecreasingBy-from_sort_by_key}
use Rattle.determinize_pattern.specs.declared.chars.ClassUnicodeRange.{ClassUnicodeRange}
use Rattle.determinize_pattern.proofs.chars.sorted.Goals as goal

pub returns-clause-ordered : goal.returns-clause-ordered
returns-clause-ordered c =
    IsNonDecreasingBy-from_sort_by_key (λ (r : ClassUnicodeRange). r.start) _ c.sort_unstable_by_key.ensures.sorted
    (λ a r q k. search rules)
