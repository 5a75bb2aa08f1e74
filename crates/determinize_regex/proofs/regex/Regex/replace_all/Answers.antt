use Rattle.determinize_regex.proofs.Common.{IfOk-weaker, rules}
use Rattle.determinize_regex.proofs.Splitting.{replaced_by}
use Rattle.determinize_regex.proofs.regex.Regex.replace_all.Goals as goal

pub returns-clause-replaced : goal.returns-clause-replaced
returns-clause-replaced g c = IfOk-weaker c.replace_with.result _ _
    (λ new (found, all, made). record {
      matches = found;
      these = all;
      is = replaced_by _ _ _ _ (λ x next call. search rules) _ _ made;
    })
    c.replace_with.ensures.replaced
