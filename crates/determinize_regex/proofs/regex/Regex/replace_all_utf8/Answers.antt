use Rattle.determinize_regex.proofs.Common.{IfOk-weaker, of_calls, refl, rules}
use Rattle.determinize_regex.proofs.Splitting.{kept_apart, replaced_by}
use Rattle.determinize_regex.proofs.regex.Regex.replace_all_utf8.Goals as goal

pub replace_each-requires : goal.replace_each-requires
replace_each-requires g c k = (
  (refl, tt),
  (
    rw (c.deref.ensures.value, c.retain_whole.ensures)
        (kept_apart _ 0 _ _ c.in_ok-found.found.items c.in_ok-found.ensures.apart),
    search of_calls,
  ),
)

pub returns-clause-replaced : goal.returns-clause-replaced
returns-clause-replaced g c =
    let all = c.in_ok-found in
    IfOk-weaker c.replace_each.result _ _
    (λ new made. record {
      matches = c.retain_whole.new.found.items;
      these = record { matches = all.found.items; all = all.ensures.all; kept = c.retain_whole.ensures };
      is = replaced_by _ _ _ _ (λ x next call. search rules) _ _ made;
    })
    (rw c.deref.ensures.value at c.replace_each.ensures)
