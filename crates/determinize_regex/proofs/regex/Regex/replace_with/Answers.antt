use Rattle.determinize_regex.proofs.Common.{IfOk-weaker}
use Rattle.determinize_regex.proofs.regex.Regex.replace_with.Goals as goal

pub returns-clause-replaced : goal.returns-clause-replaced
returns-clause-replaced g c = IfOk-weaker c.replace_each.result _ _
    (λ new made. (c.in_ok-found.found.items, c.in_ok-found.ensures.all, made))
    (rw c.deref.ensures.value at c.replace_each.ensures)
