use Rattle.determinize_regex.proofs.Common.{IfOk-weaker}
use Rattle.determinize_regex.proofs.regex.Regex.split.Goals as goal

pub returns-clause-parts : goal.returns-clause-parts
returns-clause-parts g c = IfOk-weaker c.split_at.result _ _
    (λ cut are. record { matches = c.in_ok-found.found.items; these = c.in_ok-found.ensures.all; are = are })
    (rw c.deref.ensures.value at c.split_at.ensures)
