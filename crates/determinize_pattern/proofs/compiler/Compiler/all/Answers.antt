use Rattle.std.proofs.Common.{◌∙◌, arith, map}
use Rattle.std.proofs.lemmas.Result.{IfOk-weaker, on_ok_weaker}
use Rattle.determinize_pattern.proofs.compiled.Starting.{finds_all}
use Rattle.determinize_pattern.specs.Patterns.{meaning}
use Rattle.determinize_pattern.proofs.compiler.Compiler.all.Goals as goal

pub returns-clause-finds : goal.returns-clause-finds
returns-clause-finds g c = IfOk-weaker c.start.result _ _
    (λ s h. finds_all _ _ _ _ (map meaning c.args.patterns.now) s c.in_ok-matches.ensures.added
    (rw c.deref.ensures.value at h)) c.start.ensures.begins

pub returns-clause-terminator : goal.returns-clause-terminator
returns-clause-terminator g c = on_ok_weaker c.start.result
    (λ e. e ∙ c.in_ok-matches.ensures.added.extends.terminator) c.start.ensures.terminator

pub returns-clause-paid : goal.returns-clause-paid
returns-clause-paid g c =
    on_ok_weaker c.start.result (λ paid. omega (arith, c.in_ok-matches.ensures.paid, paid)) c.start.ensures.paid
