use Rattle.determinize_nfa.proofs.Common.{BuilderValue, IfOk-weaker, ap, built, failure, if_err_and, inr, map, node_of}
use Rattle.determinize_nfa.proofs.Common.{on_ok_weaker, sym, ◌∙◌, ◌≡◌}
use Rattle.determinize_nfa.proofs.builder.Builder.build.Goals as goal

copied : (g : _) (c : goal.After-from_parts g) → ◌≡◌ {A = BuilderValue}
    record {
      states = map node_of c.in_ok-states.states.items;
      patterns = c.self.inside.patterns;
      terminator = c.self.inside.look_matcher;
    }
    c.args.self.now
copied g c =
    rw (c.in_ok-states.ensures, c.as_slice.ensures.value) c.self.view_is

pub returns-clause-ok : goal.returns-clause-ok
returns-clause-ok g c = IfOk-weaker c.from_parts.result _ _
    (λ n e. e ∙ ap (λ (b : BuilderValue). built b c.args.start_anchored c.args.start_unanchored) (copied g c))
    c.from_parts.ensures.ok

pub returns-clause-accepted : goal.returns-clause-accepted
returns-clause-accepted g c = on_ok_weaker c.from_parts.result
    (λ h. ap (λ (b : BuilderValue). failure b.states c.args.start_anchored c.args.start_unanchored) (sym (copied g c))
    ∙ h)
    c.from_parts.ensures.accepted

pub returns-clause-err : goal.returns-clause-err
returns-clause-err g c = rw (ap (λ (b : BuilderValue). b.states) (copied g c)) at c.from_parts.ensures.err

pub returns-in_err-states-clause-err : goal.returns-in_err-states-clause-err
returns-in_err-states-clause-err g c = if_err_and c.from_residual.result _ _ (λ e h. inr h) c.from_residual.ensures.1
