use Rattle.determinize_core.proofs.Common.{[], has, IfOk-weaker, List, refl, sym, ℕ, ◌++◌, ◌≡◌}
use Rattle.determinize_core.proofs.closure.ClosureSteps.{edges_at, edges-leaf}
use Rattle.determinize_core.proofs.determinize.closure.record_and_follow.Goals as goal

-- a state without edges leaves what is pending
unchanged : (stack : List ℕ) {current others edges : List ℕ} → edges ≡ [] → current ≡ others
    → current ++ stack ≡ edges ++ (others ++ stack)
unchanged stack none same = rw (none, same) refl

pub returns-in-BinaryUnion-clause-pending : goal.returns-in-BinaryUnion-clause-pending
returns-in-BinaryUnion-clause-pending g c =
    IfOk-weaker c.record_and_fork.result _ _
    (λ current same. rw (
      edges_at c.args.nfa.now (has c.args.look_have) c.args.id _ (rw c.in-BinaryUnion.is at c.state-2.ensures.state),
      same.0,
      same.1,
    ))
    c.record_and_fork.ensures.current

pub returns-in-Capture-clause-pending : goal.returns-in-Capture-clause-pending
returns-in-Capture-clause-pending g c =
    IfOk-weaker c.record_and_enter-in-Capture.result _ _
    (λ current same. rw (
      edges_at c.args.nfa.now (has c.args.look_have) c.args.id _ (rw c.in-Capture.is at c.state-2.ensures.state),
      same.0,
      same.1,
      c.from_ref-in-Capture.ensures.value,
    ))
    c.record_and_enter-in-Capture.ensures.current

pub returns-else-not-contains-clause-pending : goal.returns-else-not-contains-clause-pending
returns-else-not-contains-clause-pending g c =
    IfOk-weaker c.record_and_enter.result _ _
    (λ current same. rw (
      edges_at c.args.nfa.now (has c.args.look_have) c.args.id _ (rw c.in-Look.is at c.state-2.ensures.state),
      ← c.if-not-contains.ensures,
      same.0,
      same.1,
      c.from_ref.ensures.value,
    ))
    c.record_and_enter.ensures.current

pub returns-in-Union-clause-pending : goal.returns-in-Union-clause-pending
returns-in-Union-clause-pending g c =
    IfOk-weaker c.record_and_enter-in-Union.result _ _
    (λ current same. rw (
      edges_at c.args.nfa.now (has c.args.look_have) c.args.id _ (rw c.in-Union.is at c.state-2.ensures.state),
      same.0,
      same.1,
      c.as_slice.ensures.value,
    ))
    c.record_and_enter-in-Union.ensures.current

pub returns-then-not-is_epsilon-clause-pending : goal.returns-then-not-is_epsilon-clause-pending
returns-then-not-is_epsilon-clause-pending g c =
    IfOk-weaker c.record_only.result _ _
    (λ current same. unchanged _ (edges-leaf c.args.nfa.now (has c.args.look_have) c.args.id _ c.state.ensures.state
    (sym c.if-not-is_epsilon.ensures)) same)
    c.record_only.ensures.current

pub returns-then-not-contains-clause-pending : goal.returns-then-not-contains-clause-pending
returns-then-not-contains-clause-pending g c =
    let edges =
    edges_at c.args.nfa.now (has c.args.look_have) c.args.id _ (rw c.in-Look.is at c.state-2.ensures.state) in
    IfOk-weaker c.record_only-then-not-contains.result _ _
    (λ current same. unchanged _ (rw (← c.if-not-contains.ensures) at edges) same)
    c.record_only-then-not-contains.ensures.current
