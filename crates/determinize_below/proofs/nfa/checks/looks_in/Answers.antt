use Rattle.determinize_below.proofs.Common.{[], ap, arith, drop, map, node_of, refl, sym, with_looks_of, ◌≡◌, ◌∙◌}
use Rattle.std.proofs.lemmas.List.{length-drop, nil_from_length}
use Rattle.determinize_below.proofs.nfa.checks.looks_in.Goals as goal

pub loop-state-init : goal.loop-state-init
loop-state-init g c = rw c.empty-looks.ensures refl

pub returns : goal.returns
returns g c =
    let none : drop c.loop-state.state-index c.args.states.now ≡ []
    = nil_from_length (drop c.loop-state.state-index c.args.states.now)
    (omega (arith, length-drop c.loop-state.state-index c.args.states.now, c.loop-state-test.false)) in
    sym (c.loop-state.invariant ∙ ap (λ xs. with_looks_of c.loop-state.looks (map node_of xs)) none)
