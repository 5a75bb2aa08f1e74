use Rattle.determinize_nfa.proofs.Common.{All-rest, arith, by_option, next_of, node_of, refl}
use Rattle.determinize_nfa.proofs.Common.{rules, ◌<◌}
use Rattle.determinize_nfa.proofs.kinds.ArcsLeft.{first_of, none_left, whole}
use Rattle.determinize_nfa.proofs.kinds.ArcsOfStates.{arcs_resolve}
use Rattle.determinize_nfa.proofs.reached.visit_targets.Goals as goal

pub loop-arc-init : goal.loop-arc-init
loop-arc-init g c = record {
  capacity = search rules;
  rest = rw (whole (node_of c.args.state.now)) refl;
  below = rw (whole (node_of c.args.state.now))
      (arcs_resolve c.args.found.now.capacity (node_of c.args.state.now) c.requires.resolves);
}

pub insert-requires : goal.insert-requires
insert-requires g c =
    let first = first_of (node_of c.args.state.now) c.loop-arc.from _ _ _ c.in-Some.is c.arc_from.ensures in
    let below = rw first at c.loop-arc.invariant.below in
    omega (arith, below 0 c.in-Some.arc (omega arith), c.loop-arc.invariant.capacity, c.next.ensures)

pub loop-arc-smaller : goal.loop-arc-smaller
loop-arc-smaller g c =
    let first = first_of (node_of c.args.state.now) c.loop-arc.from _ _ _ c.in-Some.is c.arc_from.ensures in
    rw first (omega arith)

pub loop-arc-preserved : goal.loop-arc-preserved
loop-arc-preserved g c =
    let first = first_of (node_of c.args.state.now) c.loop-arc.from _ _ _ c.in-Some.is c.arc_from.ensures in
    record {
      capacity = grind arith;
      rest = grind (arith, first);
      below = All-rest (λ a. next_of a < c.args.found.now.capacity) _ _ _ first c.loop-arc.invariant.below;
    }

pub returns : goal.returns
returns g c =
    let none = none_left (node_of c.args.state.now) c.loop-arc.from c.arc_from.result
    (by_option c.arc_from.result (λ h. h) (λ i h. absurd (c.in_default.not-Some i h))) c.arc_from.ensures in
    grind (arith, none)
