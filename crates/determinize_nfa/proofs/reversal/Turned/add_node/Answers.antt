use Rattle.determinize_nfa.proofs.Common.{All-rest, Turned, ap, arith, if_err_and, length}
use Rattle.determinize_nfa.proofs.Common.{next_of, node_of, refl, rules, ◌<◌, ◌∙◌}
use Rattle.determinize_nfa.proofs.kinds.ArcsLeft.{first_of, whole}
use Rattle.determinize_nfa.proofs.kinds.ArcsOfStates.{arcs_resolve}
use Rattle.determinize_nfa.proofs.reversing.Counts.{count-arc, larger, room_arc}
use Rattle.determinize_nfa.proofs.reversal.Turned.add_node.Goals as goal

pub loop-arc-init : goal.loop-arc-init
loop-arc-init g c = record {
  count = search rules;
  rest = rw (whole (node_of c.args.state.now)) refl;
  below = rw (whole (node_of c.args.state.now))
      (arcs_resolve (length c.args.self.now.into) (node_of c.args.state.now) c.requires.resolves);
}

pub add_arc-requires : goal.add_arc-requires
add_arc-requires g c =
    let first = first_of (node_of c.args.state.now) c.loop-arc.from _ _ _ c.in-Some.is c.arc_from.ensures in
    let below = rw first at c.loop-arc.invariant.below in
    record {
      next = omega (arith, below 0 c.in-Some.arc (omega arith), c.loop-arc.invariant.count);
      small = omega (arith, c.loop-arc.invariant.count, c.requires.small);
    }

pub loop-arc-smaller : goal.loop-arc-smaller
loop-arc-smaller g c =
    let first = first_of (node_of c.args.state.now) c.loop-arc.from _ _ _ c.in-Some.is c.arc_from.ensures in
    rw first (omega arith)

pub loop-arc-preserved : goal.loop-arc-preserved
loop-arc-preserved g c =
    let first = first_of (node_of c.args.state.now) c.loop-arc.from _ _ _ c.in-Some.is c.arc_from.ensures in
    record {
      count = ap (λ (t : Turned). length t.into) c.in_ok-add_arc.ensures.turned
          ∙ count-arc c.args.id c.in-Some.arc c.loop-arc.self ∙ c.loop-arc.invariant.count;
      rest = grind (arith, c.in_ok-add_arc.ensures.turned, first);
      below = All-rest (λ arc. next_of arc < length c.args.self.now.into) _ _ _ first c.loop-arc.invariant.below;
    }

pub returns-in_err-add_arc-clause-err : goal.returns-in_err-add_arc-clause-err
returns-in_err-add_arc-clause-err g c =
    let first = first_of (node_of c.args.state.now) c.loop-arc.from _ _ _ c.in-Some.is c.arc_from.ensures in
    let room = room_arc c.args.id (node_of c.args.state.now) c.in-Some.arc _ _ c.args.self.now c.loop-arc.self
    c.loop-arc.invariant.rest first in
    if_err_and c.from_residual.result _ _
    (λ e h. rw h (larger _ _ c.in_err-add_arc.field-0.0 room c.in_err-add_arc.ensures.err)) c.from_residual.ensures.1
