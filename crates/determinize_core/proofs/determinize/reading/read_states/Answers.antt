use Rattle.determinize_core.proofs.Common.{All-rest, arith, length, None, Some, ◌<◌, ◌∙◌}
use Rattle.determinize_core.proofs.step.FirstReading.{all_read, new_pattern, reading-next}
use Rattle.determinize_core.proofs.determinize.reading.read_states.Goals as goal

pub read_state-requires-clause-resolve : goal.read_state-requires-clause-resolve
read_state-requires-clause-resolve g c =
    let step = g.met.I.Ids.gives c.loop-id.id-iterator c.next.new.self (Some c.in-Some.id) c.in-Some.ensures.steps in
    (rw step at c.loop-id.invariant.left) 0 0 (omega arith)

pub read_state-requires-clause-new_pattern : goal.read_state-requires-clause-new_pattern
read_state-requires-clause-new_pattern g c =
    new_pattern c.loop-id.invariant.reading c.requires.accepted c.in-Some.id

pub loop-id-preserved : goal.loop-id-preserved
loop-id-preserved g c =
    let step = g.met.I.Ids.gives c.loop-id.id-iterator c.next.new.self (Some c.in-Some.id) c.in-Some.ensures.steps in
    let goes_on = rw c.in_ok-stops.ensures.stops at c.if-stops.false in
    record {
      reading = reading-next c.loop-id.invariant.reading c.in_ok-stops.ensures.read;
      whole = rw (step, goes_on, ← c.in_ok-stops.ensures.read.kept_are) at c.loop-id.invariant.whole;
      capacity = c.in_ok-stops.ensures.capacity ∙ c.loop-id.invariant.capacity;
      left = All-rest (λ id. id < length c.args.nfa.now.states) c.in-Some.id _ _ step c.loop-id.invariant.left;
    }

pub returns-then-stops-clause-ok : goal.returns-then-stops-clause-ok
returns-then-stops-clause-ok g c =
    let step = g.met.I.Ids.gives c.loop-id.id-iterator c.next.new.self (Some c.in-Some.id) c.in-Some.ensures.steps in
    let stop = rw c.in_ok-stops.ensures.stops at c.if-stops.true in
    let whole = rw (step, stop, ← c.in_ok-stops.ensures.read.kept_are) at c.loop-id.invariant.whole in
    all_read c.args.match_kind _ (rw whole at (reading-next c.loop-id.invariant.reading c.in_ok-stops.ensures.read))

pub returns-clause-ok : goal.returns-clause-ok
returns-clause-ok g c =
    let end = g.met.I.Ids.gives c.loop-id.id-iterator c.next.new.self None c.in-None.ensures.steps in
    all_read c.args.match_kind _ (rw (rw end.0 at c.loop-id.invariant.whole) at c.loop-id.invariant.reading)
