use Rattle.determinize_find.proofs.Common.{end_before, is_touching, rules, true, ◌≡◌}
use Rattle.determinize_find.specs.Private.Windows.{IsWindow}
use Rattle.determinize_find.proofs.streams.Steps.{moved_on, skipped}
use Rattle.determinize_find.proofs.pieces.Pieces.next_certain.Goals as goal

pub returns-clause-step : goal.returns-clause-step
returns-clause-step g c searching =
    let first = c.in_ok-first.ensures.step searching in
    let touching : is_touching (end_before c.certain.new.self) c.in_ok-first.first ≡ true = search rules in
    let window : IsWindow c.certain.new.self.kept c.certain.new.self.dropped c.certain.new.self.start
    c.certain.new.self.scan = rw (← c.self.view_is) c.self.invariant in
    let skip = skipped c.args.self.now c.in_ok-first.first touching window first.certain c.in_ok-first.ensures.taken in
    let next = rw c.in_ok-first.ensures.same at c.certain-2.ensures.step in
    let second = next (rw (← c.self.view_is) at skip.searching) in
    record {
      moved = moved_on first.moved (moved_on skip (rw (← c.self.view_is) second.moved));
      certain = second.certain;
      few = second.few;
    }
