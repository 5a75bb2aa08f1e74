use Rattle.determinize_find.proofs.Common.{refl}
use Rattle.determinize_find.proofs.streams.Steps.{few_kept, settled}
use Rattle.determinize_find.proofs.pieces.Pieces.settle.Goals as goal

pub returns-clause-moved : goal.returns-clause-moved
returns-clause-moved g c searching =
    let moved = c.in_ok-skip_idle.ensures.moved searching in
    settled c.args.regex.now.nfa c.skip_idle.new.self (rw (← c.self.view_is) c.self.invariant.within)
    (rw (c.remove_first.ensures, c.saturating_sub-passed.ensures, ← c.self.view_is) refl) moved.searching moved.fed

pub returns-clause-few : goal.returns-clause-few
returns-clause-few g c searching some unsettled =
    let moved = c.in_ok-skip_idle.ensures.moved searching in
    few_kept c.args.regex.now.nfa c.skip_idle.new.self (rw (← c.self.view_is) c.self.invariant.within)
    (rw (c.remove_first.ensures, c.saturating_sub-passed.ensures, ← c.self.view_is) refl) moved.searching
    c.skip_idle.new.self.scan refl (c.in_ok-skip_idle.ensures.begun some)
    (c.in_ok-skip_idle.ensures.unsettled unsettled) c.in_ok-skip_idle.ensures.idle
