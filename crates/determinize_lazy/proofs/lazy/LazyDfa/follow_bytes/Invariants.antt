use Rattle.determinize_lazy.proofs.{IsFollowed, length, units, ◌-◌}
use Rattle.determinize_lazy.proofs.lazy.LazyDfa.follow_bytes.Given as goal

abbrev pub invariant-loop-read : goal.invariant-loop-read
invariant-loop-read g l =
    IsFollowed (units l.text) l.self l.fn.from l.fn.start l.fn.states.items l.id l.read l.states.items

abbrev pub decreases-loop-read : goal.decreases-loop-read
decreases-loop-read g l = length l.text.bytes - l.read
