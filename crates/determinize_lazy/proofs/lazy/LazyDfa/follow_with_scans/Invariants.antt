use Rattle.determinize_lazy.proofs.{cached_place, GoesToCached, length, ◌-◌}
use Rattle.determinize_lazy.proofs.lazy.LazyDfa.follow_with_scans.Given as goal

abbrev pub invariant-loop-at : goal.invariant-loop-at
invariant-loop-at g l = GoesToCached l.fn.earliest l.text (cached_place l.self l.fn.from) l.self l.at

abbrev pub decreases-loop-at : goal.decreases-loop-at
decreases-loop-at g l = length l.text.bytes - l.at.read
