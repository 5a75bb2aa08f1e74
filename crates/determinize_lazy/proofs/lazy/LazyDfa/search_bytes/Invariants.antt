use Rattle.determinize_lazy.proofs.{GoesTo, length, place, ◌-◌}
use Rattle.determinize_lazy.proofs.lazy.LazyDfa.search_bytes.Given as goal

abbrev pub invariant-loop-at : goal.invariant-loop-at
invariant-loop-at g l = GoesTo l.fn.earliest l.text (place l.fn.self l.fn.from) l.self l.at

abbrev pub decreases-loop-at : goal.decreases-loop-at
decreases-loop-at g l = length l.text.bytes - l.at.read
