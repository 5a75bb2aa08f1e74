use Rattle.determinize_lazy.proofs.{cached_place, GoesToCached, length, ◌-◌, ◌<◌, ◌≡◌}
use Rattle.determinize_lazy.proofs.lazy.LazyDfa.follow_and_learn.Given as goal

abbrev pub invariant-loop-at : goal.invariant-loop-at
invariant-loop-at g l = record {
  goes : GoesToCached l.fn.earliest l.text (cached_place l.fn.self l.fn.from) l.self
      (record { id = l.at.0; read = l.at.1.0; last = l.at.1.1.0 });
  same : l.self ≡ l.fn.self;
  some : 0 < l.patience;
}

abbrev pub decreases-loop-at : goal.decreases-loop-at
decreases-loop-at g l = length l.text.bytes - l.at.1.0
