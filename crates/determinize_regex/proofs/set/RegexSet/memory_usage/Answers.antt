use Rattle.determinize_regex.proofs.Common.{refl}
use Rattle.determinize_regex.proofs.set.RegexSet.memory_usage.Goals as goal

pub returns-clause-cached : goal.returns-clause-cached
returns-clause-cached g c = rw (← c.self.view_is) (
  _,
  record { cache = c.self.inside.lazy; over = refl; most = refl; is = refl },
  c.cached_memory_usage.ensures.value,
)

pub returns-clause-most : goal.returns-clause-most
returns-clause-most g c = rw (← c.self.view_is) c.cached_memory_usage.ensures.most
