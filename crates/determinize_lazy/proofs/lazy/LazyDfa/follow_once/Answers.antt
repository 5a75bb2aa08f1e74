use Rattle.determinize_lazy.proofs.{goes_twice}
use Rattle.determinize_lazy.proofs.lazy.LazyDfa.follow_once.Goals as goal

pub follow-requires-2-clause-position : goal.follow-requires-2-clause-position
follow-requires-2-clause-position g c = (c.pass-passed.ensures c.args.earliest).position

pub follow-requires-2-clause-read : goal.follow-requires-2-clause-read
follow-requires-2-clause-read g c = (c.pass-passed.ensures c.args.earliest).within

pub returns : goal.returns
returns g c = goes_twice (c.pass-passed.ensures c.args.earliest) c.follow-2.ensures
