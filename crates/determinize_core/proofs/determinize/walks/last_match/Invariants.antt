use Rattle.determinize_core.proofs.Common.{drop, last_ended, option_or, ◌≡◌}
use Rattle.determinize_core.proofs.determinize.walks.last_match.Given as goal

abbrev pub invariant-loop-offset : goal.invariant-loop-offset
invariant-loop-offset g l = option_or (last_ended l.offset (drop l.offset l.others)) l.last ≡ last_ended 0 l.others
