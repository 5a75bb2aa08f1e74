use Rattle.std.proofs.Common.{◌≡◌}
use Rattle.determinize_replay.proofs.records.add_patterns.Given as goal

abbrev pub invariant-loop-word : goal.invariant-loop-word
invariant-loop-word g l = l.builder.patterns ≡ l.patterns.items
