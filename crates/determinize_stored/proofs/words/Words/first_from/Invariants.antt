use Rattle.determinize_core.proofs.Common.{take, ◌<◌}
use Rattle.std.specs.Prelude.{All}
use Rattle.determinize_stored.proofs.words.Words.first_from.Given as goal

abbrev pub invariant-loop-index : goal.invariant-loop-index
invariant-loop-index l = record { below : All (λ w. w < l.limit) (take l.index l.fn.self) }
