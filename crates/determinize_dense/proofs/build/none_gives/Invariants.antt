use Rattle.determinize_dense.proofs.Common.{byte_of, gives_nothing, take, without, [], ◌≡◌}
use Rattle.determinize_dense.proofs.build.none_gives.Given as goal

abbrev pub invariant-loop-id : goal.invariant-loop-id
invariant-loop-id g l = without (gives_nothing l.nfa (byte_of l.unit)) (take l.id-index l.ids) ≡ []
