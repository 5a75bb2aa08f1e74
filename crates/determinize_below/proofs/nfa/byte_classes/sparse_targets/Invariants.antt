use Rattle.determinize_below.proofs.Common.{◌<◌, ℕ, ◌≡◌, get_or, None, sparse_target, take}
use Rattle.determinize_below.proofs.nfa.byte_classes.sparse_targets.Given as goal

abbrev pub invariant-loop-trans : goal.invariant-loop-trans
invariant-loop-trans l = (b : ℕ) → b < 256
    → get_or l.targets b None ≡ sparse_target (take l.trans-index l.transitions) b
