use Rattle.determinize_below.proofs.Common.{◌∙◌}
use Rattle.determinize_below.proofs.nfas.SortedRanges.{none_outside}
use Rattle.determinize_below.proofs.nfa.byte_classes.Partition.split_ranges.Goals as goal

pub split_targets-requires : goal.split_targets-requires
split_targets-requires c = λ b h out. c.sparse_targets.ensures b h
    ∙ none_outside c.args.transitions.now _ _ b c.requires c.index-transitions-0.is c.in-Some.ensures.value
    (rw (← c.index-transitions-0.is) at out)
