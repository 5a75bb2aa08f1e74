use Rattle.determinize_lazy.proofs.{arith, empty_is_lazy}
use Rattle.determinize_lazy.proofs.lazy.LazyDfa.with_spans.Goals as goal

pub invariant_of-result : goal.invariant_of-result
invariant_of-result g c =
    empty_is_lazy _ c.args.match_kind _ 0 c.args.spans _ c.requires.accepted (omega arith) c.requires.classes
    c.new-2.ensures
