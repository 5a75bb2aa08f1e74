use Rattle.determinize_nfa.proofs.Common.{gathered, map, node_of, ◌++◌, ◌≡◌}
use Rattle.determinize_nfa.proofs.reversal.gather_all.Given as goal

abbrev pub invariant-loop-alternates : goal.invariant-loop-alternates
invariant-loop-alternates g l =
    map node_of l.made.items ++ map gathered (map (λ v. v.items) l.alternates-iterator.rest.items)
    ≡ map node_of l.fn.made.items ++ map gathered (map (λ v. v.items) l.fn.lists.items)
