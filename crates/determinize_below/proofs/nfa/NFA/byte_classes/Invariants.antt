use Rattle.determinize_below.specs.Private.Sorting.{AreSorted}
use Rattle.determinize_below.proofs.nfa.NFA.byte_classes.Given as goal

abbrev pub invariant-loop-byte : goal.invariant-loop-byte
invariant-loop-byte g l = AreSorted l.self l.byte l.len l.classes l.firsts
