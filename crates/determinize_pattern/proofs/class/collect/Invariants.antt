use Rattle.determinize_pattern.specs.Classes.{is_chosen, pairs}
use Rattle.determinize_pattern.specs.Private.Scanning.{IsScanned}
use Rattle.determinize_pattern.proofs.class.collect.Given as goal

abbrev pub invariant-loop-byte : goal.invariant-loop-byte
invariant-loop-byte l =
    IsScanned (is_chosen (pairs l.ranges) l.negated) (pairs l.found.items) l.start l.byte
