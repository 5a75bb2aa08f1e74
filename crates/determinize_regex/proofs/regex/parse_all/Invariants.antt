use Rattle.determinize_regex.proofs.Common.{AreSpelled, map, meaning, take}
use Rattle.determinize_regex.proofs.regex.parse_all.Given as goal

abbrev pub invariant-loop-i : goal.invariant-loop-i
invariant-loop-i l =
    AreSpelled l.flags (map meaning l.patterns.items) (map (λ t. t.now) (take l.i l.texts))
