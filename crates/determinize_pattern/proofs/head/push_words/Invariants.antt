use Rattle.std.proofs.Common.{drop, map}
use Rattle.determinize_pattern.specs.Meaning.{Then}
use Rattle.determinize_pattern.specs.Patterns.{literal, meaning, sequence}
use Rattle.determinize_pattern.specs.Private.Words.{SameEnds}
use Rattle.determinize_pattern.proofs.head.push_words.Given as goal

abbrev pub invariant-loop-i : goal.invariant-loop-i
invariant-loop-i g l = SameEnds (Then (literal l.fn.bytes.items) (sequence (map meaning l.subs)))
    (Then (literal l.bytes.items) (sequence (map meaning (drop l.i l.subs))))
