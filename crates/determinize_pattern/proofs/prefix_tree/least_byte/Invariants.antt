use Rattle.std.proofs.Common.{◌+◌, ◌≤◌, take}
use Rattle.std.specs.Prelude.{IfSome}
use Rattle.determinize_pattern.specs.Private.Words.{IsLeastByte, words_from}
use Rattle.std.below.core.specs.declared.int.usize.TheConstants.{MAX}
use Rattle.determinize_pattern.proofs.prefix_tree.least_byte.Given as goal

abbrev pub invariant-loop-word : goal.invariant-loop-word
invariant-loop-word g l = IsLeastByte (words_from l.place (take l.word-index l.words)) l.from l.least
    × IfSome l.least (λ x. l.place + 1 ≤ MAX)
