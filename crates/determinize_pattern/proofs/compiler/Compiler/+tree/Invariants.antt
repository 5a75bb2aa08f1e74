use Rattle.std.proofs.Common.{◌*◌, ◌+◌, ◌-◌, ◌≤◌, length, take}
use Rattle.determinize_pattern.proofs.compiled.Trees.{AreArms, AreTrees}
use Rattle.determinize_pattern.specs.Private.Compiling.{Paid}
use Rattle.determinize_pattern.specs.Private.Words.{words_from}
use Rattle.determinize_pattern.proofs.compiler.Compiler.+tree.Given as goal

abbrev pub decreases-tree : goal.decreases-tree
decreases-tree g l = 3 * l.levels

abbrev pub decreases-by_byte : goal.decreases-by_byte
decreases-by_byte g l = 3 * l.levels + 1

abbrev pub decreases-group : goal.decreases-group
decreases-group g l = 3 * l.levels + 2

abbrev pub invariant-tree-loop-from : goal.invariant-tree-loop-from
invariant-tree-loop-from g l =
    AreTrees l.fn.self.builder l.self.builder (words_from l.place (take l.from l.words)) l.starts.items
    × (l.from ≤ length l.words)
    × Paid l.fn.self.builder l.fn.self.left l.self.builder l.self.left

abbrev pub decreases-tree-loop-from : goal.decreases-tree-loop-from
decreases-tree-loop-from g l = length l.words - l.from

abbrev pub invariant-by_byte-loop-byte : goal.invariant-by_byte-loop-byte
invariant-by_byte-loop-byte g l =
    AreArms l.fn.self.builder l.self.builder (words_from l.place l.words) l.from l.transitions.items
    × (l.from ≤ 256)
    × Paid l.fn.self.builder l.fn.self.left l.self.builder l.self.left

abbrev pub decreases-by_byte-loop-byte : goal.decreases-by_byte-loop-byte
decreases-by_byte-loop-byte g l = 256 - l.from
