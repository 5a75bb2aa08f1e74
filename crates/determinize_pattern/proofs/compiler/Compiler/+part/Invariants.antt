use Rattle.std.proofs.Common.{◌≡◌, ◌<◌, ◌≤◌, ℕ, cond, drop, length, map, nat_lt, take}
use Rattle.determinize_pattern.specs.Private.Compiling.{IsCompiled, Precedes}
use Rattle.determinize_pattern.specs.Patterns.{choice, sequence, copies, meaning, up_to}
use Rattle.determinize_pattern.proofs.compiled.FirstClasses.{AreRead}
use Rattle.determinize_pattern.proofs.compiled.Heads.{AreHeads}
use Rattle.determinize_pattern.specs.Private.FirstClasses.{AreFirst}
use Rattle.determinize_pattern.specs.Private.Compiling.{Paid}
use Rattle.determinize_pattern.proofs.compiler.Compiler.+part.Given as goal

abbrev pub invariant-choices-loop-i : goal.invariant-choices-loop-i
invariant-choices-loop-i g l =
    IsCompiled l.first l.fn.self.builder l.self.builder (choice (map meaning (drop l.i l.subs))) l.targets l.ids
    × (length l.branch ≡ length l.targets)
    × Paid l.fn.self.builder l.fn.self.left l.self.builder l.self.left

abbrev pub invariant-concat-loop-i : goal.invariant-concat-loop-i
invariant-concat-loop-i g l =
    IsCompiled (cond (nat_lt l.from l.i) 0 l.first) l.fn.self.builder l.self.builder
    (sequence (map meaning (drop l.i l.subs))) l.fn.ids l.ids
    × Paid l.fn.self.builder l.fn.self.left l.self.builder l.self.left
    × (l.from ≤ l.i)

abbrev pub invariant-copies-loop-done : goal.invariant-copies-loop-done
invariant-copies-loop-done g l =
    Precedes (cond (nat_lt 0 l.count) 0 l.first) (cond (nat_lt l.done l.count) 0 l.first) l.fn.self.builder
    l.self.builder (copies l.done (meaning l.sub)) l.fn.ids l.ids × (0 < length l.ids)
    × Paid l.fn.self.builder l.fn.self.left l.self.builder l.self.left

abbrev pub invariant-up_to-loop-done : goal.invariant-up_to-loop-done
invariant-up_to-loop-done g l =
    IsCompiled (cond (nat_lt l.done l.count) 0 l.first) l.fn.self.builder l.self.builder
    (up_to l.greedy l.done (meaning l.sub)) l.fn.ids l.ids
    × Paid l.fn.self.builder l.fn.self.left l.self.builder l.self.left

abbrev pub invariant-branches-loop-i : goal.invariant-branches-loop-i
invariant-branches-loop-i g l =
    AreHeads l.fn.self.builder l.self.builder (map meaning (take l.i l.subs)) l.fn.next l.words.items
    × Paid l.fn.self.builder l.fn.self.left l.self.builder l.self.left

abbrev pub invariant-by_class-loop-i : goal.invariant-by_class-loop-i
invariant-by_class-loop-i g l =
    ((low : ℕ) × AreRead l.fn.self.builder l.self.builder (map meaning (take l.i l.subs)) l.next low l.transitions.items
    × AreFirst low (drop l.i l.subs) (drop l.i l.classes))
    × Paid l.fn.self.builder l.fn.self.left l.self.builder l.self.left
