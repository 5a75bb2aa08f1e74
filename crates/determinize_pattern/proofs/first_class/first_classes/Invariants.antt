use Rattle.std.proofs.Common.{◌++◌, ℕ, List, drop}
use Rattle.std.specs.Borrow.{Bor}
use Rattle.determinize_pattern.specs.Private.FirstClasses.{AreFirst}
use Rattle.determinize_pattern.proofs.first_class.first_classes.Given as goal

abbrev pub invariant-loop-i : goal.invariant-loop-i
invariant-loop-i g l = (later : List (Bor (List (ℕ × ℕ)))) → AreFirst l.low (drop l.i l.subs) later
    → AreFirst 0 l.subs (l.classes.items ++ later)
