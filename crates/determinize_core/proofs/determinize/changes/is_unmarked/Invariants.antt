use Rattle.determinize_core.proofs.Common.{false, ℕ, ◌+◌, ◌<◌, ◌≡◌, ◌≤◌}
use Rattle.determinize_below.specs.ByteClasses.{is_marked}
use Rattle.determinize_core.proofs.determinize.changes.is_unmarked.Given as goal

abbrev pub invariant-loop-byte : goal.invariant-loop-byte
invariant-loop-byte l = (b : ℕ) → l.first ≤ b → b < l.byte → is_marked l.marks (b + 1) ≡ false
