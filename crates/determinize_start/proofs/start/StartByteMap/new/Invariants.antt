use Rattle.determinize_start.proofs.Common.{start_kind, Text, ℕ, ◌≡◌, ◌<◌, get_or, length}
use Rattle.determinize_start.proofs.start.StartByteMap.new.Given as goal

abbrev pub invariant-loop-byte : goal.invariant-loop-byte
invariant-loop-byte l =
    (length l.kinds ≡ 256) × ((k : ℕ) → k < l.byte → get_or l.kinds k Text ≡ start_kind l.terminator k)
