use Rattle.determinize_state.proofs.Common.{◌≡◌, ◌*◌, ◌≤◌, ◌<◌, length, read}
use Rattle.determinize_state.proofs.state.varint.read_groups.Given as goal

abbrev pub invariant-loop-byte : goal.invariant-loop-byte
invariant-loop-byte l = record {
  same : read 0 1 l.bytes ≡ read l.low l.weight l.rest;
  low : l.low < l.weight;
  weight : l.weight ≤ 268435456 * 128;
}

abbrev pub decreases-loop-byte : goal.decreases-loop-byte
decreases-loop-byte l = length l.rest
