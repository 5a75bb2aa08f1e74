use Rattle.std.proofs.Common.{◌≡◌, ◌+◌, ◌≤◌, ◌++◌, length}
use Rattle.std.specs.Vec.{vec_capacity, vec_len}
use Rattle.determinize_state.specs.Varint.{varint}
use Rattle.determinize_state.proofs.state.varint.write_groups.Given as goal

abbrev pub invariant-loop-rest : goal.invariant-loop-rest
invariant-loop-rest g l = record {
  same : l.bytes.items ++ varint l.rest ≡ l.fn.bytes.items ++ varint l.number;
  room : vec_len l.bytes + length (varint l.rest) ≤ vec_capacity l.bytes;
}

abbrev pub decreases-loop-rest : goal.decreases-loop-rest
decreases-loop-rest g l = l.rest
