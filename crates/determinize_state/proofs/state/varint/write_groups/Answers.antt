use Rattle.determinize_state.proofs.Common.{arith}
use Rattle.determinize_state.proofs.encoding.EncodedLength.{varint_short}
use Rattle.determinize_state.proofs.state.varint.write_groups.Goals as goal

pub loop-rest-init : goal.loop-rest-init
loop-rest-init g c = grind (arith, varint_short)
