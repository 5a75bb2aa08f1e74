use Rattle.determinize_core.proofs.Common.{arith, false, get_or-replicate, replicate}
use Rattle.determinize_lines.proofs.Buffers.{one_member}
use Rattle.determinize_lines.proofs.blocks.set_of.Goals as goal

pub returns : goal.returns
returns c b l = rw (c.new.ensures, c.from.ensures) (one_member (replicate 256 false) c.args.byte b
    (omega (arith, c.ranges.byte.fits)) (get_or-replicate 256 b false false l))
