use Rattle.std.proofs.Common.{refl}
use Rattle.byte_set.specs.Tables.{set_of}
use Rattle.byte_set.proofs.ByteSet.all.Goals as goal

pub returns : goal.returns
unfolding set_of
returns c = refl
