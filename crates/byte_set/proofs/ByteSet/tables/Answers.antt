use Rattle.std.proofs.Common.{sym, ap, ◌∙◌}
use Rattle.byte_set.specs.Sets.{is_member}
use Rattle.byte_set.proofs.Members.{member-of}
use Rattle.byte_set.proofs.ByteSet.tables.Goals as goal

pub returns : goal.returns
returns c b few = sym (member-of c.self.inside.low c.self.inside.high b few) ∙ ap (λ s. is_member s b) c.self.view_is
