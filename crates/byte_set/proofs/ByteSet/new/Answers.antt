use Rattle.std.proofs.Common.{arith}
use Rattle.byte_set.proofs.Members.{set-is}
use Rattle.byte_set.proofs.ByteSet.new.Goals as goal

pub invariant_of-result : goal.invariant_of-result
invariant_of-result c =
    let is = set-is c.table.result c.table-2.result c.args.members.now
    (omega arith) c.table.ensures c.table-2.ensures in
    rw is c.only_member.ensures

pub returns : goal.returns
returns c = set-is c.table.result c.table-2.result c.args.members.now (omega arith) c.table.ensures c.table-2.ensures
