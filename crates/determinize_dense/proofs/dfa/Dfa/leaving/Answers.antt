use Rattle.determinize_dense.proofs.Common.{arith}
use Rattle.determinize_dense.proofs.Staying.{staying-at}
use Rattle.determinize_dense.specs.Private.Scans.{AreAllStaying}
use Rattle.determinize_dense.proofs.dfa.Dfa.leaving.Goals as goal

pub returns : goal.returns
returns g c =
    let all : AreAllStaying c.args.self.now.table c.self.inside.first_scanned c.self.inside.leaving =
    rw (← c.self.view_is) c.self.invariant.staying in
    staying-at c.args.self.now.table c.self.inside.first_scanned c.args.row c.row_number-number.result
    c.self.inside.leaving c.index-self-number.result all c.row_number-number.ensures.row
    (omega (arith, c.if-number-self.false)) (omega (arith, c.if-number-self-ge-SETS.false))
