use Rattle.determinize_table.proofs.Common.{arith, ◌≡◌}
use Rattle.determinize_table.proofs.Loops.{byte-small}
use Rattle.determinize_table.specs.Looping.{IsLoop}
use Rattle.determinize_table.specs.Rows.{table_of}
use Rattle.determinize_table.proofs.table.TransitionTable.scan.Goals as goal

pub returns : goal.returns
returns g c =
    let id : c.in-Some.looping.id ≡ c.args.id = omega (arith, c.if-row.false, c.row.ensures, c.row-2.ensures) in
    let loop : IsLoop (table_of c.args.self.now) c.in-Some.looping =
    rw (← c.self.view_is) (rw c.in-Some.is at c.self.invariant.looping) in
    let passed = c.scan.ensures.passed in record {
      more = passed.more;
      within = passed.within;
      over = λ k low high. rw (← id) (loop.staying _ (byte-small c.args.text.now c.scan.ensures.units k
          (omega (arith, high, passed.within))) (passed.none k low high));
      plain = λ some. rw (← id) loop.plain;
    }
