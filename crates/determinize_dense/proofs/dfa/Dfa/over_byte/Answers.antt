use Rattle.determinize_dense.proofs.Common.{IsRead, Some, unit-here}
use Rattle.determinize_dense.proofs.Searching.{next-offset}
use Rattle.determinize_dense.proofs.dfa.Dfa.over_byte.Goals as goal

pub returns : goal.returns
returns g c =
    let read : IsRead c.args.self.now.table c.args.text.now c.args.index c.args.row c.row_over.result = record {
      unit = Some c.byte.result;
      at = unit-here c.args.text.now c.args.index c.byte.result c.byte.ensures;
      is_unit = c.row_over.ensures.unit;
      goes = c.row_over.ensures.value;
    } in
    record { read = read; offset = next-offset c.requires.row read }
