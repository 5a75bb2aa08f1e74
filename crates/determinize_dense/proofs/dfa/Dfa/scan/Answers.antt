use Rattle.determinize_dense.proofs.Staying.{none-stays}
use Rattle.determinize_dense.specs.Private.Rows.{IsRowAt}
use Rattle.determinize_dense.proofs.dfa.Dfa.scan.Goals as goal

pub returns : goal.returns
returns g c =
    let d = c.args.self.now.table in
    let row = c.args.row in
    let r = c.requires.row.0 in
    let text = c.args.text.now in
    let set = c.in-Some.set.now in
    let at : IsRowAt d row r = (c.requires.row.1, c.requires.row.2) in
    let staying = c.in-Some.ensures r at in
    let passed = c.scan.ensures.passed in
    record {
      more = passed.more;
      within = passed.within;
      stays = none-stays d row r set text c.args.read c.scan.result c.scan.ensures.units at staying passed.within
          passed.none;
    }
