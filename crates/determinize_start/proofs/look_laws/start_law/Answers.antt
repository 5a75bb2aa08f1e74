use Rattle.determinize_start.proofs.Common.{tables}
use Rattle.determinize_start.proofs.kinds.StartKinds.{has-have_at_start, have_at_start-known, from_word-same, half_crlf-same}
use Rattle.determinize_start.proofs.look_laws.start_law.Goals as goal

pub returns : goal.returns
returns c =
    let t = tables c.args.reverse c.args.terminator c.args.any in
    record {
      known = have_at_start-known t c.args.before c.args.look;
      all = has-have_at_start t c.args.before c.args.look;
      from_word = from_word-same t c.args.before;
      half_crlf = half_crlf-same t c.args.before;
    }
