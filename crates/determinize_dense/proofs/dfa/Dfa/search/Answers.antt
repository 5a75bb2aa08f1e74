use Rattle.determinize_dense.proofs.Common.{between}
use Rattle.determinize_dense.proofs.Searching.{found-search}
use Rattle.determinize_dense.proofs.dfa.Dfa.search.Goals as goal

pub returns : goal.returns
returns g c = record {
  search = found-search c.args.anchored (between c.args.look_behind c.args.text.now c.args.look_ahead)
      (rw (c.new-text.ensures, c.is_anchored.ensures) at c.search_text.ensures);
}
