use Rattle.determinize_dense.proofs.Common.{HasCome}
use Rattle.determinize_dense.proofs.Searching.{come-listing, come-silent, come-start}
use Rattle.determinize_dense.proofs.dfa.Dfa.enter.Goals.{else-is_listing, then-is_listing}
use Rattle.determinize_dense.proofs.dfa.Dfa.enter.Goals as goal

pub returns-clause-come : goal.returns-clause-come
returns-clause-come g c text read =
    let begun : HasCome c.args.self.now text c.args.from c.args.from =
    come-start c.requires.from c.requires.matched in
    elim c.if-is_listing.branch [
      | then-is_listing w ↦ rw w.at-is (come-listing begun read c.is_listing.ensures w.if-is_listing.true)
      | else-is_listing w ↦ rw w.at-is (come-silent begun read c.is_listing.ensures w.if-is_listing.false)
    ]
