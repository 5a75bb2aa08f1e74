use Rattle.determinize_dense.proofs.Common.{HasCome}
use Rattle.determinize_dense.proofs.Searching.{come-on, come-start, come-stays, finds-on, finds-over, ordered}
use Rattle.determinize_dense.proofs.dfa.Dfa.search_rest.Goals.{After-enter-at}
use Rattle.determinize_dense.proofs.dfa.Dfa.search_rest.Goals as goal

pub loop-at-init : goal.loop-at-init
loop-at-init g c = record { come = come-start c.requires.row c.requires.matched; within = c.requires.read }

-- how far the search has come where it enters a row at most `stop`
come : (g : _) (c : After-enter-at g)
    → HasCome c.args.self.now c.args.text.now c.args.from c.enter-at.result
come g c =
    let next = rw c.in-Some.is at c.read_above-next.ensures.next in
    come-on c.loop-at.invariant.come
    (come-on c.read_above-next.ensures.reads.come (c.enter-at.ensures.come c.args.text.now next))

pub scan-requires-clause-row : goal.scan-requires-clause-row
scan-requires-clause-row g c = (come g (goal.at.scan-requires-clause-row g c).After-enter-at).at

pub match_of-requires : goal.match_of-requires
match_of-requires g c = (come g (goal.at.match_of-requires g c).After-enter-at).listing

pub read_blocks-at-requires-clause-row : goal.read_blocks-at-requires-clause-row
read_blocks-at-requires-clause-row g c =
    (come g (goal.at.read_blocks-at-requires-clause-row g c).After-enter-at).at

pub read_blocks-at-requires-clause-matched : goal.read_blocks-at-requires-clause-matched
read_blocks-at-requires-clause-matched g c =
    (come g (goal.at.read_blocks-at-requires-clause-matched g c).After-enter-at).listing

pub loop-at-preserved-then-at-self : goal.loop-at-preserved-then-at-self
loop-at-preserved-then-at-self g c = record {
  come = come-stays c.enter-at.result (ordered c.self.view_is c.self.invariant.ordered).none c.if-at-self.true
      (come g (goal.at.loop-at-preserved-then-at-self g c).After-enter-at) c.scan.ensures.more c.scan.ensures.stays;
  within = c.scan.ensures.within;
}

pub returns-then-is_over : goal.returns-then-is_over
returns-then-is_over g c = finds-over (come g (goal.at.returns-then-is_over g c).After-enter-at)
    c.match_of.ensures (rw c.self.view_is at c.self.invariant.stored.dfa) c.len.ensures.units
    (c.is_over.ensures c.if-is_over.true)

pub loop-at-preserved : goal.loop-at-preserved
loop-at-preserved g c = record {
  come = come-on (come g (goal.at.loop-at-preserved g c).After-enter-at) c.read_blocks-at.ensures.come;
  within = c.read_blocks-at.ensures.within;
}

pub returns : goal.returns
returns g c = finds-on c.loop-at.invariant.come (c.last_of.ensures c.args.is_earliest)
