use Rattle.determinize_dense.proofs.Common.{FindsFrom, HalfMatch, IsFound, Option}
use Rattle.determinize_dense.proofs.Searching.{come-start, finds-on, finds-over, found-text}
use Rattle.determinize_dense.proofs.dfa.Dfa.search_text.Goals.{After-read_block-first}
use Rattle.determinize_dense.proofs.dfa.Dfa.search_text.Goals as goal

-- what is found from behind the first bytes
found : (g : _) (c : After-read_block-first g) {found : Option HalfMatch}
    → FindsFrom c.args.self.now c.args.is_earliest c.args.text.now c.read_block-first.result found
    → IsFound c.args.self.now c.args.is_earliest c.args.is_anchored c.args.text.now found
found g c f = found-text c.start_row.ensures.sound (rw c.behind.ensures at c.start_row.ensures.value)
    (rw c.behind.ensures at c.start_row.ensures.limit) (rw c.behind.ensures at c.start_row.ensures.unit)
    c.len.ensures.units (finds-on c.read_block-first.ensures.reads.come f)

pub returns-then-is_over : goal.returns-then-is_over
returns-then-is_over g c =
    let d = (goal.at.returns-then-is_over g c).After-read_block-first in
    let come = c.read_block-first.ensures.reads.come in
    found g d (finds-over (come-start come.at come.listing) c.match_of.ensures c.start_row.ensures.sound
    c.len.ensures.units (c.is_over.ensures c.if-is_over.true))

pub returns-then-first-len : goal.returns-then-first-len
returns-then-first-len g c = found g (goal.at.returns-then-first-len g c).After-read_block-first c.search_on.ensures

pub returns : goal.returns
returns g c =
    found g (goal.at.returns g c).After-read_block-first (c.last_of.ensures c.args.is_earliest)
