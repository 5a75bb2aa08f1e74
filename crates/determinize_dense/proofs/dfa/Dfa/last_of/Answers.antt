use Rattle.determinize_dense.proofs.Common.{all_read, arith, IsRead, refl, unit-last, ◌≡◌}
use Rattle.determinize_dense.proofs.Searching.{come-listing, come-silent, come-start, finds-all, next-offset}
use Rattle.determinize_dense.proofs.dfa.Dfa.last_of.Goals.{After-row_over-end}
use Rattle.determinize_dense.proofs.dfa.Dfa.last_of.Goals as goal

ahead : (g : _) (c : After-row_over-end g)
    → IsRead c.args.self.now.table c.args.text.now c.args.at.read c.args.at.row c.row_over-end.result
ahead g c = rw c.requires.read record {
  unit = c.ahead.result;
  at = rw c.ahead.ensures (unit-last c.args.text.now _ refl);
  is_unit = c.row_over-end.ensures.unit;
  goes = c.row_over-end.ensures.value;
}

pub is_listing-requires : goal.is_listing-requires
is_listing-requires g c =
    next-offset c.requires.row (ahead g (goal.at.is_listing-requires g c).After-row_over-end)

pub returns-then-is_listing : goal.returns-then-is_listing
returns-then-is_listing g c = λ earliest.
    let read = ahead g (goal.at.returns-then-is_listing g c).After-row_over-end in
    let end : c.args.at.read ≡ c.len.result = omega (arith, c.requires.read, c.len.ensures.value) in
    finds-all (come-listing (come-start c.requires.row c.requires.matched) read c.is_listing.ensures
    c.if-is_listing.true) (rw end c.match_of.ensures) (all_read c.args.text.now (omega (arith, c.requires.read)) refl)

pub returns : goal.returns
returns g c = λ earliest.
    let read = ahead g (goal.at.returns g c).After-row_over-end in
    finds-all (come-silent (come-start c.requires.row c.requires.matched) read c.is_listing.ensures
    c.if-is_listing.false) c.match_of-2.ensures (all_read c.args.text.now (omega (arith, c.requires.read)) refl)
