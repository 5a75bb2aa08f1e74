use Rattle.determinize_find.proofs.Common.{arith, IsCertain, IsSearching, length, rules, sym, ◌+◌, ◌∙◌, ◌≤◌}
use Rattle.determinize_find.proofs.leftmost.TwoSearches.{all_bytes}
use Rattle.determinize_find.proofs.streams.Begun.{certain_is}
use Rattle.determinize_find.proofs.pieces.Pieces.certain_now.Given.{Over}
use Rattle.determinize_find.proofs.pieces.Pieces.certain_now.Goals.{In_ok-begin}
use Rattle.determinize_find.proofs.pieces.Pieces.certain_now.Goals as goal

-- the match of which the scan gives the end, and which begins there
certain : (g : Over) (c : In_ok-begin g) → IsSearching c.args.regex.now.nfa c.args.self.now
    → IsCertain c.args.regex.now.nfa c.args.self.now.kept c.args.self.now.start record {
      pattern = c.in-Some-certain_match.half.pattern;
      start = c.in_ok-begin.begin;
      end = c.self.inside.start + c.in-Some-certain_match.half.offset;
    }
certain g c searching =
    let small = rw c.as_slice-kept.ensures.value at (all_bytes c.as_slice-kept.result.now (search rules)) in
    let scan = rw (← c.self.view_is, c.in-Some.is) at searching in
    let half = rw (c.nfa.ensures.value, c.forward.ensures.nfa)
    at (sym c.certain_match.ensures.value ∙ c.in-Some-certain_match.is) in
    let read = rw c.in-Some.is at c.self.invariant.read in
    let start = rw c.as_slice-kept.ensures.value at c.in_ok-begin.ensures.start in
    let high : c.self.inside.start + c.in-Some-certain_match.half.offset ≤ length c.self.inside.kept.items
    = omega (arith, c.in-Some-certain_match.ensures.within, c.self.invariant.within, read) in
    rw (← c.self.view_is) (certain_is c.self.invariant.within small scan half c.in_ok-begin.begin
    (omega (arith, c.in_ok-begin.ensures.inside)) high start)

pub returns-then-begin-kept-clause-unsettled : goal.returns-then-begin-kept-clause-unsettled
returns-then-begin-kept-clause-unsettled g c searching =
    let at = (goal.at.returns-then-begin-kept-clause-unsettled g c).In_ok-begin in
    let past : length c.args.self.now.kept ≤ c.in_ok-begin.begin = search rules in
    absurd (omega (arith, (certain g at searching).inside.some))

pub returns-clause-certain : goal.returns-clause-certain
returns-clause-certain g c searching = certain g (goal.at.returns-clause-certain g c).In_ok-begin searching
