use Rattle.determinize_find.proofs.Common.{append-nil, append_assoc, arith, end_before, from, map-append, moved, None}
use Rattle.determinize_find.proofs.Common.{refl, rules, sym, take_all, take_at, whole, [], ◌++◌, ◌∙◌, ◌∷◌, ◌≡◌}
use Rattle.determinize_find.proofs.matches.NextMatch.{after_all, after_one, IsOneMore}
use Rattle.determinize_find.proofs.streams.Steps.{end_is, finished}
use Rattle.determinize_find.proofs.pieces.Pieces.add_rest.Given.{Over}
use Rattle.determinize_find.proofs.pieces.Pieces.add_rest.Goals.{In-Some}
use Rattle.determinize_find.proofs.pieces.Pieces.add_rest.Goals as goal

-- the cursor is behind one more match
after_next : (g : Over) (c : In-Some g) → IsOneMore c.args.regex.now.nfa
    (from (whole c.args.self.now.kept) c.args.self.now.start) (end_before c.args.self.now) c.loop-next.searcher
    c.advance.new.self c.loop-next.invariant.found.0 c.in-Some.next
after_next g c = after_one _ _ c.loop-next.searcher c.advance.new.self c.loop-next.invariant.found.0 c.in-Some.next
    (omega arith) c.loop-next.invariant.found.2
    (rw (c.loop-next.invariant.same, c.in-Some.is) at c.in_ok-next.ensures.next)
    (rw c.in-Some.is at c.in_ok-next.ensures.after)

pub in_text-requires : goal.in_text-requires
in_text-requires g c =
    let lie = (after_next g (goal.at.in_text-requires g c).In-Some).2 in record { order = lie.order; end = lie.high }

pub loop-next-init : goal.loop-next-init
loop-next-init g c =
    let asked : c.range-rest.result ≡ from (whole c.args.self.now.kept) c.args.self.now.start = search rules in
    let cursor = rw (asked, c.last_match_end.ensures) at c.after-searcher.ensures in
    record {
      same = refl;
      begins = take_all _ c.args.found.now.items (omega arith);
      found = (
        [],
        sym (append-nil c.args.found.now.items),
        rw cursor record { rest = refl; last = end_is c.args.self.now; first = λ rest h. h },
      );
    }

pub loop-next-smaller : goal.loop-next-smaller
loop-next-smaller g c = (after_next g (goal.at.loop-next-smaller g c).In-Some).1

pub loop-next-preserved : goal.loop-next-preserved
loop-next-preserved g c =
    let (ms, found, _) = c.loop-next.invariant.found in
    let items : c.push.new.self.items ≡ c.loop-next.found.items ++ moved c.args.self.now.dropped c.in-Some.next ∷ []
    = search rules in
    record {
      same = c.in_ok-next.ensures.same ∙ c.loop-next.invariant.same;
      begins = rw (items, found, append_assoc) (take_at c.args.found.now.items _ _ refl);
      found = (
        ms ++ c.in-Some.next ∷ [],
        rw (items, found, append_assoc, map-append) refl,
        (after_next g (goal.at.loop-next-preserved g c).In-Some).0,
      );
    }

pub returns-clause-finished : goal.returns-clause-finished
returns-clause-finished g c =
    let is : c.in_ok-next.field-0 ≡ None = search rules in
    let (ms, found, after) = c.loop-next.invariant.found in
    finished c.args.regex.now.nfa c.args.self.now c.args.found.now.items c.loop-next.found.items ms
    (rw (← c.self.view_is) c.self.invariant)
    (after_all _ _ c.loop-next.searcher ms after
    (rw (c.loop-next.invariant.same, is) at c.in_ok-next.ensures.next)) found
