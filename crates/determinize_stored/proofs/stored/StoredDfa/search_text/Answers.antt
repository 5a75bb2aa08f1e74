use Rattle.determinize_core.proofs.Common.{arith, length, refl, subst, sym, units, ◌+◌, ◌<◌, ◌≤◌}
use Rattle.std.specs.Option.{IfSome}
use Rattle.std.proofs.lemmas.List.Elements.{All-drop}
use Rattle.determinize_below.specs.Truth.{IsUnit}
use Rattle.determinize_engine.proofs.Texts.{all_read}
use Rattle.determinize_stored.proofs.Paths.{goes_on, last_dead, last_done, stepped-none, stepped-some}
use Rattle.determinize_stored.specs.Reading.{last_along}
use Rattle.determinize_stored.proofs.stored.StoredDfa.search_text.Goals.{in-None+else-is_dead_state, in-Some}
use Rattle.determinize_stored.proofs.stored.StoredDfa.search_text.Goals as goal

pub loop-index-preserved : goal.loop-index-preserved
loop-index-preserved c =
    let test = c.loop-index-test.true in
    let len = c.len-index-end.ensures.value in
    elim c.match-match_pattern.branch [
      | in-Some w ↦ record {
        last = goes_on c.args.self.now.table (units c.args.text.now) c.loop-index.row c.loop-index.index c.unit.result
            c.loop-index.found (last_along c.args.self.now c.args.is_anchored c.args.text.now) c.next_row-row.result
            c.match_pattern.result c.match-match_pattern.found c.unit.ensures c.next_row-row.ensures
            c.match_pattern.ensures (stepped-some c.loop-index.index w.in-Some.pattern c.match_pattern.result
            c.loop-index.found c.match-match_pattern.found w.in-Some.is w.found-is) c.loop-index.invariant.last;
        within = subst (λ f. IfSome f (λ m. m.offset ≤ length c.args.text.now.bytes)) (sym w.found-is)
            (omega (arith, test, len));
      }
      | in-None+else-is_dead_state w ↦ record {
        last = goes_on c.args.self.now.table (units c.args.text.now) c.loop-index.row c.loop-index.index c.unit.result
            c.loop-index.found (last_along c.args.self.now c.args.is_anchored c.args.text.now) c.next_row-row.result
            c.match_pattern.result c.match-match_pattern.found c.unit.ensures c.next_row-row.ensures
            c.match_pattern.ensures (stepped-none c.loop-index.index c.match_pattern.result c.loop-index.found
            c.match-match_pattern.found w.in-None.is w.found-is) c.loop-index.invariant.last;
        within = subst (λ f. IfSome f (λ m. m.offset ≤ length c.args.text.now.bytes)) (sym w.found-is)
            c.loop-index.invariant.within;
      }
    ]

pub returns-then-is_dead_state-clause-last : goal.returns-then-is_dead_state-clause-last
returns-then-is_dead_state-clause-last c =
    last_dead c.args.self.now.table (units c.args.text.now) c.next_row-row.result (c.loop-index.index + 1)
    c.loop-index.found (last_along c.args.self.now c.args.is_anchored c.args.text.now)
    (c.is_dead_state.ensures.dead c.if-is_dead_state.true)
    (All-drop IsUnit (c.loop-index.index + 1) (units c.args.text.now) c.len-index-end.ensures.units)
    (goes_on c.args.self.now.table (units c.args.text.now) c.loop-index.row c.loop-index.index c.unit.result
    c.loop-index.found (last_along c.args.self.now c.args.is_anchored c.args.text.now) c.next_row-row.result
    c.match_pattern.result c.loop-index.found c.unit.ensures c.next_row-row.ensures c.match_pattern.ensures
    (stepped-none c.loop-index.index c.match_pattern.result c.loop-index.found c.loop-index.found c.in-None.is refl)
    c.loop-index.invariant.last)

pub returns-clause-last : goal.returns-clause-last
returns-clause-last c =
    let test = c.loop-index-test.false in
    last_done c.args.self.now.table (units c.args.text.now) c.loop-index.row c.loop-index.index c.loop-index.found
    (last_along c.args.self.now c.args.is_anchored c.args.text.now)
    (all_read c.args.text.now (let past : c.len-index-end.result < c.loop-index.index = omega (arith, test) in past)
    c.len-index-end.ensures.value) c.loop-index.invariant.last
