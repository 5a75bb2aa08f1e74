use Rattle.determinize_dense.proofs.Common.{All-from_get_or, ap, between, false, is_anchored, map, map_push}
use Rattle.determinize_dense.proofs.Common.{patterns_at, row_after, rules, Some, start_row, sym, take_all, take_more}
use Rattle.determinize_dense.proofs.Common.{text_units, units, units_are, [], ℕ, ◌++◌, ◌<◌, ◌∙◌, ◌∷◌, ◌≡◌}
use Rattle.determinize_dense.proofs.Along.{start_is}
use Rattle.determinize_dense.proofs.Least.{row_after-more}
use Rattle.determinize_dense.proofs.Offsets.{same-offset}
use Rattle.determinize_engine.proofs.Lists.{lists_at_end}
use Rattle.determinize_dense.proofs.dfa.Dfa.patterns_after.Goals as goal

pub loop-byte-init : goal.loop-byte-init
loop-byte-init g c = record {
  at = (
    rw c.is_anchored.ensures at c.start_row-row.ensures.limit,
    rw c.is_anchored.ensures at c.start_row-row.ensures.value,
  );
}

pub loop-byte-preserved : goal.loop-byte-preserved
loop-byte-preserved g c =
    let at = c.loop-byte.invariant.at in record {
      at = rw (take_more c.args.text.now c.loop-byte.byte-index 0 c.loop-byte-test.true, map_push, row_after-more)
          (c.row_over-row.ensures.value _ at.0 at.1);
    }

pub row_over-row-requires : goal.row_over-row-requires
row_over-row-requires g c = (_, c.loop-byte.invariant.at.0, c.loop-byte.invariant.at.1)

pub row_over-last-requires : goal.row_over-last-requires
row_over-last-requires g c = (_, c.loop-byte.invariant.at.0, c.loop-byte.invariant.at.1)

pub row_number-requires : goal.row_number-requires
row_number-requires g c =
    let at = c.loop-byte.invariant.at in
    let next = c.row_over-last.ensures.value _ at.0 at.1 in (_, next.0, next.1)

pub patterns-requires : goal.patterns-requires
patterns-requires g c = c.row_number.ensures.row.0

pub returns : goal.returns
returns g c =
    let text = between c.args.look_behind c.args.text.now c.args.look_ahead in
    let d = c.args.self.now.table in
    let sound = c.start_row-row.ensures.sound in
    let at = rw (take_all c.loop-byte.byte-index c.args.text.now (search rules)) at c.loop-byte.invariant.at in
    let next = c.row_over-last.ensures.value _ at.0 at.1 in
    let all = text_units c.args.look_behind false c.args.text.now c.args.look_ahead
    (All-from_get_or (λ b. b < 256) c.args.text.now 0 (λ i l. (c.type_inv.text i).fits))
    c.row_over-last.ensures.unit in
    let first : ℕ = start_row c.args.self.now.nfa d (is_anchored c.args.anchored) c.args.look_behind in
    let row : row_after d first (map Some c.args.text.now ++ c.args.look_ahead ∷ []) ≡ c.row_number.result
    = rw row_after-more (same-offset d (sym next.1 ∙ c.row_number.ensures.row.1)) in
    let listed = c.patterns.ensures ∙ ap (λ (r : ℕ). patterns_at d r)
    (sym (rw (← units_are c.args.look_behind c.args.look_ahead c.args.text.now) at row))
    ∙ sound.tells (is_anchored c.args.anchored) c.args.look_behind (units text) c.start_row-row.ensures.unit all in
    lists_at_end c.args.self.now.nfa c.args.self.now.kind _ text c.patterns.result.now sound.accepted
    (rw (← start_is c.args.self.now.nfa c.args.anchored) listed)
