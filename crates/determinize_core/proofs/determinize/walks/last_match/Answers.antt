use Rattle.determinize_core.proofs.Common.{sym, ◌∙◌}
use Rattle.ordered_reach.proofs.lists.Pieces.{option_or-None}
use Rattle.std.proofs.lemmas.List.{drop_all}
use Rattle.determinize_core.proofs.walk.LastMatches.{first_listed, last_ended_found, last_ended_kept, last_match-empty}
use Rattle.determinize_core.proofs.determinize.walks.last_match.Goals.{else-is_match, then-is_match}
use Rattle.determinize_core.proofs.determinize.walks.last_match.Goals as goal

pub loop-offset-init : goal.loop-offset-init
loop-offset-init g c = option_or-None _

pub loop-offset-preserved : goal.loop-offset-preserved
loop-offset-preserved g c =
    let v = c.index-others-offset.result in
    elim c.if-is_match.branch [
      | then-is_match w ↦ rw w.last-is
          (last_ended_found c.in-Some.others.now c.loop-offset.offset v c.loop-offset.last _
          c.loop-offset-test.true c.index-others-offset.is c.loop-offset.invariant
          w.match_pattern-pattern.result (sym c.is_match.ensures ∙ w.if-is_match.true) w.match_pattern-pattern.ensures)
      | else-is_match w ↦ rw w.last-is (last_ended_kept c.in-Some.others.now c.loop-offset.offset v c.loop-offset.last _
          c.loop-offset-test.true c.index-others-offset.is c.loop-offset.invariant
          (sym c.is_match.ensures ∙ w.if-is_match.false))
    ]

pub returns : goal.returns
returns g c =
    rw c.in-Some.ensures.cases.0
    (rw (drop_all c.loop-offset.offset c.in-Some.others.now c.loop-offset-test.false) at c.loop-offset.invariant)

pub returns-in_default : goal.returns-in_default
returns-in_default g c = sym (last_match-empty c.args.states.now c.in_default.ensures.cases)

pub match_pattern-pattern-requires : goal.match_pattern-pattern-requires
match_pattern-pattern-requires g c = first_listed _ (sym c.if-is_match.ensures)
