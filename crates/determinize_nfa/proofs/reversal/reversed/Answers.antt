use Rattle.determinize_nfa.proofs.Common.{IfErr-weaker, IfOk-weaker, Nfa, ap, arith, by_cases, if_err_and, inl, length}
use Rattle.determinize_nfa.proofs.Common.{looks_of, map, most_states, node_of, not, refl, suc, ◌+◌, ◌≡◌}
use Rattle.determinize_nfa.proofs.Limits.{too_many}
use Rattle.determinize_nfa.proofs.reversing.BothWays.{IsMadeOf, made_reverse}
use Rattle.determinize_nfa.proofs.reversing.Counts.{larger, most}
use Rattle.determinize_nfa.proofs.reversing.Recorded.{all_recorded}
use Rattle.determinize_nfa.proofs.reversing.Validation.{one_match, only_size}
use Rattle.determinize_nfa.proofs.reversal.reversed.Goals as goal

pub returns-in_err-start-clause-err : goal.returns-in_err-start-clause-err
returns-in_err-start-clause-err g c = if_err_and c.from_residual.result _ _
    (too_many (c.len-count.result + 1) (most_states c.args.nfa.now) (omega (arith, c.len-count.ensures.count))
    c.in_err-start.ensures.ok)
    c.from_residual.ensures.1

pub returns-in_err-turned-clause-err : goal.returns-in_err-turned-clause-err
returns-in_err-turned-clause-err g c = if_err_and c.from_residual-in_err-turned.result _ _
    (λ e h. rw h c.in_err-turned.ensures.err)
    c.from_residual-in_err-turned.ensures.1

pub returns : goal.returns
returns g c =
    let over = c.in_ok-turned.ensures.ok in
    let turned = c.in_ok-turned.turned in
    let recorded = all_recorded c.args.nfa.now c.len-count.ensures.accepted turned over in
    let few = most c.args.nfa.now turned over in
    let start : c.in_ok-start.start ≡ suc (length c.args.nfa.now.states)
    = omega (arith, c.in_ok-start.ensures.ok.1, c.len-count.ensures.count) in
    let made : (b : Nfa) → b ≡ record {
      states = map node_of c.in_ok-states.states.items;
      start_anchored = c.in_ok-start.start;
      start_unanchored = c.in_ok-start.start;
      reverse = not c.is_reverse.result;
      terminator = c.look_matcher-matcher.result.now;
      look_set_any = looks_of (map node_of c.in_ok-states.states.items);
    } → IsMadeOf c.args.nfa.now b turned = λ b p. rw p (record {
      direction = ap not c.is_reverse.ensures;
      terminator = c.look_matcher-matcher.ensures.value;
      start = start;
      states = c.in_ok-states.ensures;
    }) in
    record {
      reverse = IfOk-weaker c.from_parts.result _ _
          (λ b p. made_reverse c.args.nfa.now b over.met turned (made b p) recorded) c.from_parts.ensures.ok;
      starts = IfOk-weaker c.from_parts.result _ _ (λ b p. rw p refl) c.from_parts.ensures.ok;
      pattern = IfOk-weaker c.from_parts.result _ _
          (λ b p. rw (made b p).states (one_match c.args.nfa.now turned recorded.sound)) c.from_parts.ensures.ok;
      size = IfOk-weaker c.from_parts.result _ _ (λ b p. rw (made b p).states few) c.from_parts.ensures.ok;
      err = IfErr-weaker c.from_parts.result _ _
          (λ e d. by_cases d
          (λ k. larger _ _ e few (only_size c.args.nfa.now turned recorded.sound c.in_ok-start.start e start
          (rw c.in_ok-states.ensures at k)))
          inl)
          c.from_parts.ensures.err;
    }
