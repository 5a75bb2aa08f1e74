use Rattle.std.proofs.Common.{rules, ◌≡◌, suc, ◌+◌, ◌-◌, ◌<◌, None, Some, arith, ap, length, refl, subst, sym, ◌∙◌}
use Rattle.std.specs.Option.{IfSome}
use Rattle.std.specs.Prelude.{get_or}
use Rattle.std.specs.Vec.{vec_len}
use Rattle.std.proofs.lemmas.Option.{slice_get-get_or}
use Rattle.determinize_below.specs.Semantics.{between}
use Rattle.determinize_core.specs.LastMatch.{lists_of}
use Rattle.determinize_core.proofs.walk.ValueWalks.{list_of}
use Rattle.determinize_core.specs.Walk.{IsWalkOfAll, ListsAccepted}
use Rattle.determinize_uses.proofs.cache.at_the_end.Goals as goal

-- the last state is the one after the last byte
pub returns-clause-listed : goal.returns-clause-listed
returns-clause-listed g c =
    let start : c.start_anchored-start.result ≡ c.args.lazy.now.nfa.start_anchored = search rules in
    let all : IsWalkOfAll c.args.lazy.now.nfa c.args.lazy.now.nfa.start_anchored (between None c.args.text.now None)
    (lists_of c.in_ok-states.states.items) =
    subst (λ s. IsWalkOfAll c.args.lazy.now.nfa s (between None c.args.text.now None)
    (lists_of c.in_ok-states.states.items)) start (c.in_ok-states.ensures.walk.all c.requires) in
    let count : length c.in_ok-states.states.items ≡ length c.args.text.now + 2 = c.in_ok-states.ensures.walk.count in
    let size : vec_len c.in_ok-states.states ≡ length c.in_ok-states.states.items = search rules in
    let place : vec_len c.in_ok-states.states - 1 ≡ suc (length c.args.text.now) = omega (arith, count, size) in
    let within : suc (length c.args.text.now) < length c.in_ok-states.states.items = omega (arith, count) in
    let some : 0 < vec_len c.in_ok-states.states = omega (arith, count, size) in
    elim c.pop-last.result as (λ o. c.pop-last.result ≡ o
    → IfSome o (λ state. ListsAccepted c.args.lazy.now.nfa
    (between None c.args.text.now None) c.args.lazy.now.nfa.start_anchored (length c.args.text.now) state.patterns)) [
      | None ↦ λ _. tt
      | Some v ↦ λ here. all.matches (length c.args.text.now) v.patterns
          (list_of c.in_ok-states.states.items (suc (length c.args.text.now)) v
          (slice_get-get_or c.in_ok-states.states.items (suc (length c.args.text.now)) v within
          ∙ ap (λ k. Some (get_or c.in_ok-states.states.items k v)) (sym place)
          ∙ sym (c.pop-last.ensures.value v some) ∙ here))
    ] refl
