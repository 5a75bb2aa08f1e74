use Rattle.std.proofs.Common.{rules, ◌≡◌, ◌+◌, ◌-◌, ◌≤◌, ◌∙◌, Bool, List, arith, false, length, replicate, subst}
use Rattle.std.proofs.Common.{sym}
use Rattle.std.proofs.lemmas.Result.{IfOk-weaker}
use Rattle.determinize_core.specs.Tries.{edges_in_all}
use Rattle.determinize_engine.specs.Searches.{text_of}
use Rattle.determinize_find.proofs.matches.OneList.{length-range}
use Rattle.determinize_linear.specs.Private.Spent.{HasPlaces, IsSpent}
use Rattle.determinize_linear.proofs.search.Left.{left_most, start_pays}
use Rattle.determinize_linear.proofs.search.Marks.{places_new}
use Rattle.determinize_linear.proofs.search.UnderWay.{spent_new}
use Rattle.determinize_linear.proofs.linear.find_all_with.Goals as goal

pub find_all_by-requires-clause-ready : goal.find_all_by-requires-clause-ready
find_all_by-requires-clause-ready g c = λ k.
    let rows : c.in_ok-new.field-0 ≡ replicate (length c.of_input-text.result.bytes + 1)
    (replicate (length c.args.nfa.now.states) false) = search rules in rw (← c.of_input-text.ensures) (
      search rules,
      c.requires.forward,
      subst (λ (r : List (List Bool)). HasPlaces c.args.nfa.now c.of_input-text.result r) (sym rows)
          (places_new c.args.nfa.now c.of_input-text.result),
      subst (λ (r : List (List Bool)). IsSpent c.args.nfa.now c.of_input-text.result k r) (sym rows)
          (spent_new c.args.nfa.now c.of_input-text.result k (length c.of_input-text.result.bytes + 1)
          (length c.args.nfa.now.states)),
    )

pub returns-clause-linear : goal.returns-clause-linear
returns-clause-linear g c = λ k.
    let within : c.args.input.now.end ≤ length c.args.input.now.haystack
    = omega (arith, c.end.ensures.value, c.end.ensures.in_haystack) in
    let count : length (text_of false c.args.input.now).bytes ≡ c.args.input.now.end - c.args.input.now.start
    = length-range c.args.input.now within in
    omega (
      arith,
      c.find_all_by.ensures.linear k,
      start_pays (length c.args.nfa.now.states) (edges_in_all c.args.nfa.now)
          (c.args.input.now.end - c.args.input.now.start) (length (text_of false c.args.input.now).bytes) _ count
          (left_most c.args.nfa.now (text_of false c.args.input.now) 0 c.in_ok-new.field-0),
    )

pub returns-clause-counted : goal.returns-clause-counted
returns-clause-counted g c = λ k free.
    IfOk-weaker c.find_all_by.result _ _ (λ found h. omega (arith, h, c.if-start-end.false))
    (c.find_all_by.ensures.counted k (c.is_anchored.ensures ∙ free))
