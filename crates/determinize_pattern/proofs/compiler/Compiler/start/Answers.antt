use Rattle.std.proofs.Common.{◌≡◌, ◌∙◌, arith, length, map, slice_index, take}
use Rattle.std.proofs.lemmas.List.{get_or_read, length-map, length-take-le, take_all}
use Rattle.std.proofs.lemmas.Result.{IfOk-weaker, on_ok_weaker}
use Rattle.determinize_pattern.specs.Patterns.{meaning}
use Rattle.determinize_pattern.proofs.compiled.Growing.{map_take_more}
use Rattle.determinize_pattern.proofs.compiled.Starting.{begins_all, begins_more, begins_none, tree_terminator}
use Rattle.determinize_pattern.proofs.compiler.Compiler.start.Goals as goal

pub loop-i-init : goal.loop-i-init
loop-i-init g c = (rw c.new-words.ensures.items (begins_none _ _), omega arith)

pub loop-i-preserved : goal.loop-i-preserved
loop-i-preserved g c =
    let i = c.loop-i.i in
    let sub = c.index-patterns-i.result in
    let m : c.index-matches-i.result ≡ slice_index c.args.matches.now i
    = get_or_read c.args.matches.now i _ (omega (arith, c.requires)) c.index-matches-i.is 0 in
    let long : length (map meaning (take i c.args.patterns.now)) ≡ i
    = length-map (take i c.args.patterns.now) meaning ∙ length-take-le i c.args.patterns.now (omega arith) in (
      rw (
        map_take_more meaning c.args.patterns.now i sub (omega arith) c.index-patterns-i.is,
        c.in_ok-push.ensures.items,
      )
          (begins_more _ _ _ _ _ _ _ i _ c.loop-i.invariant.0 long (omega (arith, c.requires))
          (rw m at c.in_ok-word.ensures.head)),
      omega (arith, c.loop-i.invariant.1, c.in_ok-word.ensures.paid),
    )

pub returns-clause-begins : goal.returns-clause-begins
returns-clause-begins g c = IfOk-weaker c.words.result _ _
    (λ s h. begins_all _ _ _ _ _ _ s
    (rw (take_all c.loop-i.i c.args.patterns.now (omega arith)) at c.loop-i.invariant.0)
    (rw c.deref.ensures.value at h)) c.words.ensures.tree

pub returns-clause-terminator : goal.returns-clause-terminator
returns-clause-terminator g c = on_ok_weaker c.words.result
    (λ e. e ∙ c.loop-i.invariant.0.extends.terminator) (tree_terminator _ _ _ c.words.result c.words.ensures.tree)

pub returns-clause-paid : goal.returns-clause-paid
returns-clause-paid g c =
    on_ok_weaker c.words.result (λ paid. omega (arith, c.loop-i.invariant.1, paid)) c.words.ensures.paid
