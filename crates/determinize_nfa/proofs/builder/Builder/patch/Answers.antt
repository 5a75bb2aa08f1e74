use Rattle.determinize_nfa.proofs.Common.{ap, arith, length-map, length-set}
use Rattle.determinize_nfa.proofs.Common.{map-set, node_of, on_ok_weaker, refl, ◌∙◌, ◌≡◌}
use Rattle.std.proofs.Math.Seq.{map-set_same}
use Rattle.std.proofs.lemmas.Result.{on_err_weaker}
use Rattle.determinize_nfa.proofs.building.Building.{node_is}
use Rattle.determinize_nfa.specs.Builder.{redirected}
use Rattle.determinize_nfa.proofs.builder.Builder.patch.Goals as goal

pub invariant_of-self : goal.invariant_of-self
invariant_of-self g c = simp length-set c.self.invariant

pub returns-clause-patched : goal.returns-clause-patched
returns-clause-patched g c =
    let node = node_is _ _ c.self.view_is c.as_usize-index.ensures.value
    (omega (arith, c.if-index-len.false, c.len.ensures, c.self.inside.states.ok.0)) c.index_mut.result.now
    c.index_mut.ensures.value in
    on_ok_weaker c.redirect.result
    (λ (n : node_of c.redirect.new.state ≡ redirected c.args.to (node_of c.index_mut.result.now)). rw (
      map-set node_of c.self.inside.states.items c.as_usize-index.result c.redirect.new.state,
      n,
      node,
      ← c.self.view_is,
      c.as_usize-index.ensures.value,
    ) refl)
    c.redirect.ensures.redirected

pub returns-clause-patchable : goal.returns-clause-patchable
returns-clause-patchable g c =
    rw (node_is _ _ c.self.view_is c.as_usize-index.ensures.value
    (omega (arith, c.if-index-len.false, c.len.ensures, c.self.inside.states.ok.0)) c.index_mut.result.now
    c.index_mut.ensures.value) c.redirect.ensures.patchable

pub returns-clause-failed : goal.returns-clause-failed
returns-clause-failed g c = on_err_weaker c.redirect.result
    (λ n. rw (
      ← c.self.view_is,
      map-set_same node_of c.self.inside.states.items c.as_usize-index.result
          c.redirect.new.state c.index_mut.result.now (n ∙ ap node_of c.index_mut.ensures.value),
    ) refl)
    c.redirect.ensures.failed

pub returns-clause-count : goal.returns-clause-count
returns-clause-count g c = rw (← c.self.view_is) (simp (length-map, length-set))

pub returns-clause-err : goal.returns-clause-err
returns-clause-err g c =
    rw (
      node_is _ _ c.self.view_is c.as_usize-index.ensures.value
          (omega (arith, c.if-index-len.false, c.len.ensures, c.self.inside.states.ok.0)) c.index_mut.result.now
          c.index_mut.ensures.value,
      ← c.as_usize-index.ensures.value,
    ) c.redirect.ensures.err
