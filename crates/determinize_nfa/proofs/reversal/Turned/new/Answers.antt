use Rattle.determinize_nfa.proofs.Common.{[], arith, map-append, refl, ◌∷◌, ◌≡◌}
use Rattle.std.proofs.lemmas.List.{replicate-append-replicate}
use Rattle.determinize_nfa.proofs.reversal.Turned.new.Goals as goal

pub loop-preserved : goal.loop-preserved
loop-preserved g c =
    rw (
      c.in_ok-push.ensures.items,
      map-append (λ v. v.items) c.loop.into.items (c.new.result ∷ []),
      c.loop.invariant,
      c.new.ensures.items,
    ) (replicate-append-replicate c.loop.counter 1 [])

pub returns : goal.returns
returns g c =
    let all : c.loop.counter ≡ c.args.count = omega arith in
    rw (c.new-2.ensures.items, c.new-3.ensures.items, c.loop.invariant, all) refl
