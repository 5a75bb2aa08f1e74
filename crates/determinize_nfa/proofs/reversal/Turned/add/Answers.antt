use Rattle.determinize_nfa.proofs.Common.{[], arith, get_or-map, length, length-map, map-set, refl, rules, ◌++◌, ◌<◌}
use Rattle.determinize_nfa.proofs.Common.{◌∷◌, ◌≡◌}
use Rattle.determinize_nfa.proofs.reversal.Turned.add.Goals as goal

pub returns-clause-turned : goal.returns-clause-turned
returns-clause-turned g c =
    let lists = c.self.inside.into.items in
    let below = rw (← c.self.view_is) at c.requires in
    let within : c.as_usize.result < length lists
    = omega (arith, length-map lists (λ v. v.items), below, c.as_usize.ensures.value) in
    let more : c.push.new.self.items ≡ c.index_mut.result.now.items ++ c.args.next ∷ [] = search rules in
    rw (
      ← c.self.view_is,
      ← c.as_usize.ensures.value,
      map-set (λ v. v.items) lists c.as_usize.result c.push.new.self,
      more,
      get_or-map (λ v. v.items) lists c.as_usize.result c.index_mut.result.now [] within,
      ← c.index_mut.ensures.value,
    ) refl
