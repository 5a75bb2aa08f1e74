use Rattle.std.proofs.Common.{◌≡◌, ◌++◌, ◌∙◌, ap, map, reverse, sym, ℕ, List}
use Rattle.std.proofs.lemmas.Iterator.Adapters.{YieldsList-from_rev_slice}
use Rattle.std.proofs.lemmas.Iterator.Consumers.{YieldsList-end, YieldsList-from_copied}
use Rattle.std.proofs.lemmas.List.{map-id}
use Rattle.ordered_reach.specs.Runs.{placed}
use Rattle.determinize_linear.proofs.search.Choices.{map_reversed}
use Rattle.determinize_linear.proofs.choices.push_each.Goals as goal

pub returns : goal.returns
returns g c =
    let t = YieldsList-end (YieldsList-from_copied (YieldsList-from_rev_slice c.args.ids.now cc)) c.loop-id.yielded _
    c.loop-id.yielded_by _ _ c.in-None.is c.next.ensures.steps in
    let all : c.loop-id.yielded ≡ reverse c.args.ids.now = sym (map-id c.loop-id.yielded) ∙ t.0 in
    c.loop-id.invariant ∙ ap (λ (ids : List ℕ). c.args.stack.now.items ++ map (placed c.args.at) ids) all
    ∙ ap (λ (l : List (ℕ × ℕ)). c.args.stack.now.items ++ l) (map_reversed (placed c.args.at) c.args.ids.now)
