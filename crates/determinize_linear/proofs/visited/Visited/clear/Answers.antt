use Rattle.std.proofs.Common.{◌≡◌, ◌<◌, ◌∙◌, ℕ, List, Bool, ap, arith, false, length, map, replicate}
use Rattle.std.proofs.lemmas.List.{length-map}
use Rattle.determinize_linear.specs.Private.Marks.{without_marks}
use Rattle.determinize_linear.proofs.search.Marks.{changed_at}
use Rattle.determinize_linear.proofs.visited.Visited.clear.Goals as goal

pub returns : goal.returns
returns g c =
    let count : length (map (λ v. v.items) c.self.inside.rows.items) ≡ length c.args.self.now
    = ap (λ (t : List (List Bool)). length t) c.self.view_is in
    let same = length-map c.self.inside.rows.items (λ v. v.items) in
    let below : c.args.at < length c.args.self.now = c.requires in
    let within : c.args.at < length c.self.inside.rows.items = omega (arith, same, count) in
    let len : c.index_mut.result.now.len ≡ length c.index_mut.result.now.items
    = omega (arith, c.index_mut.result.now.ok) in
    changed_at (λ v. v.items) c.self.inside.rows.items c.args.at c.index_mut.result.now c.fill.new.self
    (λ row. replicate (length row) false) within c.index_mut.ensures.value (c.fill.ensures.items (λ y h. h)
    ∙ ap (λ (n : ℕ). replicate n false) len)
    ∙ ap (λ (t : List (List Bool)). without_marks t c.args.at) c.self.view_is
