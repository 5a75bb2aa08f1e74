use Rattle.std.proofs.Common.{◌≡◌, ◌<◌, ◌∙◌, ℕ, List, Bool, ap, arith, length, map, set, true}
use Rattle.std.proofs.lemmas.List.{length-map, length-set, with_items_is}
use Rattle.std.specs.Vec.{with_items}
use Rattle.determinize_linear.specs.Private.Marks.{with_mark}
use Rattle.determinize_linear.proofs.search.Marks.{changed_at}
use Rattle.determinize_linear.proofs.visited.Visited.insert.Goals as goal

pub returns-clause-after : goal.returns-clause-after
returns-clause-after g c =
    let count : length (map (λ v. v.items) c.self.inside.rows.items) ≡ length c.args.self.now
    = ap (λ (t : List (List Bool)). length t) c.self.view_is in
    let same = length-map c.self.inside.rows.items (λ v. v.items) in
    let below : c.args.at < length c.args.self.now = c.requires.at in
    let within : c.args.at < length c.self.inside.rows.items = omega (arith, same, count) in
    let after : c.set_mark.new.marks ≡ set c.deref_mut.result.now c.as_usize.result true = c.set_mark.ensures.after in
    let len : length c.set_mark.new.marks ≡ c.index_mut.result.now.len
    = ap (λ (row : List Bool). length row) after ∙ length-set c.deref_mut.result.now c.as_usize.result true
    ∙ ap (λ (row : List Bool). length row) c.deref_mut.ensures.value ∙ omega (arith, c.index_mut.result.now.ok) in
    changed_at (λ v. v.items) c.self.inside.rows.items c.args.at c.index_mut.result.now
    (with_items c.index_mut.result.now c.set_mark.new.marks)
    (λ row. set row c.as_usize.result true) within c.index_mut.ensures.value
    (with_items_is c.index_mut.result.now c.set_mark.new.marks len ∙ after
    ∙ ap (λ (row : List Bool). set row c.as_usize.result true) c.deref_mut.ensures.value)
    ∙ ap (λ (t : List (List Bool)). with_mark t c.args.at c.as_usize.result) c.self.view_is
    ∙ ap (λ (s : ℕ). with_mark c.args.self.now c.args.at s) c.as_usize.ensures.value
