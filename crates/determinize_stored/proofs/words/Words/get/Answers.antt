use Rattle.determinize_core.proofs.Common.{ap, arith, length, slice_index, subst, sym, ◌<◌, ◌∙◌}
use Rattle.determinize_stored.proofs.Numbers.{word_at, word_room}
use Rattle.determinize_stored.proofs.words.Words.get.Goals as goal

pub overflow_mul-bytes : goal.overflow_mul-bytes
overflow_mul-bytes c =
    let h = word_room c.self.inside.bytes.now c.args.index
    (subst (λ ws. c.args.index < length ws) (sym c.self.view_is) c.requires) in
    omega (arith, h, c.self.told)

pub overflow_mul-bytes-2 : goal.overflow_mul-bytes-2
overflow_mul-bytes-2 c =
    let h = word_room c.self.inside.bytes.now c.args.index
    (subst (λ ws. c.args.index < length ws) (sym c.self.view_is) c.requires) in
    omega (arith, h, c.self.told)

pub overflow_add-bytes : goal.overflow_add-bytes
overflow_add-bytes c =
    let h = word_room c.self.inside.bytes.now c.args.index
    (subst (λ ws. c.args.index < length ws) (sym c.self.view_is) c.requires) in
    omega (arith, h, c.self.told)

pub slice_bounds-bytes-end : goal.slice_bounds-bytes-end
slice_bounds-bytes-end c =
    let h = word_room c.self.inside.bytes.now c.args.index
    (subst (λ ws. c.args.index < length ws) (sym c.self.view_is) c.requires) in
    omega (arith, h)

pub returns : goal.returns
returns c = c.from_le_bytes.ensures
    ∙ word_at c.self.inside.bytes.now c.args.index
    (subst (λ ws. c.args.index < length ws) (sym c.self.view_is) c.requires)
    ∙ ap (λ ws. slice_index ws c.args.index) c.self.view_is
