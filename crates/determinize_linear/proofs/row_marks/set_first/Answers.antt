use Rattle.std.proofs.Common.{◌≡◌, length, take}
use Rattle.std.proofs.lemmas.List.{length-take-le}
use Rattle.determinize_linear.proofs.walks.Unset.{first_set}
use Rattle.determinize_linear.proofs.row_marks.set_first.Goals as goal

pub returns-clause-bits : goal.returns-clause-bits
returns-clause-bits c = λ i.
    let count : length (take c.args.count c.args.words.now) ≡ c.args.count
    = length-take-le c.args.count c.args.words.now c.requires in
    rw (c.fill.ensures.after (λ y h. h), count) (first_set c.args.words.now c.args.count i c.requires)
