use Rattle.determinize_start.proofs.Common.{refl, by_test}
use Rattle.determinize_below.specs.Look.{insert}
use Rattle.determinize_start.specs.LookTables.{insert_where}
use Rattle.determinize_start.proofs.look_tables.word_set.Goals as goal

pub returns : goal.returns
unfolding insert insert_where
returns c = rw c.from_repr.ensures (by_test c.args.from_word
    (λ from. by_test c.args.word (λ to. rw (from, to) refl) (λ to. rw (from, to) refl))
    (λ from. by_test c.args.word (λ to. rw (from, to) refl) (λ to. rw (from, to) refl)))
