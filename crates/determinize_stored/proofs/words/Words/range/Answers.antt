use Rattle.determinize_core.proofs.Common.{ap, ◌∙◌}
use Rattle.std.specs.List.{slice_range}
use Rattle.determinize_stored.proofs.Numbers.{words-range}
use Rattle.determinize_stored.proofs.words.Words.range.Goals as goal

pub returns : goal.returns
returns c = words-range c.args.start c.args.end c.self.inside.bytes.now
    ∙ ap (λ ws. slice_range ws c.args.start c.args.end) c.self.view_is
