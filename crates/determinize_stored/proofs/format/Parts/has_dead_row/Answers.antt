use Rattle.determinize_core.proofs.Common.{◌∙◌}
use Rattle.determinize_stored.proofs.Files.{first_row_room, not_listed}
use Rattle.determinize_stored.proofs.format.Parts.has_dead_row.Goals as goal

pub returns-then-get-ne0 : goal.returns-then-get-ne0
returns-then-get-ne0 c = (
  λ e. absurd cc,
  λ stop. absurd (not_listed c.args.head.now c.args.self.now c.requires.sizes c.requires.range
      (λ zero. c.if-get-ne0.true (c.get.ensures ∙ zero)) stop),
)

pub range-requires-clause-within : goal.range-requires-clause-within
range-requires-clause-within c = first_row_room c.args.head.now c.args.self.now c.requires.sizes c.requires.range
