use Rattle.std.proofs.Common.{◌∙◌, sym}
use Rattle.determinize_pattern.proofs.compiled.Words.{least_kept, least_low, least_new, least_none}
use Rattle.determinize_pattern.proofs.prefix_tree.lesser.Goals as goal

pub returns-in-Some-clause-added : goal.returns-in-Some-clause-added
returns-in-Some-clause-added c = rw c.in-Some.is
    (least_new c.args.from c.args.least c.in-Some.byte c.if-byte-from.true
    (sym c.is_below.ensures ∙ c.if-is_below.true))

pub returns-in_default-clause-added : goal.returns-in_default-clause-added
returns-in_default-clause-added c = rw c.in-Some.is
    (least_kept c.args.from c.args.least c.in-Some.byte (sym c.is_below.ensures ∙ c.if-is_below.false))

pub returns-in_default-2-clause-added : goal.returns-in_default-2-clause-added
returns-in_default-2-clause-added c = rw c.in-Some.is
    (least_low c.args.from c.args.least c.in-Some.byte c.if-byte-from.false)

pub returns-in_default-3-clause-added : goal.returns-in_default-3-clause-added
returns-in_default-3-clause-added c = rw c.in_default.is (least_none c.args.from c.args.least)
