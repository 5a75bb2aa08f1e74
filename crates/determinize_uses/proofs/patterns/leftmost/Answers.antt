use Rattle.std.proofs.Common.{◌∙◌}
use Rattle.determinize_uses.proofs.patterns.leftmost.Goals as goal

pub returns : goal.returns
returns c =
    let made = c.in_ok-regex.ensures in
    rw made.patterns at (rw (made.options.terminator ∙ c.new.ensures.terminator) at c.in_ok-find.ensures.leftmost)
