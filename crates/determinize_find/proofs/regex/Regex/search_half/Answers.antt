use Rattle.determinize_find.proofs.Common.{IfOk-weaker}
use Rattle.determinize_find.proofs.leftmost.TwoSearches.{leftmost_end}
use Rattle.determinize_find.proofs.regex.Regex.search_half.Goals as goal

pub returns-clause-leftmost : goal.returns-clause-leftmost
returns-clause-leftmost g c = rw (← c.self.view_is) (IfOk-weaker c.search_input.result _ _
    (leftmost_end c.self.invariant c.args.input.now c.requires.start c.input_law.ensures.within
    c.input_law.ensures.bytes)
    (rw c.self.invariant.kind at c.search_input.ensures.search))
