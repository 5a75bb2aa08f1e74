use Rattle.determinize_find.proofs.leftmost.TwoSearches.{found_in}
use Rattle.determinize_find.proofs.regex.Regex.is_match.Goals as goal

pub returns-clause-found : goal.returns-clause-found
returns-clause-found g c = rw (← c.self.view_is) (found_in c.self.invariant c.args.input.now c.requires.start
    c.input_law.ensures.within c.input_law.ensures.bytes c.is_match.result c.is_match.ensures.accepts
    c.is_match.ensures.done)

pub returns-clause-accepts : goal.returns-clause-accepts
returns-clause-accepts g c more = rw (← c.self.view_is) (c.is_match.ensures.accepts more)
