use Rattle.determinize_regex.proofs.FoundOfPatterns.{all_by}
use Rattle.determinize_regex.proofs.regex.Regex.find_all.Goals as goal

pub returns-clause-all : goal.returns-clause-all
returns-clause-all g c = all_by c.self.view_is c.self.invariant.regex c.args.input.now c.find_all.result
    (λ found. found.items) c.find_all.ensures.all
