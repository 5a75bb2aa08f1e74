use Rattle.determinize_regex.proofs.FoundOfPatterns.{all_by}
use Rattle.determinize_regex.proofs.regex.Regex.find_all_counted.Goals as goal

pub returns-clause-all : goal.returns-clause-all
returns-clause-all g c = all_by c.self.view_is c.self.invariant.regex c.args.input.now c.find_all_counted.result
    (λ found. found.items) (rw c.nfa.ensures.value at c.find_all_counted.ensures.all)
