use Rattle.determinize_regex.proofs.FoundOfPatterns.{all_by}
use Rattle.determinize_regex.proofs.regex.Regex.find_all_linear.Goals as goal

pub returns : goal.returns
returns g c = record {
  all = all_by c.self.view_is c.self.invariant.regex c.args.input.now c.find_all.result (λ found. found.items)
      (rw c.nfa.ensures.value at c.find_all.ensures);
}
