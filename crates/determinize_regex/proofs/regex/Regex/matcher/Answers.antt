use Rattle.determinize_regex.proofs.Common.{refl}
use Rattle.determinize_regex.proofs.FoundOfPatterns.{with_limit}
use Rattle.determinize_regex.proofs.regex.Regex.matcher.Goals as goal

pub invariant_of-result : goal.invariant_of-result
invariant_of-result g c = rw (c.borrowed.ensures.value, c.as_slice.ensures.value) record {
  regex = with_limit c.self.invariant.regex c.args.limit;
  limits = refl;
  size = c.self.invariant.size;
  pattern = c.self.invariant.pattern;
}

pub returns-clause-is : goal.returns-clause-is
returns-clause-is g c = rw (c.borrowed.ensures.value, c.as_slice.ensures.value)
    (with_limit c.self.invariant.regex c.args.limit)
