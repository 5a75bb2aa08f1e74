use Rattle.determinize_find.proofs.regex.Regex+LazyDfa+R+A+LazyDfa+Q+A.new.Goals as goal

pub invariant_of-result : goal.invariant_of-result
invariant_of-result g c = record {
  kind = c.new_by_class.ensures.kind;
  kind_backward = c.new_by_class-2.ensures.kind;
  reads_forward = rw c.new_by_class.ensures.nfa c.requires.forward;
  prefix = rw c.new_by_class.ensures.nfa c.requires.prefix;
  apart = rw (c.new_by_class.ensures.nfa, ← c.nfa.ensures) c.has_prefix_apart-is_known_apart.ensures.0;
  reverse = rw (c.new_by_class.ensures.nfa, c.new_by_class-2.ensures.nfa) c.requires.reverse;
}
