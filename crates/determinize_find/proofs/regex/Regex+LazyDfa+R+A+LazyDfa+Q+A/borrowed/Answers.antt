use Rattle.std.proofs.Common.{refl}
use Rattle.determinize_find.proofs.regex.Regex+LazyDfa+R+A+LazyDfa+Q+A.borrowed.Goals as goal

pub invariant_of-result : goal.invariant_of-result
invariant_of-result g c =
    rw (c.borrowed.ensures.nfa, c.borrowed.ensures.kind, c.borrowed-2.ensures.nfa, c.borrowed-2.ensures.kind) record {
      kind = refl;
      kind_backward = refl;
      reads_forward = c.self.invariant.reads_forward;
      prefix = c.self.invariant.prefix;
      apart = c.self.invariant.apart;
      reverse = c.self.invariant.reverse;
    }
