use Rattle.determinize_regex.proofs.Common.{refl}
use Rattle.determinize_regex.proofs.FoundOfPatterns.{with_limit}
use Rattle.determinize_regex.proofs.set.Regex.set.Goals as goal

pub invariant_of-result : goal.invariant_of-result
invariant_of-result g c =
    rw (c.as_slice.ensures.value, c.borrowed.ensures.nfa, c.forward.ensures.nfa, c.borrowed.ensures.kind) record {
      regex = with_limit c.self.invariant.regex _;
      kind = refl;
      forward = c.forward.ensures.forward;
    }
