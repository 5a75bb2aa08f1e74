use Rattle.determinize_state.proofs.Common.{arith}
use Rattle.determinize_state.proofs.encoding.ReadBytes.{others_small}
use Rattle.determinize_state.proofs.state.pattern_ids.PatternIdsIterator.next.Goals as goal

pub invariant_of-self : goal.invariant_of-self
invariant_of-self c =
    let cases = c.in_ok-word.ensures.cases in
    rw cases.1 (others_small c.self.inside.words.now (omega (arith, cases.2)) c.self.invariant)
