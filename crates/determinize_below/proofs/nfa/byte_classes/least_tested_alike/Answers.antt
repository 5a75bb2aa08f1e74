use Rattle.determinize_below.proofs.Common.{arith, by_cases, cases_lt}
use Rattle.determinize_below.proofs.nfa.byte_classes.least_tested_alike.Goals as goal

pub returns-then-are_tested_alike-clause-first : goal.returns-then-are_tested_alike-clause-first
returns-then-are_tested_alike-clause-first g c = λ k l t. by_cases (cases_lt k c.loop-earlier.earlier)
    (λ h. absurd (c.loop-earlier.invariant k h t)) (λ h. h)

pub returns-clause-first : goal.returns-clause-first
returns-clause-first g c = λ k l t. by_cases (cases_lt k c.loop-earlier.earlier)
    (λ h. absurd (c.loop-earlier.invariant k h t)) (λ h. omega (arith, h, c.loop-earlier-test.false))
