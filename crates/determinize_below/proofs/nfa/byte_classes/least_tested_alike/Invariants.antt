use Rattle.determinize_below.proofs.Common.{◌<◌, ℕ, AreTestedAlike}
use Rattle.determinize_below.proofs.nfa.byte_classes.least_tested_alike.Given as goal

abbrev pub invariant-loop-earlier : goal.invariant-loop-earlier
invariant-loop-earlier g l = (c : ℕ) → c < l.earlier → AreTestedAlike l.nfa c l.byte → ⊥
