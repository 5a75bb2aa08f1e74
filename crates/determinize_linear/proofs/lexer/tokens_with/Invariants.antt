use Rattle.std.proofs.Common.{◌≡◌, ◌*◌, ◌+◌, ◌-◌, ◌≤◌, ℕ, IsTrue, length}
use Rattle.determinize_below.specs.Semantics.{Nfa}
use Rattle.determinize_linear.specs.Private.Following.{IsWalkable, unmarked}
use Rattle.determinize_linear.specs.Tokens.{end_of_last}
use Rattle.determinize_linear.proofs.tokens.Tokens.{AreFirstTokens}
use Rattle.determinize_linear.proofs.lexer.tokens_with.Given as goal

abbrev pub invariant-loop-at : goal.invariant-loop-at
invariant-loop-at g l = record {
  first : (nfa : Nfa) → g.D.Automaton.is_of l.dfa nfa
      → AreFirstTokens nfa l.input (l.input.start + l.at) l.found.items;
  high : l.at ≤ length l.text.bytes;
  walkable : (k : ℕ) → l.at ≤ k → IsWalkable (g.D.Automaton.stored l.dfa) l.marks l.text k;
  paid : IsTrue g.C.Counter.counts
      → g.C.Counter.total l.counter + unmarked (g.D.Automaton.stored l.dfa).table l.text l.marks
      ≤ g.C.Counter.total l.fn.counter
      + (length l.text.bytes + 1) * length (g.D.Automaton.stored l.dfa).table.patterns + 4 * l.at;
  last : end_of_last l.input.start l.found.items ≡ l.input.start + l.at;
  counted : IsTrue g.C.Counter.counts
      → g.C.Counter.total l.fn.counter + length l.found.items + l.at ≤ g.C.Counter.total l.counter;
}

abbrev pub decreases-loop-at : goal.decreases-loop-at
decreases-loop-at g l = length l.text.bytes - l.at
