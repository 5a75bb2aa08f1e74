use Rattle.std.proofs.Common.{◌≡◌, ◌≤◌, All, false, length}
use Rattle.determinize_below.specs.declared.search.Match.{Match}
use Rattle.determinize_below.specs.declared.search.MatchKind.TheVariants as kinds
use Rattle.determinize_uses.specs.Tokens.{IsLongest}
use Rattle.determinize_uses.proofs.lexer.tokens.Given as goal

abbrev pub invariant-loop : goal.invariant-loop
invariant-loop g l = record {
  nfa : l.lazy.nfa ≡ l.fn.lazy.nfa;
  kind : l.lazy.kind ≡ kinds.All;
  forward : l.lazy.nfa.reverse ≡ false;
  at : l.at ≤ length l.text;
  longest : All (λ (m : Match). IsLongest l.fn.lazy.nfa l.text m) l.found.items;
}
