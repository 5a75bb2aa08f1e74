use Rattle.std.proofs.Common.{◌≡◌, map, take}
use Rattle.std.specs.Prelude.{None}
use Rattle.determinize_below.specs.Semantics.{between}
use Rattle.determinize_below.specs.declared.search.MatchKind.TheVariants as kinds
use Rattle.determinize_core.specs.Chain.{chain}
use Rattle.determinize_core.specs.LastMatch.{last_match}
use Rattle.determinize_uses.proofs.search.matches.Given as goal

abbrev pub invariant-loop-text : goal.invariant-loop-text
invariant-loop-text g l = record {
  nfa : l.lazy.nfa ≡ l.nfa;
  kind : l.lazy.kind ≡ kinds.LeftmostFirst;
  found : l.found.items ≡ map (λ text. last_match
      (chain l.nfa kinds.LeftmostFirst l.start (between None text.now None))) (take l.text-index l.texts);
}
