use Rattle.std.proofs.Common.{subst, Decides, IfOk}
use Rattle.determinize_below.specs.Search.{Asked}
use Rattle.determinize_engine.specs.Searches.{HasMatch}
use Rattle.determinize_uses.proofs.input.contains.Goals as goal

-- the input is the whole haystack
pub returns : goal.returns
returns g c = record {
  accepts =
      subst (λ (asked : Asked). IfOk c.is_match.result (λ found. Decides found (HasMatch c.args.lazy.now.nfa asked)))
      c.new.ensures.value (c.is_match.ensures.accepts c.new.ensures.open);
}
