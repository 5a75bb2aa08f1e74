use Rattle.std.proofs.Common.{rules, ◌≡◌, length, subst, IfSome}
use Rattle.determinize_below.specs.Search.{Asked}
use Rattle.determinize_below.specs.declared.search.Anchored.TheVariants.{Yes}
use Rattle.determinize_engine.specs.Searches.{IsFarthestIn}
use Rattle.determinize_uses.proofs.lexer.token.Goals as goal

-- the search is of the rest of the text
pub returns-clause-longest : goal.returns-clause-longest
returns-clause-longest g c =
    let rest : Asked = record {
      haystack = c.args.text.now;
      start = c.args.at;
      end = length c.args.text.now;
      anchored = Yes;
    } in
    let asked : c.anchored-rest.result ≡ rest = search rules in
    subst (λ (asked : Asked). IsFarthestIn c.args.lazy.now.nfa asked c.in-Some.last) asked
    (subst (λ o. IfSome o (λ m. IsFarthestIn c.args.lazy.now.nfa c.anchored-rest.result m)) c.in-Some.is
    (c.in_ok-last.ensures.search.farthest c.requires.kind))
