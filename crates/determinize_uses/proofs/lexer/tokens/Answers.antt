use Rattle.std.proofs.Common.{rules, ◌∷◌, [], All, IfSome, subst, sym}
use Rattle.std.proofs.lemmas.List.Elements.{All-append, All-cons, All-nil}
use Rattle.determinize_below.specs.Semantics.{Nfa}
use Rattle.determinize_below.specs.declared.search.Match.{Match}
use Rattle.determinize_uses.specs.Tokens.{IsLongest}
use Rattle.determinize_uses.proofs.lexer.tokens.Goals as goal

-- the new token is the longest one where it begins, as the others are
pub loop-preserved : goal.loop-preserved
loop-preserved g c =
    let Longest : Match → Type 0 = λ m. IsLongest c.args.lazy.now.nfa c.args.text.now m in
    let next : Longest c.in-Some.next =
    subst (λ (nfa : Nfa). IsLongest nfa c.args.text.now c.in-Some.next) c.loop.invariant.nfa
    (subst (λ o. IfSome o (λ m. IsLongest c.loop.lazy.nfa c.args.text.now m)) c.in-Some.is
    c.in_ok-next.ensures.longest) in
    record {
      nfa = search rules;
      kind = search rules;
      forward = search rules;
      at = search rules;
      longest = subst (All Longest) (sym c.in_ok-push-in-Some.ensures.items)
          (All-append Longest c.loop.found.items (c.in-Some.next ∷ []) c.loop.invariant.longest
          (All-cons Longest c.in-Some.next [] next (All-nil Longest)));
    }
