use Rattle.std.proofs.Common.{rules, ◌≡◌, ap, map, ◌∙◌}
use Rattle.std.specs.Prelude.{None}
use Rattle.std.proofs.lemmas.List.{take_all}
use Rattle.determinize_below.specs.Semantics.{between}
use Rattle.determinize_below.specs.declared.search.MatchKind.TheVariants as kinds
use Rattle.determinize_core.specs.Chain.{chain}
use Rattle.determinize_core.specs.LastMatch.{last_match}
use Rattle.determinize_uses.proofs.search.matches.Goals as goal

pub returns : goal.returns
returns g c =
    let start : c.start_anchored-start.result ≡ c.args.nfa.now.start_anchored = search rules in
    c.loop-text.invariant.found
    ∙ ap (λ texts. map (λ text. last_match (chain c.args.nfa.now kinds.LeftmostFirst c.start_anchored-start.result
    (between None text.now None))) texts) (take_all c.loop-text.text-index c.args.texts.now c.loop-text-test.false)
    ∙ ap (λ s. map (λ text. last_match (chain c.args.nfa.now kinds.LeftmostFirst s (between None text.now None)))
    c.args.texts.now) start
