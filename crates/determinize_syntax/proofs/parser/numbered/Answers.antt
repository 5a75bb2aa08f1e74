use Rattle.determinize_syntax.proofs.Common.{◌∙◌, ◌∷◌, IsOneOf, [], ap, false, folded, meaning, ok_then, only}
use Rattle.determinize_syntax.proofs.Characters.{has_one, one_of_listed}
use Rattle.determinize_syntax.proofs.parser.numbered.Goals as goal

pub returns : goal.returns
returns c =
    let f = c.args.flags in
    let b = c.args.number in
    ok_then _ (λ p. IsOneOf f.unicode (folded f (only b)) (meaning p)) c.one_of.result c.one_of.ensures
    (λ p h. one_of_listed f false (only b) (record { start = c.from-character.result; end = c.from-character.result }
    ∷ []) (meaning p) (λ n small. has_one c.from-character.result n ∙ ap (λ k. only k n) c.from-character.ensures) h)
