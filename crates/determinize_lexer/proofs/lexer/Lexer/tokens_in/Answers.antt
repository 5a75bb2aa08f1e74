use Rattle.determinize_regex.proofs.Common.{IfOk-weaker, refl}
use Rattle.determinize_lexer.proofs.TokensOfPatterns.{tokens_of}
use Rattle.determinize_lexer.proofs.lexer.Lexer.tokens_in.Goals as goal

pub returns : goal.returns
returns g c =
    let is = c.self.invariant in
    rw (← c.self.view_is) (IfOk-weaker c.tokens.result _ _
    (λ found h. tokens_of _ _ is.means _ found.items h) (c.tokens.ensures _ refl))
