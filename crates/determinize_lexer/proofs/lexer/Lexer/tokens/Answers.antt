use Rattle.determinize_lexer.proofs.lexer.Lexer.tokens.Goals as goal

pub returns : goal.returns
returns g c = rw (← c.new.ensures.value) c.tokens_in.ensures
