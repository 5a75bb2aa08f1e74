use Rattle.determinize_regex.proofs.Common.{None, refl, Some}
use Rattle.std.proofs.lemmas.List.{take_rest}
use Rattle.determinize_lexer.proofs.LastToken.{drop_within, end_of_last_is}
use Rattle.determinize_lexer.proofs.lexer.rest.Goals as goal
use Rattle.determinize_lexer.proofs.lexer.rest.Goals.{in-None, in-Some}

pub returns : goal.returns
returns c = rw (take_rest c.args.text.now c.match-last.end) (elim c.match-last.branch [
  | in-Some w ↦ rw (
    w.end-is,
    w.min-end.ensures,
    drop_within w.in-Some.last.now.end c.args.text.now,
    end_of_last_is c.args.tokens.now (Some w.in-Some.last.now) w.in-Some.ensures.value,
  ) refl
  | in-None w ↦ rw (w.end-is, end_of_last_is c.args.tokens.now None w.in-None.ensures.value) refl
])
