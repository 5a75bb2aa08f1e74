use Rattle.determinize_syntax.proofs.Common.{◌∙◌, IsFlag, refl, sym, took}
use Rattle.determinize_syntax.proofs.flags.letter.Goals as goal

pub returns-clause-read : goal.returns-clause-read
returns-clause-read c =
    took (IsFlag c.args.seen.now c.args.flags c.args.on c.in-Some-set_flag.set)
    (c.pass.ensures c.in-Some.letter (sym c.peek.ensures ∙ c.in-Some.is)) (
      c.in-Some.letter,
      refl,
      sym c.contains.ensures.value ∙ c.if-contains.false,
      sym c.set_flag.ensures ∙ c.in-Some-set_flag.is,
    )
