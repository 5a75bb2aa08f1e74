use Rattle.determinize_syntax.proofs.Common.{◌∙◌, encode_same, encode_utf8, itself, rest, sym}
use Rattle.determinize_syntax.proofs.Characters.{is_true}
use Rattle.determinize_syntax.proofs.Rules.{shorter_by_character}
use Rattle.determinize_syntax.proofs.bracket.wide.Goals as goal

pub returns-in-Some-clause-read : goal.returns-in-Some-clause-read
returns-in-Some-clause-read c =
    let read = c.in-Some.ensures.read in (
      encode_utf8 c.in-Some.character,
      read.1,
      (is_true c.args.flags.unicode c.if-not-flags.false, itself c.in-Some.character read.0),
    )

pub returns-in-Some-clause-progress : goal.returns-in-Some-clause-progress
returns-in-Some-clause-progress c =
    shorter_by_character c.in-Some.character (rest c.args.cursor.now)
    (rest c.take_wide.new.self) c.in-Some.ensures.read.1

pub returns-in-Some-clause-whole : goal.returns-in-Some-clause-whole
returns-in-Some-clause-whole c d u unicode is e =
    encode_same c.in-Some.character d (rest c.take_wide.new.self) u (sym c.in-Some.ensures.read.1 ∙ e)
