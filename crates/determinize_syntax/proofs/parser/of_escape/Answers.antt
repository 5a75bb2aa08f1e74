use Rattle.determinize_syntax.proofs.Common.{character, meaning, not-true, ok_then}
use Rattle.determinize_syntax.specs.Spells.{asserted, escaped}
use Rattle.determinize_syntax.proofs.Escapes.{class_of, perl_class_of}
use Rattle.determinize_syntax.specs.Spells as spells
use Rattle.determinize_syntax.proofs.parser.of_escape.Goals as goal

pub returns-in-Byte : goal.returns-in-Byte
returns-in-Byte c = ok_then _ _ c.numbered.result c.numbered.ensures (λ p h t is.
    escaped c.args.flags c.in-Byte.escaped (meaning p) t (rw c.in-Byte.is at is) (rw c.in-Byte.is at c.requires) h)

pub returns-in-Wide : goal.returns-in-Wide
returns-in-Wide c = ok_then _ _ c.wide.result c.wide.ensures (λ p h t is.
    rw h (character c.args.flags c.in-Wide.character t (rw c.in-Wide.is at is) (rw c.in-Wide.is at c.requires)))

pub returns-in_ok-class-in-Class : goal.returns-in_ok-class-in-Class
returns-in_ok-class-in-Class c t is =
    let class = c.in_ok-class-in-Class.field-0 in
    let h = rw c.in-Class.is at is in
    let bytes = not-true c.args.flags.unicode (rw c.in-Class.is at c.requires) in
    rw h.2 (spells.class c.args.flags h.0 (class_of (c.in-Class.kind, c.in-Class.negated)) (meaning c.of_class.result)
    (rw h.1 at (perl_class_of h.0)) bytes (
      class,
      c.of_class.ensures,
      rw c.new.ensures at
          c.in_ok-class-in-Class.ensures,
    ))

pub returns-in-Look : goal.returns-in-Look
returns-in-Look c t is =
    let h = rw c.in-Look.is at is in
    rw (h.2, c.assertion.ensures) (asserted c.args.flags h.0 c.in-Look.look h.1 (rw c.in-Look.is at c.requires))
