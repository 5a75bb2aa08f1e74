use Rattle.determinize_syntax.proofs.Common.{[], false, only, ◌∷◌}
use Rattle.determinize_syntax.proofs.Characters.{has_one}
use Rattle.determinize_syntax.proofs.Classes.{kind_class}
use Rattle.determinize_syntax.proofs.parser.byte.Goals as goal

pub returns-then-is_ascii_alphabetic : goal.returns-then-is_ascii_alphabetic
returns-then-is_ascii_alphabetic c =
    let b = c.args.byte in (
      c.in_ok-class.field-0,
      c.of_class.ensures,
      kind_class c.args.flags false (only b) (record { start = b; end = b } ∷ []) c.in_ok-class.field-0
          (λ n small. has_one b n) c.in_ok-class.ensures,
    )
