use Rattle.determinize_start.proofs.Common.{arith, by_test, eqb-true, nat_eq, refl, ◌<◌}
use Rattle.determinize_start.proofs.kinds.Occurring.{custom_occurs, no_custom, other_occurs}
use Rattle.determinize_start.proofs.start.Start.occurs.Goals as goal

pub returns-then-terminator-ne10 : goal.returns-then-terminator-ne10
returns-then-terminator-ne10 c =
    let t = c.args.terminator in
    let below : t < 256 = omega (arith, c.ranges.terminator.fits) in
    rw c.in-CustomLineTerminator.is (
      λ ne. custom_occurs t below c.if-terminator-ne10.true (λ e. grind (arith, ne, e)),
      λ (p, _, kind). by_test (nat_eq t 13)
          (λ e. absurd ((no_custom p).1 (rw (eqb-true t 13 e) at kind)))
          (λ e. rw e refl),
    )

pub returns-in_default : goal.returns-in_default
returns-in_default c = (
  λ _. other_occurs c.args.terminator c.args.self c.in_default.not-CustomLineTerminator,
  λ _. refl,
)
