use Rattle.determinize_below.proofs.Common.{◌≡◌, arith, refl}
use Rattle.determinize_below.proofs.nfas.SortedBytes.{sorted_all, sorted_held, sorted_new}
use Rattle.determinize_below.proofs.nfa.NFA.byte_classes.Goals as goal

pub loop-byte-preserved-then-first-byte : goal.loop-byte-preserved-then-first-byte
loop-byte-preserved-then-first-byte g c =
    sorted_held _ _ _ _ _ c.loop-byte.invariant c.loop-byte-test.true _ c.from-first.result c.if-first-byte.true refl
    (rw c.from-first.ensures (c.least_bytes-least.ensures.least.alike c.loop-byte.byte c.loop-byte-test.true))

pub loop-byte-preserved : goal.loop-byte-preserved
loop-byte-preserved g c =
    sorted_new _ _ _ _ _ c.loop-byte.invariant c.loop-byte-test.true (λ k l a. absurd (omega (
      arith,
      l,
      c.if-first-byte.false,
      c.from-first.ensures,
      c.least_bytes-least.ensures.least.first c.loop-byte.byte k c.loop-byte-test.true (omega (arith, l)) a,
    )))

pub returns : goal.returns
returns g c =
    let all : c.loop-byte.byte ≡ 256 = omega (arith, c.loop-byte-test.false, c.loop-byte.auto.byte-end) in
    let sorted = rw all at c.loop-byte.invariant in
    record {
      classes = rw c.from_parts.ensures record {
        alike = λ x y h k. (sorted.same x h y k).0;
        coarsest = λ x y h k. (sorted.same x h y k).1;
      };
      accepted = c.least_bytes-least.ensures.accepted;
    }

pub from_parts-requires-clause-sound : goal.from_parts-requires-clause-sound
from_parts-requires-clause-sound g c =
    sorted_all _ _ _ _ _ c.loop-byte.invariant (omega (arith, c.loop-byte-test.false, c.loop-byte.auto.byte-end))
