use Rattle.determinize_regex.proofs.Common.{arith, drop_all, next_of, None, parts, refl, take_rest}
use Rattle.determinize_regex.proofs.Splitting.{last_part, next_left, one_part}
use Rattle.determinize_regex.proofs.split.split_at.Goals as goal

pub loop-next-init : goal.loop-next-init
loop-next-init g c = record {
  left = record { inside = omega arith; before = None; apart = c.requires };
  so_far = rw c.new-cut.ensures.items refl;
}

pub loop-next-preserved : goal.loop-next-preserved
loop-next-preserved g c =
    let next = next_of c.args.found.now c.loop-next.next-index c.next-item.result c.loop-next-test.true c.next-item.is
    in record {
      left = next_left _ _ _ _ _ next c.loop-next.invariant.left;
      so_far = one_part (λ part. part.now) c.args.text.now c.loop-next.cut.items c.push.new.self.items _ _ _
          c.next-item.result _ _ next refl c.in_ok-push.ensures.items c.loop-next.invariant.so_far;
    }

pub returns : goal.returns
returns g c =
    let none = drop_all c.loop-next.next-index c.args.found.now c.loop-next-test.false in
    last_part (λ part. part.now) c.args.text.now c.loop-next.cut.items c.push-2.new.self.items _
    (parts c.args.text.now 0 c.args.found.now) c.loop-next.at _ none (take_rest c.args.text.now c.loop-next.at)
    c.in_ok-push-2.ensures.items c.loop-next.invariant.so_far
