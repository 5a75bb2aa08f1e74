use Rattle.determinize_regex.proofs.Common.{arith, FoldsTo-push, next_of, None, of_calls, refl, take_all, take_rest, [], ◌++◌, ◌∙◌, ◌∷◌}
use Rattle.determinize_regex.proofs.Splitting.{last_of_each, next_left, one_more_match, one_of_each}
use Rattle.determinize_regex.proofs.split.replace_each.Goals as goal

pub loop-next-init : goal.loop-next-init
loop-next-init g c = record {
  callable = search of_calls;
  left = record { inside = omega arith; before = None; apart = c.requires.apart };
  so_far = ([], refl, refl, λ more. rw c.new-new.ensures.items refl);
}

pub loop-next-preserved : goal.loop-next-preserved
loop-next-preserved g c =
    let next = next_of c.args.found.now c.loop-next.next-index c.next-item.result c.loop-next-test.true c.next-item.is
    in
    let (each, matches, calls, so_far) = c.loop-next.invariant.so_far in
    record {
      callable = search of_calls;
      left = next_left _ _ _ _ _ next c.loop-next.invariant.left;
      so_far = (
        each ++ (c.next-item.result, c.call.result) ∷ [],
        one_more_match each (c.next-item.result, c.call.result) c.args.found.now c.loop-next.next-index
            c.loop-next-test.true c.next-item.is matches,
        FoldsTo-push _ c.args.replacement each c.loop-next.call (c.next-item.result, c.call.result) c.call.new.self
            calls (_, refl, c.call.ensures),
        one_of_each c.args.text.now c.loop-next.new.items c.extend_from_slice.new.self.items
            c.extend_from_slice-in-loop-next.new.self.items c.loop-next.at each (c.next-item.result, c.call.result)
            c.in_ok-extend_from_slice.ensures.items c.in_ok-extend_from_slice-2.ensures.items so_far,
      );
    }

pub returns : goal.returns
returns g c =
    let (each, matches, calls, so_far) = c.loop-next.invariant.so_far in
    record {
      each = each;
      last = c.loop-next.call;
      calls = calls;
      matches = matches ∙ take_all c.loop-next.next-index c.args.found.now c.loop-next-test.false;
      is = last_of_each c.args.text.now c.loop-next.new.items _ c.loop-next.at each
          (rw (take_rest c.args.text.now c.loop-next.at) at c.in_ok-extend_from_slice-3.ensures.items) so_far;
    }
