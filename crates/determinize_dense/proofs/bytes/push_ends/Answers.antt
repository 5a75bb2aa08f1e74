use Rattle.determinize_dense.proofs.Common.{append_assoc, arith, drop_more, get_or, length, length-append, length-map}
use Rattle.determinize_dense.proofs.Common.{map, rules, [], ◌+◌, ◌<◌, ◌≡◌}
use Rattle.determinize_dense.proofs.Lists.{items-at}
use Rattle.determinize_dense.proofs.bytes.push_ends.Goals as goal

pub loop-list-preserved : goal.loop-list-preserved
loop-list-preserved g c =
    let lists = map (λ list. list.items) c.args.lists.now in
    let count = length-map c.args.lists.now (λ list. list.items) in
    let list = items-at (λ list. list.items) c.args.lists.now c.loop-list-test.true c.list-item.is in
    let size : c.len.result ≡ length (get_or lists c.loop-list.list-index []) = rw (← list) (search rules) in
    let end : c.saturating_add-end.result ≡ c.loop-list.end + length (get_or lists c.loop-list.list-index []) =
    omega (arith, c.saturating_add-end.ensures, c.if-end.false) in
    let inside : c.loop-list.list-index < length lists = omega (arith, c.loop-list-test.true) in
    let here = drop_more lists c.loop-list.list-index [] inside in record {
      small = omega (arith, c.if-end.false);
      sum = omega (arith, end, rw (here, length-append) at c.loop-list.invariant.sum);
      rest = rw (c.in_ok-push_word.ensures, append_assoc, end) (rw here at c.loop-list.invariant.rest);
    }
