use Rattle.determinize_dense.proofs.Common.{append-nil, arith, concat, get_or_default_zero, length, length-map, map}
use Rattle.determinize_dense.proofs.Common.{MAX_ID, take, take_all, ◌<◌, ◌∙◌, ◌≤◌}
use Rattle.determinize_dense.proofs.Lists.{items-at}
use Rattle.determinize_dense.proofs.Writing.{id_more, list_more, word_more}
use Rattle.determinize_dense.proofs.bytes.push_lists.Goals as goal

pub loop-pattern-init : goal.loop-pattern-init
loop-pattern-init g c = record {
  items = c.as_slice-pattern-items.ensures.value
      ∙ items-at (λ list. list.items) c.args.lists.now c.loop-list-test.true c.list-item.is;
  written = rw append-nil c.loop-list.invariant.written;
  ids = rw append-nil c.loop-list.invariant.ids;
}

pub loop-pattern-preserved : goal.loop-pattern-preserved
loop-pattern-preserved g c =
    let so_far = c.loop-pattern.invariant in
    let test = c.loop-pattern-test.true in
    let done = concat (take c.loop-list.list-index (map (λ list. list.items) c.args.lists.now)) in
    let list = c.as_slice-pattern-items.result.now in
    let at = c.as_u32.ensures.value ∙ c.pattern-item.is
    ∙ get_or_default_zero list c.loop-pattern.pattern-index c.pattern-item.result test in record {
      items = so_far.items;
      written = rw c.in_ok-push_word.ensures (word_more done list test at c.args.bytes.now.items so_far.written);
      ids = id_more done list test at (λ id. id ≤ MAX_ID) so_far.ids
          (rw c.as_u32.ensures.value c.as_u32.ensures.small);
    }

pub loop-list-preserved : goal.loop-list-preserved
loop-list-preserved g c =
    let so_far = c.loop-pattern.invariant in
    let lists = map (λ list. list.items) c.args.lists.now in
    let count = length-map c.args.lists.now (λ list. list.items) in
    let inside : c.loop-list.list-index < length lists = omega (arith, c.loop-list-test.true) in
    let all = take_all c.loop-pattern.pattern-index c.as_slice-pattern-items.result.now c.loop-pattern-test.false in
    record {
      written = rw (list_more lists inside so_far.items) (rw all at so_far.written);
      ids = rw (list_more lists inside so_far.items) (rw all at so_far.ids);
    }

pub returns-clause-lists : goal.returns-clause-lists
returns-clause-lists g c = grind (arith, length-map, take_all)

pub returns-clause-ids : goal.returns-clause-ids
returns-clause-ids g c = grind (arith, length-map, take_all)
