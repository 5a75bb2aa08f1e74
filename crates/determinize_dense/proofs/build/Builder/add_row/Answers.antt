use Rattle.determinize_dense.proofs.Common.{arith, columns_of, IfSome_then, length, length_push, rules, ◌*◌, ◌+◌, ◌<◌}
use Rattle.determinize_dense.proofs.Common.{◌∙◌, ◌≡◌}
use Rattle.determinize_dense.proofs.Building.{base-stays, building-entry, changes-stay, dead-ids, more-before, err-as, stays-more, stays-next, stays-same}
use Rattle.determinize_dense.proofs.build.Builder.add_row.Goals.{In_ok-push}
use Rattle.determinize_dense.proofs.build.Builder.add_row.Goals as goal

pub returns-in_err-entry-clause-many : goal.returns-in_err-entry-clause-many
returns-in_err-entry-clause-many g c = λ same.
    more-before c.loop-column.invariant.stays (c.in_err-entry.ensures.many (err-as same (search rules)))

-- where the next entry is
count : (g : _) (c : In_ok-push g) → length c.self-in-loop-column.inside.next.items
    ≡ c.args.row * columns_of c.self-in-loop-column.inside.classes + c.loop-column.column
count g c =
    let now : length c.entry.new.self.next ≡ c.args.row * columns_of c.entry.new.self.classes + c.loop-column.column =
    rw (c.in_ok-entry.ensures.next, c.in_ok-entry.ensures.stays.classes) c.loop-column.invariant.count in
    rw (← c.self-in-loop-column.view_is) at now

pub invariant_of-self-in-loop-column : goal.invariant_of-self-in-loop-column
invariant_of-self-in-loop-column g c =
    let classes = rw (← c.self.view_is)
    at (c.in_ok-entry.ensures.stays.classes ∙ c.loop-column.invariant.stays.classes) in
    let inside : c.loop-column.column < columns_of c.entry.new.self.classes =
    rw classes (rw c.alphabet_len-column-end.ensures.count at c.loop-column-test.true) in
    rw c.in_ok-push.ensures.items (building-entry _ c.self-in-loop-column.invariant c.args.row c.loop-column.column
    c.in_ok-entry.entry (count g (goal.at.invariant_of-self-in-loop-column g c).In_ok-push)
    (rw (← c.self-in-loop-column.view_is) at inside)
    (rw (← c.self-in-loop-column.view_is) at c.in_ok-entry.ensures.at))

pub loop-column-preserved : goal.loop-column-preserved
loop-column-preserved g c =
    let longer = c.loop-column.invariant.stays.longer in
    let room : c.args.row < length c.loop-column.self.values = omega (arith, c.requires.row, longer) in
    let more : length c.push.new.self.items ≡ length c.self-in-loop-column.inside.next.items + 1 =
    rw c.in_ok-push.ensures.items (length_push c.self-in-loop-column.inside.next.items c.in_ok-entry.entry) in
    let over = stays-next c.push.new.self.items (rw (← c.self-in-loop-column.view_is) at c.in_ok-entry.ensures.stays) in
    record {
      stays = stays-more c.loop-column.invariant.stays over;
      count = omega (arith, more, count g (goal.at.loop-column-preserved g c).In_ok-push);
      base = IfSome_then c.base-base.result c.loop-column.invariant.base
          (λ base is. base-stays base.further.now over room is);
      changes = changes-stay _ over room c.loop-column.invariant.changes;
    }

pub base-base-requires-clause-dead : goal.base-base-requires-clause-dead
base-base-requires-clause-dead g c = rw (← c.self.view_is) (dead-ids c.self.invariant)

pub list_ids-requires : goal.list_ids-requires
list_ids-requires g c = c.requires.row

pub base-base-requires-clause-ids : goal.base-base-requires-clause-ids
base-base-requires-clause-ids g c = rw c.as_slice.ensures.value c.in_ok-listed.ensures.ids

pub base-base-requires-clause-usual : goal.base-base-requires-clause-usual
base-base-requires-clause-usual g c = c.requires.usual

pub loop-column-init : goal.loop-column-init
loop-column-init g c = record {
  stays = stays-same c.args.self.now;
  count = omega (arith, c.requires.whole);
  base = c.base-base.ensures;
  changes = c.changes-changes.ensures;
}

pub entry-requires : goal.entry-requires
entry-requires g c = record {
  row = omega (arith, c.requires.row, c.loop-column.invariant.stays.longer);
  column = rw (c.loop-column.invariant.stays.classes, ← c.self.view_is, ← c.alphabet_len-column-end.ensures.count)
      c.loop-column-test.true;
  base = c.loop-column.invariant.base;
  changes = c.loop-column.invariant.changes;
  entry = c.loop-column.invariant.count;
}

pub returns-clause-stays : goal.returns-clause-stays
returns-clause-stays g c = c.loop-column.invariant.stays
