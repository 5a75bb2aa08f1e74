use Rattle.determinize_dense.proofs.Common.{AreBlocks, arith, get, get_or-set_other, get_or_default_zero, IsSplitting}
use Rattle.determinize_dense.proofs.Common.{length, length-set, refl, rules, same_pair, slice_index, take, take_all}
use Rattle.determinize_dense.proofs.Common.{take_more, ◌<◌, ◌∙◌, ◌≡◌, ◌≤◌}
use Rattle.determinize_dense.proofs.Splitting.{row-kept, row-split, splitting-blocks, splitting-none, splitting-split}
use Rattle.determinize_dense.proofs.partition.Partition.split.Goals.{After-index-in-loop-row, After-loop-row}
use Rattle.determinize_dense.proofs.partition.Partition.split.Goals as goal
use Rattle.std.proofs.lemmas.List.{length-take-le, take_more_set}

module _ (g : _) (c : After-index-in-loop-row g) where
  are : AreBlocks c.args.self
  are = rw c.self.view_is at c.self.invariant

  room : c.loop-row.row < length c.args.self.numbers
  room = rw (← c.self.view_is) (omega arith)

  here : c.loop-row.row < length c.loop-row.blocks.items
  here = omega (arith, room)

  count : length (take c.loop-row.row c.loop-row.blocks.items) ≡ c.loop-row.row
  count = length-take-le c.loop-row.row c.loop-row.blocks.items (omega (arith, here))

  -- the block of the row, and its member
  read-is : c.index.result.now ≡ slice_index c.loop-row.blocks.items c.loop-row.row
  read-is = grind (arith, get_or_default_zero)

  block-is : c.index.result.now ≡ slice_index c.args.self.numbers c.loop-row.row
  block-is = grind (arith, read-is)

  member-is : c.index-in-loop-row.result.now ≡ slice_index c.args.self.members c.index.result.now
  member-is = grind (arith, get_or_default_zero, are, block-is)

  member-below : c.index-in-loop-row.result.now < length c.args.values.now
  member-below = rw (member-is, block-is) (grind (arith, are, room))

pub loop-row-init : goal.loop-row-init
loop-row-init g c =
    let are = rw c.self.view_is at c.self.invariant in
    record {
      count = rw (← c.self.view_is) refl;
      below = search rules;
      rest = λ r h. rw (← c.self.view_is) refl;
      splitting = splitting-none are refl (rw (← c.self.view_is) refl) (λ q. search rules);
    }

pub index-requires-in-loop-row : goal.index-requires-in-loop-row
index-requires-in-loop-row g c =
    let are = rw c.self.view_is at c.self.invariant in
    let room : c.loop-row.row < length c.args.self.numbers = rw (← c.self.view_is) (omega arith) in
    grind (arith, get_or_default_zero, are, room)

pub bounds-values-index : goal.bounds-values-index
bounds-values-index g c = member-below g (goal.at.bounds-values-index g c).After-index-in-loop-row

pub offset_bounds-values-index : goal.offset_bounds-values-index
offset_bounds-values-index g c =
    omega (arith, member-below g (goal.at.offset_bounds-values-index g c).After-index-in-loop-row)

pub loop-row-preserved : goal.loop-row-preserved
loop-row-preserved g c =
    let at = (goal.at.loop-row-preserved g c).After-index-in-loop-row in
    let now = c.loop-row in
    elim c.if-value-values.branch [
      | goal.then-value-values+in_ok-blocks w ↦ rw (w.members-is, w.numbers-is, w.blocks-is) record {
        count = grind (arith, length-set);
        below = grind (arith, length-set, here g at);
        rest = λ r h. get_or-set_other _ now.row r _ 0 (omega arith) ∙ now.invariant.rest r (omega arith);
        splitting = rw (take_more_set now.blocks.items now.row w.in_ok-blocks.field-0 (here g at)) (row-split
            (are g at) now.invariant.splitting (count g at) (room g at) (block-is g at) (member-is g at)
            w.if-value-values.true w.in_ok-blocks.ensures);
      }
      | goal.else-value-values w ↦ rw (w.members-is, w.numbers-is, w.blocks-is) record {
        count = now.invariant.count;
        below = omega (arith, here g at);
        rest = λ r h. now.invariant.rest r (omega arith);
        splitting = rw (take_more now.blocks.items now.row 0 (here g at), ← read-is g at) (row-kept (are g at)
            now.invariant.splitting (count g at) (room g at) (block-is g at) (member-is g at) w.if-value-values.false);
      }
    ]

module _ (g : _) (c : After-loop-row g) where
  all : length c.args.self.numbers ≤ c.loop-row.row
  all = rw (← c.self.view_is) (omega arith)

  splitting : IsSplitting c.args.self c.args.values.now c.loop-row.blocks.items c.loop-row.members.items
      (get same_pair c.loop-row.numbers)
  splitting = rw (take_all c.loop-row.row c.loop-row.blocks.items (omega (arith, all)))
      at c.loop-row.invariant.splitting

pub invariant_of-result : goal.invariant_of-result
invariant_of-result g c = splitting-blocks (rw c.self.view_is at c.self.invariant) (splitting g c)
    c.loop-row.invariant.count

pub returns : goal.returns
returns g c = splitting-split (rw c.self.view_is at c.self.invariant) (splitting g (goal.at.returns g c).After-loop-row)
    c.loop-row.invariant.count
