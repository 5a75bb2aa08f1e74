use Rattle.determinize_dense.proofs.Common.{AreMergedLists, AreMergedStarts, arith, dfa_value, get_or-set_at}
use Rattle.determinize_dense.proofs.Common.{get_or-set_other, length-map, length-set, map, map_push}
use Rattle.determinize_dense.proofs.Common.{same_from_all_zip, ◌≡◌}
use Rattle.determinize_dense.proofs.Lists.{items-at}
use Rattle.determinize_dense.proofs.Merging.{merged-dfa, merged-is, with_rows}
use Rattle.determinize_dense.proofs.Splitting.{few_blocks, pushed}
use Rattle.determinize_dense.proofs.rows.Rows.merged.Goals.{In_ok-next}
use Rattle.determinize_dense.proofs.rows.Rows.merged.Goals as goal

pub block-requires : goal.block-requires
block-requires g c = rw (c.requires.count, ← c.self.view_is)
    (c.self.invariant.table.first c.loop-number.number c.loop-number-test.true)

pub overflow_cast-starts : goal.overflow_cast-starts
overflow_cast-starts g c =
    omega (arith, few_blocks c.requires.blocks, (rw c.self.view_is at c.self.invariant).table.few)

pub loop-number-preserved : goal.loop-number-preserved
loop-number-preserved g c = rw (← c.self.view_is) (grind (arith, length-set, get_or-set_at, get_or-set_other))

pub loop-row-preserved : goal.loop-row-preserved
loop-row-preserved g c =
    let copy = same_from_all_zip _ c.index.result.now.items c.in_ok-clone.field-0.items c.in_ok-clone.ensures.cases.0
    (λ x y e. e) in
    rw (← c.self.view_is)
    (grind (arith, pushed, map_push, length-map, copy, items-at (λ list. list.items) c.self.inside.patterns.items))

-- the value of the result
value-is : (g : _) (c : In_ok-next g) → dfa_value (g.R.AsNfa.nfa c.self.inside.nfa) c.self.inside.match_kind
    c.self.inside.classes c.in_ok-next.next.items c.loop-number.starts
    (map (λ list. list.items) c.loop-row.patterns.items)
    ≡ with_rows c.args.self c.in_ok-next.next.items c.loop-number.starts
    (map (λ list. list.items) c.loop-row.patterns.items)
value-is g c = rw (← c.self.view_is)

starts-are : (g : _) (c : In_ok-next g)
    → AreMergedStarts c.args.self.table c.args.parts.now c.loop-number.starts
starts-are g c = record { count = c.loop-number.invariant.count; blocks = grind arith }

lists-are : (g : _) (c : In_ok-next g) → AreMergedLists c.args.self.table c.args.parts.now
    (map (λ list. list.items) c.loop-row.patterns.items)
lists-are g c = record { count = grind (arith, length-map); rows = c.loop-row.invariant.rows }

pub invariant_of-result : goal.invariant_of-result
invariant_of-result g c =
    let at = (goal.at.invariant_of-result g c).In_ok-next in
    rw (value-is g at) (merged-dfa (rw c.self.view_is at c.self.invariant) c.requires c.in_ok-next.ensures
    (starts-are g at) (lists-are g at))

pub returns : goal.returns
returns g c =
    let at = (goal.at.returns g c).In_ok-next in
    rw (value-is g at) (merged-is (rw c.self.view_is at c.self.invariant) c.requires c.in_ok-next.ensures
    (starts-are g at) (lists-are g at))

pub loop-number-init : goal.loop-number-init
loop-number-init g c = record {
  count = c.self.invariant.table.starts;
  below = omega arith;
  merged = λ i h. absurd (omega (arith, h));
}

pub merged_rows-requires : goal.merged_rows-requires
merged_rows-requires g c = c.requires
