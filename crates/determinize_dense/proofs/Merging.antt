-- The table of the blocks of a grouping of rows.
-- Main statements: merged-dfa, merged-is, merged-least, merged-push.
-- Used by: Ordering, `merged`, `minimize` and `merged_rows`.
-- Idea: the row of a block over a unit is the block of the row of its member, and so along units.
use Rattle.determinize_dense.proofs.Common.{All, All-head, All-nil, All-tail, AreMergedEntries, AreMergedLists}
use Rattle.determinize_dense.proofs.Common.{AreMergedRows, AreMergedStarts, arith, Blocks, Bool, column_of, DfaValue}
use Rattle.determinize_dense.proofs.Common.{div-mul-add, entry, IsDfa, IsDfaOf, IsFilled, IsGrouping, IsLeast, IsMerged}
use Rattle.determinize_dense.proofs.Common.{IsPartition, IsReachedRow, IsUnit, length, List, mod-mul-add, mul-add-lt}
use Rattle.determinize_dense.proofs.Common.{None, Option, patterns_at, refl, row_after, row_over, slice_index}
use Rattle.determinize_dense.proofs.Common.{slot_number, slot_number-below, slot_of, Some, start_kind_of, start_row}
use Rattle.determinize_dense.proofs.Common.{Table, [], ℕ, ◌*◌, ◌++◌, ◌+◌, ◌<◌, ◌∷◌, ◌≡◌}
use Rattle.determinize_dense.proofs.Least.{has_rows, row_after-below}
use Rattle.determinize_dense.proofs.Splitting.{few_blocks}
use Rattle.determinize_dense.proofs.Splitting.{pushed}

-- a DFA with other rows
abbrev pub with_rows : DfaValue → List ℕ → List ℕ → List (List ℕ) → DfaValue
with_rows v next starts lists =
    record v { table = record v.table { next = next; starts = starts; patterns = lists } }

module _ {v : DfaValue} (is : IsDfa v) {p : Blocks} (part : IsGrouping v.table p) {next starts : List ℕ}
    {lists : List (List ℕ)} (rows : AreMergedRows v.table p next) (firsts : AreMergedStarts v.table p starts)
    (listed : AreMergedLists v.table p lists) where
  abbrev d : Table
  d = v.table

  abbrev e : Table
  e = (with_rows v next starts lists).table

  -- the block of a row, and the member of a block
  abbrev block : ℕ → ℕ
  block r = slice_index p.numbers r

  abbrev member : ℕ → ℕ
  member b = slice_index p.members b

  block-below : (r : ℕ) → r < length d.patterns → block r < length p.members
  block-below r h = part.blocks.within r (omega arith)

  member-below : (b : ℕ) → b < length p.members → member b < length d.patterns
  member-below b h = omega (arith, part.blocks.rows b h)

  same_column : (u : Option ℕ) → column_of e u ≡ column_of d u
  same_column None = refl
  same_column (Some byte) = refl

  -- the row of a block lists what each of its rows lists
  block-lists : (r : ℕ) → r < length d.patterns → patterns_at e (block r) ≡ patterns_at d r
  block-lists r h = grind (arith, listed.rows, part.patterns, part.blocks.own, member-below, block-below)

  -- an entry of the row of a block
  entry-merged : (b c : ℕ) → b < length p.members → c < v.table.class_count + 1
      → entry e b c ≡ block (entry d (member b) c)
  entry-merged b c h l =
      let columns : ℕ = v.table.class_count + 1 in
      let inside = mul-add-lt b columns c (length p.members) h l in
      grind (arith, div-mul-add b columns c l, mod-mul-add b columns c l, inside, rows.entries (b * columns + c))

  -- the row over a unit of a block
  over-block : (b : ℕ) (u : Option ℕ) → b < length p.members → IsUnit u
      → row_over e b u ≡ block (row_over d (member b) u)
  over-block b u h unit = rw (same_column u) (entry-merged b (column_of d u) h (is.table.column u unit))

  block-over : (r : ℕ) (u : Option ℕ) → r < length d.patterns → IsUnit u
      → row_over e (block r) u ≡ block (row_over d r u)
  block-over r u h unit =
      grind (arith, over-block, part.stable, part.blocks.own, member-below, block-below, is.table.column)

  -- the row after units of a block
  block-after : (us : List (Option ℕ)) (r : ℕ) → r < length d.patterns → All IsUnit us
      → row_after e (block r) us ≡ block (row_after d r us)
  block-after [] r h all = refl
  block-after (u ∷ us) r h all =
      let unit = All-head IsUnit u us all in
      rw (block-over r u h unit)
      (block-after us (row_over d r u) (is.table.within r u h unit) (All-tail IsUnit u us all))

  -- the block of the row after a start and units
  block-from : (anchored : Bool) (q : Option ℕ) (us : List (Option ℕ)) → IsUnit q → All IsUnit us
      → row_after e (start_row v.nfa e anchored q) us ≡ block (row_after d (start_row v.nfa d anchored q) us)
  block-from anchored q us h all =
      let slot = slot_of anchored (start_kind_of v.nfa.terminator q) in
      rw (firsts.blocks (slot_number slot) (slot_number-below slot))
      (block-after us (start_row v.nfa d anchored q) ((has_rows v is).starts anchored q h) all)

  tells : IsDfaOf v.nfa v.kind e
  tells anchored q us h all =
      let start = (has_rows v is).starts anchored q h in
      let below = row_after-below v.nfa d (has_rows v is) us (start_row v.nfa d anchored q) start all in
      rw (block-from anchored q us h all, block-lists (row_after d (start_row v.nfa d anchored q) us) below)
      (is.tells anchored q us h all)

  -- what a block lists after units
  lists-after : (b : ℕ) (us : List (Option ℕ)) → b < length p.members → All IsUnit us
      → patterns_at e (row_after e b us) ≡ patterns_at d (row_after d (member b) us)
  lists-after b us h all =
      let below = row_after-below v.nfa d (has_rows v is) us (member b) in
      grind (arith, block-after us (member b), block-lists, part.blocks.own, member-below, below)

  -- no match follows row 0
  none-after : (rest : List (Option ℕ)) → All IsUnit rest → patterns_at e (row_after e 0 rest) ≡ []
  none-after rest all = rw (lists-after 0 rest part.blocks.some all, part.blocks.first) (is.dead rest all)

  reached : (b : ℕ) → b < length e.patterns → IsReachedRow v.nfa e b
  reached b h = grind (arith, is.reached (member b), member-below, block-from, part.blocks.own)

  filled : IsFilled e
  filled =
      let are = is.table in
      grind (
        arith,
        listed.count,
        rows.size,
        firsts.blocks,
        block-below,
        member-below,
        same_column,
        over-block,
        few_blocks part.blocks,
        are.units,
        are.column,
        are.within,
        are.first,
      )

  pub merged-dfa : IsDfa (with_rows v next starts lists)
  merged-dfa = record {
    accepted = is.accepted;
    classes = is.classes;
    table = filled;
    tells = tells;
    reached = reached;
    dead = none-after;
  }

  pub merged-is : IsMerged v p (with_rows v next starts lists)
  merged-is = grind (arith, tells, none-after [] (All-nil IsUnit), reached, lists-after, listed.rows, listed.count)

module _ (v w : DfaValue) (p : Blocks) (part : IsPartition v.table p) (is : IsMerged v p w) where
  -- the blocks of a partition are the fewest rows
  pub merged-least : IsLeast w.nfa w.table
  merged-least = grind (arith, part.blocks.rows, part.blocks.own, part.apart, is.apart, is.reached)

-- one entry more of the table of the blocks
pub merged-push : (d : Table) (p : Blocks) (next : List ℕ) (row column : ℕ) {more : List ℕ} {to : ℕ}
    → more ≡ next ++ to ∷ []
    → AreMergedEntries d p next → length next ≡ row * (d.class_count + 1) + column → column < d.class_count + 1
    → to ≡ slice_index p.numbers (entry d (slice_index p.members row) column) → AreMergedEntries d p more
merged-push d p next row column more_is entries size inside to_is =
    let row_is = div-mul-add row (d.class_count + 1) column inside in
    let column_is = mod-mul-add row (d.class_count + 1) column inside in
    rw more_is (grind (arith, pushed, row_is, column_is))
