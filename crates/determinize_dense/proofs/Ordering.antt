-- Rows in the order of their ranks, one row more at a time, and the table of these rows.
-- Main statements: ordering-skip, ordering-push, ordering-by_rank, grouping-by_rank, in-order, arranged-ordered.
-- Used by: `by_rank` and `arranged`.
-- Idea: a rank and a number within it are a turn, blocks are numbered in the order of turns, and each has one row.
use Rattle.determinize_dense.proofs.Common.{AreBlocks, AreTogether, arith, Blocks, DfaValue, get_or-set_at}
use Rattle.determinize_dense.proofs.Common.{get_or-set_other, IsByRank, IsGrouping, IsLastUpto, IsLeast, IsMerged}
use Rattle.determinize_dense.proofs.Common.{IsOrdered, IsOrdering, IsRank, length, length-set, List, mul-add-lt}
use Rattle.determinize_dense.proofs.Common.{mul-le-mul_right, offset_of, same_from_place, slice_index, slice_set}
use Rattle.determinize_dense.proofs.Common.{turn_of, [], ℕ, ◌*◌, ◌++◌, ◌+◌, ◌<◌, ◌∙◌, ◌∷◌, ◌≡◌, ◌≤◌}
use Rattle.std.proofs.Common.{All}
use Rattle.determinize_dense.proofs.Pigeonhole.{pigeonhole}
use Rattle.determinize_dense.proofs.Splitting.{few_blocks, pushed}
use Rattle.determinize_dense.proofs.Merging.{merged-least}
use Rattle.determinize_dense.specs.Private.Order.{AreRanks, IsInOrder}

module _ {ranks numbers members : List ℕ} (rank row : ℕ)
    (is : IsOrdering ranks (rank * length ranks + row) numbers members) (h : row < length ranks) where
  -- a row whose turn is this one
  turn-is : (r : ℕ) → r < length ranks → turn_of ranks r ≡ rank * length ranks + row
      → (slice_index ranks r ≡ rank) × (r ≡ row)
  turn-is r l e = same_from_place (slice_index ranks r) r rank row (length ranks) l h e

  -- the row has another rank
  pub ordering-skip : (slice_index ranks row ≡ rank → ⊥)
      → IsOrdering ranks (rank * length ranks + (row + 1)) numbers members
  ordering-skip other = grind (arith, turn-is)

  -- or this one, and so the next block
  pub ordering-push : slice_index ranks row ≡ rank → IsOrdering ranks (rank * length ranks + (row + 1))
      (slice_set numbers row (length members)) (members ++ row ∷ [])
  ordering-push same = record {
    count = grind (arith, length-set);
    rows = grind (arith, pushed);
    before = grind (arith, pushed);
    own = grind (arith, pushed, get_or-set_at, get_or-set_other);
    back = λ r l before. grind (arith, pushed, get_or-set_at, get_or-set_other, turn-is r l);
    ascend = λ b c l m. grind (arith, pushed, is.ascend b c l, is.before b);
  }

-- all rows have their blocks
module _ {ranks numbers members : List ℕ} (is : IsOrdering ranks (4 * length ranks) numbers members)
    (few : All (λ rank. rank < 4) ranks) (some : 0 < length ranks) (first : slice_index ranks 0 ≡ 0) where
  placed : (r : ℕ) → r < length ranks
      → (slice_index numbers r < length members) × (slice_index members (slice_index numbers r) ≡ r)
  placed r h = is.back r h (omega (arith, mul-add-lt (slice_index ranks r) (length ranks) r 4 (few r 0 h) h))

  pub ordering-blocks : AreBlocks record { numbers = numbers; members = members }
  ordering-blocks =
      let first_turn : slice_index numbers 0 ≡ 0 = grind (arith, placed 0 some, is.ascend 0 (slice_index numbers 0)) in
      grind (arith, placed)

  pub ordering-by_rank : IsByRank ranks record { numbers = numbers; members = members }
  ordering-by_rank =
      let upto : length members ≤ length numbers = few_blocks ordering-blocks in
      let more : length ranks ≤ length members = pigeonhole (length ranks) (length members)
      (λ r. slice_index numbers r) (λ r h. (placed r h).0) (λ r s h l e. grind (arith, placed r h, placed s l)) in
      record {
        blocks = ordering-blocks;
        count = is.count;
        rows = omega arith;
        back = λ r h. (placed r h).1;
        ascend = λ b c h l. grind (arith, is.rows c l, is.ascend b c h l);
      }

module _ (v : DfaValue) {ranks : List ℕ} {p : Blocks} (are : AreRanks v.table ranks) (is : IsByRank ranks p) where
  -- each block has one row
  same_row : (r s : ℕ) → r < length v.table.patterns → s < length v.table.patterns → AreTogether p r s → r ≡ s
  same_row r s h l e = grind (arith, is.back r, is.back s)

  pub grouping-by_rank : IsGrouping v.table p
  grouping-by_rank = grind (arith, same_row)

  module _ {w : DfaValue} (m : IsMerged v p w) where
    arranged-least : IsLeast v.nfa v.table → IsLeast w.nfa w.table
    arranged-least least = let same = same_row in merged-least v w p (record {
      blocks = is.blocks;
      count = is.count ∙ are.count;
      patterns = grind (arith, same);
      apart = grind (arith, least.apart);
    }) m

    pub in-order : IsInOrder v w
    in-order = record {
      nfa = m.nfa;
      kind = m.kind;
      means = m.means;
      rows = m.count ∙ is.rows ∙ are.count;
      least = arranged-least;
    }

    -- only block 0 has row 0
    later : (b : ℕ) → 0 < b → b < length p.members → 0 < slice_index p.members b
    later b some h = grind (arith, is.blocks.own b h, is.blocks.own 0)

    -- the rank of the row of a block
    rank-is : (b : ℕ) → b < length p.members
        → IsRank v.table (slice_index p.members b) (slice_index ranks (slice_index p.members b))
    rank-is b h = are.each _ (grind (arith, is.blocks.rows b))

    pub arranged-ordered : {first second : ℕ} → IsLastUpto ranks p 1 first → IsLastUpto ranks p 2 second
        → IsOrdered w.table (offset_of w.table first) (offset_of w.table second)
    arranged-ordered {first} {second} lists scans = record {
      dead = m.dead;
      some = λ b some h l.
          let i : b < length p.members = omega arith in
          let upto : b ≤ first = grind arith in
          rw (m.patterns b i) ((rank-is b i).some (later b some i) (lists.upto b upto));
      none = λ b h l.
          let i : b < length p.members = omega arith in
          let past : first < b = grind arith in
          rw (m.patterns b i) ((rank-is b i).none (lists.past b past i));
      more = mul-le-mul_right (w.table.class_count + 1) (grind (arith, lists.upto first, scans.past first));
    }
