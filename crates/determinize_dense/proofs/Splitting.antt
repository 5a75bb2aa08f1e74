-- How the blocks of a partition are split, one row at a time.
-- Main statements: few_blocks, row-kept, row-split, splitting-split.
-- Used by: Merging, Ordering, `split`, `len`, and the loops over rows.
-- Idea: a row stays in its block if it has the value of the member; else its block and value are a key of a new number.
use Rattle.determinize_dense.proofs.Common.{AreBlocks, AreEqual, arith, Blocks, by_cases, fun_ext, get_or_append_left}
use Rattle.determinize_dense.proofs.Common.{get_or_push, IsNumbered, IsSplit, IsSplitting, length, length_push, List}
use Rattle.determinize_dense.proofs.Common.{None, Option, pair_of, same_pair, slice_index, Some, [], ℕ, ◌++◌, ◌<◌, ◌∷◌}
use Rattle.determinize_dense.proofs.Common.{◌≡◌, ◌≤◌}
use Rattle.std.proofs.Common.{cond}
use Rattle.std.proofs.lemmas.Grind.{same_number_lists}
use Rattle.determinize_dense.proofs.Pigeonhole.{pigeonhole}

-- there are no more blocks than rows
pub few_blocks : {p : Blocks} → AreBlocks p → length p.members ≤ length p.numbers
few_blocks {p} are = pigeonhole (length p.members) (length p.numbers) (λ b. slice_index p.members b) are.rows
    (λ b c h k e. grind (arith, are.own b h, are.own c k))

-- an element of a list with one more
pub ruleset pushed = (get_or_push, get_or_append_left, length_push)

module _ {p : Blocks} {values : List ℕ} (are : AreBlocks p) where
  -- no row has its new block yet
  pub splitting-none : {numbers members : List ℕ} {find : ℕ × ℕ → Option ℕ} → numbers ≡ [] → members ≡ p.members
      → ((q : ℕ × ℕ) → find q ≡ None) → IsSplitting p values numbers members find
  splitting-none none kept empty = grind arith

  module _ {numbers members : List ℕ} {find : ℕ × ℕ → Option ℕ} (s : IsSplitting p values numbers members find) where
    -- a row more, whose pair has a block
    splitting-push : {number : ℕ} → number < length members
        → pair_of p values (slice_index members number) ≡ pair_of p values (length numbers)
        → IsSplitting p values (numbers ++ number ∷ []) members find
    splitting-push below same = grind (arith, pushed)

    -- a row that stays in its block
    pub row-kept : {row block member : ℕ} → length numbers ≡ row → row < length p.numbers
        → block ≡ slice_index p.numbers row → member ≡ slice_index p.members block → AreEqual values row member
        → IsSplitting p values (numbers ++ block ∷ []) members find
    row-kept count room block_is member_is same = grind (arith, pushed)

    -- a block more
    splitting-more : {row : ℕ} {next : ℕ × ℕ → Option ℕ} → row < length p.numbers
        → (AreEqual values row (slice_index p.members (slice_index p.numbers row)) → ⊥)
        → find (pair_of p values row) ≡ None
        → ((q : ℕ × ℕ) → next q ≡ cond (same_pair (pair_of p values row) q) (Some (length members)) (find q))
        → IsSplitting p values numbers (members ++ row ∷ []) next
    splitting-more {row} room differs none is = record {
      rows = grind (arith, pushed);
      more = grind (arith, pushed);
      old = grind (arith, pushed);
      within = grind (arith, pushed);
      pairs = grind (arith, pushed);
      found = λ q b e. grind (arith, pushed, is q, s.found q b);
      listed = grind (arith, pushed);
      apart = grind (arith, pushed);
    }

  -- a row that is split off
  pub row-split : {numbers members more : List ℕ} {find next : ℕ × ℕ → Option ℕ} {row block member number : ℕ}
      → IsSplitting p values numbers members find → length numbers ≡ row → row < length p.numbers
      → block ≡ slice_index p.numbers row → member ≡ slice_index p.members block → (AreEqual values row member → ⊥)
      → IsNumbered find next members more (block, slice_index values row) row number
      → IsSplitting p values (numbers ++ number ∷ []) more next
  row-split {numbers} {members} {next = next} {row} {block} {number = number} s count room block_is member_is apart n =
      by_cases n
      (λ known.
      let found = s.found (block, slice_index values row) number known.0 in
      rw (known.1, fun_ext known.2) (splitting-push s found.1 (grind (arith, found))))
      (λ new.
      let block_more : IsSplitting p values numbers (members ++ row ∷ []) next = splitting-more s room
      (rw (← block_is, ← member_is) apart) (rw (← block_is) new.0) (rw (← block_is, ← new.1) new.3) in
      rw new.2 (splitting-push block_more (grind (arith, pushed)) (grind (arith, pushed))))

  module _ {numbers members : List ℕ} {find : ℕ × ℕ → Option ℕ} (s : IsSplitting p values numbers members find)
      (all : length numbers ≡ length p.numbers) where
    -- members with one pair are one
    one_pair : (b c : ℕ) → b < length members → c < length members
        → pair_of p values (slice_index members b) ≡ pair_of p values (slice_index members c) → b ≡ c
    one_pair b c h k e = grind (arith, s.listed b, s.listed c, s.apart b, s.apart c)

    own : (b : ℕ) → b < length members → slice_index numbers (slice_index members b) ≡ b
    own b h = grind (arith, one_pair (slice_index numbers (slice_index members b)) b)

    -- the new blocks
    pub splitting-blocks : AreBlocks record { numbers = numbers; members = members }
    splitting-blocks = grind (arith, own)

    pub splitting-split : IsSplit values p record { numbers = numbers; members = members }
    splitting-split =
        let old = same_number_lists numbers p.numbers all in
        let kept = same_number_lists members p.members in
        grind (arith, splitting-blocks, one_pair, old, kept)
