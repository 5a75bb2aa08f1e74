-- Partitions of rows into blocks, and how their blocks are split.
use Rattle.std.specs.Prelude.{◌≡◌, ◌↔◌, ◌<◌, ◌≤◌, ◌+◌, ◌*◌, ◌++◌, ℕ, Bool, cond, ◌&&◌, Option, Some}
use Rattle.std.specs.Prelude.{None, List, [], ◌⊎◌, ◌∷◌, length, nat_eq, slice_index}

-- the number of the block of each row, and a row of each block
pub record Blocks : Type 0 where
  pub numbers : List ℕ
  pub members : List ℕ

-- each row is in a block and each block has its member, row 0 in block 0
pub record AreBlocks (p : Blocks) : Type 0 where
  pub within : (r : ℕ) → r < length p.numbers → slice_index p.numbers r < length p.members
  pub rows : (b : ℕ) → b < length p.members → slice_index p.members b < length p.numbers
  pub own : (b : ℕ) → b < length p.members → slice_index p.numbers (slice_index p.members b) ≡ b
  pub some : 0 < length p.members
  pub first : slice_index p.members 0 ≡ 0

-- two rows are in one block
abbrev pub AreTogether : Blocks → ℕ → ℕ → Type 0
AreTogether p r s = slice_index p.numbers r ≡ slice_index p.numbers s

-- two rows have one value
abbrev pub AreEqual : List ℕ → ℕ → ℕ → Type 0
AreEqual values r s = slice_index values r ≡ slice_index values s

-- rows stay together exactly if they have one value; if there are no more blocks, they are the same
pub record IsSplit (values : List ℕ) (p q : Blocks) : Type 0 where
  pub blocks : AreBlocks q
  pub count : length q.numbers ≡ length p.numbers
  pub together : (r s : ℕ) → r < length p.numbers → s < length p.numbers
      → AreTogether q r s ↔ (AreTogether p r s × AreEqual values r s)
  pub more : length p.members ≤ length q.members
  pub stays : length q.members ≡ length p.members → q ≡ p

abbrev pub same_pair : ℕ × ℕ → ℕ × ℕ → Bool
same_pair p q = nat_eq p.0 q.0 && nat_eq p.1 q.1

-- the pair has this number, or has it now as the next one, with this row
abbrev pub IsNumbered : (ℕ × ℕ → Option ℕ) → (ℕ × ℕ → Option ℕ) → List ℕ → List ℕ → ℕ × ℕ → ℕ
    → ℕ → Type 0
IsNumbered old new members more pair row number =
    ((old pair ≡ Some number) × (more ≡ members) × ((q : ℕ × ℕ) → new q ≡ old q))
    ⊎ ((old pair ≡ None) × (number ≡ length members) × (more ≡ members ++ row ∷ [])
    × ((q : ℕ × ℕ) → new q ≡ cond (same_pair pair q) (Some number) (old q)))

-- the block of a row and its value
abbrev pub pair_of : Blocks → List ℕ → ℕ → ℕ × ℕ
pair_of p values r = (slice_index p.numbers r, slice_index values r)

-- the first rows so far have their new blocks, which are found by pairs: the old blocks, and after
-- them those of pairs that the old members do not have
pub record IsSplitting (p : Blocks) (values numbers members : List ℕ) (find : ℕ × ℕ → Option ℕ)
    : Type 0 where
  pub rows : (b : ℕ) → b < length members → slice_index members b < length p.numbers
  pub more : length p.members ≤ length members
  pub old : (b : ℕ) → b < length p.members → slice_index members b ≡ slice_index p.members b
  pub within : (r : ℕ) → r < length numbers → slice_index numbers r < length members
  pub pairs : (r : ℕ) → r < length numbers
      → pair_of p values (slice_index members (slice_index numbers r)) ≡ pair_of p values r
  pub found : (q : ℕ × ℕ) (b : ℕ) → find q ≡ Some b → (length p.members ≤ b)
      × (b < length members) × (pair_of p values (slice_index members b) ≡ q)
  pub listed : (b : ℕ) → length p.members ≤ b → b < length members
      → find (pair_of p values (slice_index members b)) ≡ Some b
  pub apart : (b : ℕ) → length p.members ≤ b → b < length members
      → AreEqual values (slice_index members b)
      (slice_index p.members (slice_index p.numbers (slice_index members b))) → ⊥

-- the turn of a row: by its rank, and by its number within the rank
abbrev pub turn_of : List ℕ → ℕ → ℕ
turn_of ranks r = slice_index ranks r * length ranks + r

-- the rows whose turn came before this one have their blocks, in the order of their turns
pub record IsOrdering (ranks : List ℕ) (turn : ℕ) (numbers members : List ℕ) : Type 0 where
  pub count : length numbers ≡ length ranks
  pub rows : (b : ℕ) → b < length members → slice_index members b < length ranks
  pub before : (b : ℕ) → b < length members → turn_of ranks (slice_index members b) < turn
  pub own : (b : ℕ) → b < length members → slice_index numbers (slice_index members b) ≡ b
  pub back : (r : ℕ) → r < length ranks → turn_of ranks r < turn
      → (slice_index numbers r < length members)
      × (slice_index members (slice_index numbers r) ≡ r)
  pub ascend : (b c : ℕ) → b < c → c < length members
      → turn_of ranks (slice_index members b) < turn_of ranks (slice_index members c)

-- each row has its own block, and the ranks of the blocks ascend
pub record IsByRank (ranks : List ℕ) (p : Blocks) : Type 0 where
  pub blocks : AreBlocks p
  pub count : length p.numbers ≡ length ranks
  pub rows : length p.members ≡ length ranks
  pub back : (r : ℕ) → r < length ranks → slice_index p.members (slice_index p.numbers r) ≡ r
  pub ascend : (b c : ℕ) → b < c → c < length p.members
      → slice_index ranks (slice_index p.members b) ≤ slice_index ranks (slice_index p.members c)

-- the blocks up to this one, and only they, have at most this rank
pub record IsLastUpto (ranks : List ℕ) (p : Blocks) (rank last : ℕ) : Type 0 where
  pub there : last < length p.members
  pub upto : (b : ℕ) → b ≤ last → slice_index ranks (slice_index p.members b) ≤ rank
  pub past : (b : ℕ) → last < b → b < length p.members
      → rank < slice_index ranks (slice_index p.members b)
