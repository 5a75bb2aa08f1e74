-- A text that is read in the other direction, from a position on.
use Rattle.std.specs.Prelude.{◌≡◌, ◌+◌, ◌-◌, ◌<◌, ◌≤◌, ◌↔◌, ◌⊎◌, ◌∷◌, ◌||◌, ℕ, Bool, List, None, [], cond, false, length, nat_eq, not, reverse, slice_get, suc, take}
use Rattle.std.specs.List.{sum_by}
use Rattle.determinize_below.specs.Semantics.{Nfa, Node, ByteRange, Sparse, Dense, Look, Accepts, Text, after_at, before_at, between}
use Rattle.determinize_below.specs.declared.nfa.BuildError.{BuildError}
use Rattle.determinize_below.specs.declared.nfa.BuildError.TheVariants.{OutOfMemory, TooManyStates}
use Rattle.determinize_below.specs.declared.primitives.TheConstants.{ID_LIMIT}
use Rattle.determinize_nfa.specs.Runs.{AcceptsFrom}

-- the text in the other direction
abbrev pub turned : Text → Text
turned text = between text.ahead (reverse text.bytes) text.behind

-- the text up to a position, with the unit after that position ahead of it
abbrev pub upto : Text → ℕ → Text
upto text j = between text.behind (take j text.bytes) (after_at text j)

-- position r of one text has before and after it what position j - r of the other has after and
-- before it
pub record IsMirrored (text back : Text) (j : ℕ) : Type 0 where
  pub before : (r i : ℕ) → r + i ≡ j → before_at back r ≡ after_at text i
  pub after : (r i : ℕ) → r + i ≡ j → after_at back r ≡ before_at text i
  pub byte : (r i : ℕ) → r + suc i ≡ j → slice_get back.bytes r ≡ slice_get text.bytes i
  pub last : slice_get back.bytes j ≡ None

-- read in the other direction from position j, the first NFA accepts at position k exactly where
-- the second has a run from k that accepts at j
pub record IsReverseOf (backward nfa : Nfa) : Type 0 where
  pub direction : backward.reverse ≡ not nfa.reverse
  pub begins : (text : Text) (j k : ℕ) → j ≤ length text.bytes → k ≤ j
      → ((cs : List ℕ) × (other : ℕ)
      × Accepts backward (turned (upto text j)) backward.start_anchored cs (j - k) other)
      ↔ ((cs : List ℕ) × (pattern : ℕ) × AcceptsFrom nfa text k nfa.start_anchored cs j pattern)

-- whether the list begins with the id
abbrev pub is_first : ℕ → List ℕ → Bool
is_first id [] = false
is_first id (x ∷ xs) = nat_eq id x

-- how many runs of bytes with one target a table has; 0 is no target
abbrev pub runs_in : List ℕ → ℕ
runs_in [] = 0
runs_in (id ∷ ids) = cond (nat_eq id 0 || is_first id ids) (runs_in ids) (suc (runs_in ids))

-- how many ranges of bytes, runs of bytes in a table, and assertions a state has
abbrev pub reads_in : Node → ℕ
reads_in (ByteRange t) = 1
reads_in (Sparse ts) = length ts
reads_in (Dense ids) = runs_in ids
reads_in (Look look next) = 1
reads_in _ = 0

-- the most states that the reversed NFA may have
abbrev pub most_states : Nfa → ℕ
most_states nfa = length nfa.states + sum_by reads_in nfa.states + 2

-- an allocation failed, or there are too many states
abbrev pub IsTooLarge : ℕ → BuildError → Type 0
IsTooLarge count e = (e ≡ OutOfMemory) ⊎ ((e ≡ TooManyStates) × (ID_LIMIT < count))
