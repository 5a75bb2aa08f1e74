-- Sets of bytes, as a flag for each byte, and the first and the last member in a part of a text.
use Rattle.std.specs.Prelude.{◌≡◌, ℕ, ◌+◌, ◌<◌, ◌≤◌, ◌==◌, Bool, true, false, List, Option, MatchOption, slice_index, slice_index_or}

-- whether byte b is a member
abbrev pub is_member : List Bool → ℕ → Bool
is_member flags b = slice_index_or flags b false

-- x is the only member
abbrev pub IsOnly : List Bool → ℕ → Type 0
IsOnly flags x = (b : ℕ) → b < 256 → is_member flags b ≡ (b == x)

-- no byte of text at an index from i up to j passes the test
abbrev pub HasNone : (ℕ → Bool) → List ℕ → ℕ → ℕ → Type 0
HasNone test text i j = (k : ℕ) → i ≤ k → k < j → test (slice_index text k) ≡ false

-- k is the first index from i up to j at which a byte of text passes the test
pub record IsFirstAt (test : ℕ → Bool) (text : List ℕ) (i j k : ℕ) : Type 0 where
  pub low : i ≤ k
  pub high : k < j
  pub none : HasNone test text i k
  pub found : test (slice_index text k) ≡ true

-- r is that index, or `None` if there is none
abbrev pub IsFirst : (ℕ → Bool) → List ℕ → ℕ → ℕ → Option ℕ → Type 0
IsFirst test text i j r = MatchOption r (HasNone test text i j) (IsFirstAt test text i j)

-- k is the last index from i up to j at which a byte of text passes the test
pub record IsLastAt (test : ℕ → Bool) (text : List ℕ) (i j k : ℕ) : Type 0 where
  pub low : i ≤ k
  pub high : k < j
  pub none : HasNone test text (k + 1) j
  pub found : test (slice_index text k) ≡ true

-- r is that index, or `None` if there is none
abbrev pub IsLast : (ℕ → Bool) → List ℕ → ℕ → ℕ → Option ℕ → Type 0
IsLast test text i j r = MatchOption r (HasNone test text i j) (IsLastAt test text i j)

-- of the n bytes of text from index i on, r come before the first that passes the test
pub record IsRun (test : ℕ → Bool) (text : List ℕ) (i n r : ℕ) : Type 0 where
  pub few : r ≤ n
  pub none : HasNone test text i (i + r)
  pub found : r < n → test (slice_index text (i + r)) ≡ true
