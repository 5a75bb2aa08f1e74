-- The bytes that are sorted into classes so far.
use Rattle.std.specs.Prelude.{◌≡◌, ℕ, ◌<◌, ◌≤◌, ◌↔◌, List, length, slice_index}
use Rattle.determinize_below.specs.ByteClasses.{AreAlike}
use Rattle.determinize_below.specs.Semantics.{Nfa}

-- the bytes below n are sorted into `len` classes: two of them have one class exactly if the NFA
-- does not distinguish them
pub record AreSorted (nfa : Nfa) (n len : ℕ) (of_bytes firsts : List ℕ) : Type 0 where
  pub few : len ≤ n
  pub count : length of_bytes ≡ 256
  pub room : length firsts ≡ 256
  pub within : (b : ℕ) → b < n → slice_index of_bytes b < len
  pub bytes : (k : ℕ) → k < len → slice_index firsts k < n
  pub own : (k : ℕ) → k < len → slice_index of_bytes (slice_index firsts k) ≡ k
  pub least : (b : ℕ) → b < n → slice_index firsts (slice_index of_bytes b) ≤ b
  pub ascend : (j k : ℕ) → j < k → k < len → slice_index firsts j < slice_index firsts k
  pub same : (b : ℕ) → b < n → (c : ℕ) → c < n
      → (slice_index of_bytes b ≡ slice_index of_bytes c) ↔ AreAlike nfa b c
