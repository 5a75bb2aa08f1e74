-- Classes of bytes while they are split. A list has for each byte the least byte of its class.
use Rattle.std.specs.Prelude.{◌≡◌, ℕ, ◌<◌, ◌≤◌, List, Some, length, slice_index}
use Rattle.determinize_below.specs.ByteClasses.{AreTestedAlike}
use Rattle.determinize_below.specs.Semantics.{Nfa, state_at, target_of}

-- for each byte below n the least byte that is alike to it
pub record AreLeastBelow (n : ℕ) (Alike : ℕ → ℕ → Type 0) (least : List ℕ) : Type 0 where
  pub count : length least ≡ 256
  pub alike : (b : ℕ) → b < n → Alike (slice_index least b) b
  pub first : (b c : ℕ) → b < n → c ≤ b → Alike c b → slice_index least b ≤ c

-- for each byte the least byte that is alike to it
abbrev pub AreLeast : (ℕ → ℕ → Type 0) → List ℕ → Type 0
AreLeast Alike least = AreLeastBelow 256 Alike least

-- two bytes are in one class, and the function has the same value on both
pub record AreTogether {A : Type 0} (least : List ℕ) (f : ℕ → A) (b c : ℕ) : Type 0 where
  pub class : slice_index least b ≡ slice_index least c
  pub value : f b ≡ f c

-- the new classes are the old ones, split by the values of the function
abbrev pub AreSplit : {A : Type 0} → (ℕ → A) → List ℕ → List ℕ → Type 0
AreSplit f old new = AreLeast (AreTogether old f) new

-- each class is known by its least byte
abbrev pub ArePartition : List ℕ → Type 0
ArePartition least = AreLeast (λ b c. slice_index least b ≡ slice_index least c) least

-- no byte is above the bound of its class, which is at the class's least byte
abbrev pub IsBound : List ℕ → List ℕ → Type 0
IsBound least bounds = (b : ℕ) → b < 256 → b ≤ slice_index bounds (slice_index least b)

-- no assertion and none of the first n states distinguishes the bytes
pub record AreAlikeBelow (nfa : Nfa) (n b c : ℕ) : Type 0 where
  pub tests : AreTestedAlike nfa b c
  pub targets : (s : ℕ) → s < n
      → target_of (Some b) (state_at nfa s) ≡ target_of (Some c) (state_at nfa s)
