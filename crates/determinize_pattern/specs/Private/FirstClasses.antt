-- The classes of bytes with which branches begin.
use Rattle.std.specs.Borrow.{Bor}
use Rattle.std.specs.Global.{Vec}
use Rattle.std.specs.Prelude.{◌≡◌, ◌<◌, ◌≤◌, ◌⊎◌, ℕ, List, Some, [], ◌∷◌, true}
use Rattle.determinize_nfa.specs.Builder.{BuilderValue}
use Rattle.determinize_pattern.specs.Meaning.{Byte, Re, Then, is_in}
use Rattle.determinize_pattern.specs.Patterns.{meaning}
use Rattle.determinize_pattern.specs.Private.Compiling.{IsBegun}
use Rattle.determinize_pattern.specs.Private.Words.{SameEnds}
use Rattle.determinize_pattern.specs.declared.pattern.Pattern.{Pattern}
use Rattle.determinize_pattern.specs.declared.pattern.Pattern.TheVariants.{Class, Concat}

-- the pattern is the class, or a row that begins with it
abbrev pub BeginsWith : Pattern → List (ℕ × ℕ) → Type 0
BeginsWith pattern class = (pattern ≡ Class class)
    ⊎ ((subs : Vec Pattern) × (rest : Re) × (pattern ≡ Concat subs)
    × (meaning pattern ≡ Then (Byte class) rest))

-- the bytes of the class are from `low` on and below `past`
abbrev pub IsBetween : ℕ → ℕ → List (ℕ × ℕ) → Type 0
IsBetween low past class =
    (low ≤ past) × ((b : ℕ) → is_in class (Some b) ≡ true → (low ≤ b) × (b < past))

-- the branches begin with these classes, and the bytes of each are above those of the one before
abbrev pub AreFirst : ℕ → List Pattern → List (Bor (List (ℕ × ℕ))) → Type 0
AreFirst low [] [] = Unit {0}
AreFirst low (pattern ∷ patterns) (class ∷ classes) = (past : ℕ) × BeginsWith pattern class.now
    × IsBetween low past class.now × AreFirst past patterns classes
AreFirst low _ _ = ⊥

-- the pattern is a byte of the class and then a pattern that begins at the state
pub record IsRest (old new : BuilderValue) (re : Re) (class : List (ℕ × ℕ)) (next s : ℕ)
    : Type 0 where
  pub rest : Re
  pub begun : IsBegun old new rest next s
  pub same : SameEnds re (Then (Byte class) rest)
