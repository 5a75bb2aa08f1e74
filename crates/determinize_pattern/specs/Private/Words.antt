-- Words in front of states, and the states of a choice of them.
use Rattle.std.specs.Borrow.{Bor}
use Rattle.std.specs.List.{flat_map}
use Rattle.std.specs.Option.{option_map_or}
use Rattle.std.specs.Prelude.{◌≡◌, ◌<◌, ◌≤◌, ◌++◌, ℕ, Bool, Contains, List, None, Option, Some, [], ◌∷◌, cond, drop, false, length, map, nat_eq, slice_get, take, true}
use Rattle.determinize_below.specs.Semantics.{Nfa, Text}
use Rattle.determinize_nfa.specs.Builder.{BuilderValue}
use Rattle.determinize_pattern.specs.Meaning.{Re, Then, ends}
use Rattle.determinize_pattern.specs.Patterns.{literal}
use Rattle.determinize_pattern.specs.Private.Compiling.{Continues, Extends, IsBegun}
use Rattle.determinize_pattern.specs.Private.Entries.{Finds}

-- what is left of the words from a place on, each with the state that follows it
abbrev pub words_from : ℕ → List (Bor (List ℕ × ℕ)) → List (List ℕ × ℕ)
words_from place words = map (λ w. (drop place w.now.0, w.now.1)) words

-- the word is not empty
abbrev pub HasByte : List ℕ × ℕ → Type 0
HasByte w = 0 < length w.0

-- the word begins with the prefix
abbrev pub SharesPrefix : List ℕ → List ℕ × ℕ → Type 0
SharesPrefix prefix w = take (length prefix) w.0 ≡ prefix

-- what is left of the words that begin with the byte
abbrev pub rests_after : {X : Type 0} → ℕ → List (List ℕ × X) → List (List ℕ × X)
rests_after byte [] = []
rests_after byte (([], x) ∷ words) = rests_after byte words
rests_after byte ((b ∷ rest, x) ∷ words) =
    cond (nat_eq b byte) ((rest, x) ∷ rests_after byte words) (rests_after byte words)

-- the least byte from `from` on with which a word begins
abbrev pub IsLeastByte : List (List ℕ × ℕ) → ℕ → Option ℕ → Type 0
IsLeastByte words from None = (b : ℕ) → from ≤ b → rests_after b words ≡ []
IsLeastByte words from (Some byte) =
    (from ≤ byte) × ((b : ℕ) → from ≤ b → b < byte → rests_after b words ≡ [])

-- with a word more, which begins with the byte if there is one, the least byte is another
abbrev pub AddsByte : ℕ → Option ℕ → Option ℕ → Option ℕ → Type 0
AddsByte from least byte new = (words : List (List ℕ × ℕ)) (word : List ℕ × ℕ)
    → slice_get word.0 0 ≡ byte → IsLeastByte words from least
    → IsLeastByte (words ++ word ∷ []) from new

-- whether the first byte of the word is this one
abbrev pub begins_with : ℕ → List ℕ → Bool
begins_with byte word = option_map_or (λ b. nat_eq b byte) (slice_get word 0) false

-- a state, and what it finds from each position
pub record Lead : Type 0 where
  pub state : ℕ
  pub found : ℕ → List (ℕ × ℕ)

-- the words, with the states that follow them
abbrev pub words_of : List (List ℕ × Lead) → List (List ℕ × ℕ)
words_of leads = map (λ w. (w.0, w.1.state)) leads

-- where a word that begins at the position ends, its state finds what is said
abbrev pub AllFind : Nfa → Text → ℕ → List (List ℕ × Lead) → Type 0
AllFind nfa text i [] = Unit {0}
AllFind nfa text i (w ∷ ws) = ((j : ℕ) → Contains (ends nfa.terminator text (literal w.0) i) j
    → Finds nfa text w.1.state j (w.1.found j)) × AllFind nfa text i ws

-- what they find, word by word
abbrev pub all_found : Nfa → Text → ℕ → List (List ℕ × Lead) → List (ℕ × ℕ)
all_found nfa text i leads =
    flat_map (λ w. flat_map w.1.found (ends nfa.terminator text (literal w.0) i)) leads

-- from the state begin the words, each in front of its state, the earlier preferred
pub record IsTree (old new : BuilderValue) (words : List (List ℕ × ℕ)) (s : ℕ) : Type 0 where
  pub extends : Extends old new
  pub finds : (nfa : Nfa) → Continues new nfa → (text : Text) (leads : List (List ℕ × Lead))
      → words_of leads ≡ words → (i : ℕ) → AllFind nfa text i leads
      → Finds nfa text s i (all_found nfa text i leads)

-- from each position of each text the patterns have the same ends, in the same order
abbrev pub SameEnds : Re → Re → Type 0
SameEnds a b = (t : ℕ) (text : Text) (i : ℕ) → ends t text a i ≡ ends t text b i

-- the bytes of the pattern were added if it is a word, and nothing if not
abbrev pub HasPushed : Bool → Re → List ℕ → List ℕ → Type 0
HasPushed false re old new = new ≡ old
HasPushed true re old new = (word : List ℕ) × (new ≡ old ++ word) × SameEnds re (literal word)

-- the pattern is the word and then a pattern that begins at the state
pub record IsHead (old new : BuilderValue) (re : Re) (next : ℕ) (word : List ℕ × ℕ) : Type 0 where
  pub rest : Re
  pub begun : IsBegun old new rest next word.1
  pub same : SameEnds re (Then (literal word.0) rest)
