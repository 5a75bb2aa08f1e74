-- Classes of bytes that an NFA does not distinguish.
use Rattle.std.specs.Prelude.{◌≡◌, ℕ, ◌+◌, ◌<◌, ◌≤◌, Bool, false, true, Some, List, length, nat_eq, slice_index}
use Rattle.std.specs.Prelude.{slice_index_or}
use Rattle.determinize_below.specs.Semantics.{state_at, target_of, Nfa, is_word_byte}
use Rattle.determinize_below.specs.Look.{has_crlf, has_line, has_word}

-- bytes that no assertion of the NFA distinguishes: those on lines and CRLF test for the line
-- terminator, those on CRLF for `\r` (13) and `\n` (10), those on words for word bytes
pub record AreTestedAlike (nfa : Nfa) (b c : ℕ) : Type 0 where
  pub line : has_line nfa.look_set_any ≡ true → nat_eq b nfa.terminator ≡ nat_eq c nfa.terminator
  pub carriage : has_crlf nfa.look_set_any ≡ true → nat_eq b 13 ≡ nat_eq c 13
  pub feed : has_crlf nfa.look_set_any ≡ true → nat_eq b 10 ≡ nat_eq c 10
  pub word : has_word nfa.look_set_any ≡ true → is_word_byte b ≡ is_word_byte c

-- bytes that the NFA does not distinguish: each state has the same target on both, and no assertion
-- distinguishes them
pub record AreAlike (nfa : Nfa) (b c : ℕ) : Type 0 where
  pub targets : (s : ℕ) → target_of (Some b) (state_at nfa s) ≡ target_of (Some c) (state_at nfa s)
  pub tests : AreTestedAlike nfa b c

-- classes of bytes: the class of each byte, and the least byte of each class
pub record Classes : Type 0 where
  pub of_bytes : List ℕ
  pub firsts : List ℕ

-- the class of a byte
abbrev pub class_of : Classes → ℕ → ℕ
class_of p b = slice_index p.of_bytes b

-- the least byte of a class
abbrev pub first_of : Classes → ℕ → ℕ
first_of p k = slice_index p.firsts k

-- each byte has a class, each class has a least byte, and the classes ascend with it
pub record AreClasses (p : Classes) : Type 0 where
  pub count : length p.of_bytes ≡ 256
  pub within : (b : ℕ) → b < 256 → class_of p b < length p.firsts
  pub bytes : (k : ℕ) → k < length p.firsts → first_of p k < 256
  pub own : (k : ℕ) → k < length p.firsts → class_of p (first_of p k) ≡ k
  pub least : (b : ℕ) → b < 256 → first_of p (class_of p b) ≤ b
  pub ascend : (j k : ℕ) → j < k → k < length p.firsts → first_of p j < first_of p k
  pub few : length p.firsts ≤ 256

-- two bytes have one class exactly if the NFA does not distinguish them
pub record AreClassesOf (nfa : Nfa) (p : Classes) : Type 0 where
  pub alike : (b c : ℕ) → b < 256 → c < 256 → class_of p b ≡ class_of p c → AreAlike nfa b c
  pub coarsest : (b c : ℕ) → b < 256 → c < 256 → AreAlike nfa b c → class_of p b ≡ class_of p c

-- whether the byte has a mark
abbrev pub is_marked : List Bool → ℕ → Bool
is_marked marks b = slice_index_or marks b false

-- no mark is removed, and on a byte without a mark the function has the same value as on the
-- byte below it
pub record MarksChanges {A : Type 0} (f : ℕ → A) (old new : List Bool) : Type 0 where
  pub was : (b : ℕ) → is_marked new b ≡ false → is_marked old b ≡ false
  pub same : (b : ℕ) → b < 255 → is_marked new (b + 1) ≡ false → f b ≡ f (b + 1)
