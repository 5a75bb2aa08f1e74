-- A DFA as bytes: what `to_bytes` writes, and `determinize_stored` reads.
use Rattle.std.specs.Prelude.{◌≡◌, ◌<◌, ◌≤◌, ◌+◌, ◌*◌, ◌^◌, ◌++◌, ℕ, All, Bool, cond, List, [], ◌∷◌}
use Rattle.std.specs.Prelude.{length}
use Rattle.std.specs.Int.{w32, to_le_bytes}
use Rattle.std.specs.List.{concat, flat_map}
use Rattle.determinize_below.specs.declared.primitives.TheConstants.{MAX_ID}
use Rattle.determinize_below.specs.declared.search.MatchKind.{MatchKind}
use Rattle.determinize_below.specs.declared.search.MatchKind.TheVariants as kinds
use Rattle.determinize_start.specs.declared.start.TheConstants.StartSlot.{COUNT}
use Rattle.determinize_dense.specs.Table.{DfaValue, Table}
use Rattle.determinize_dense.specs.declared.bytes.TheConstants.{MAGIC, VERSION}

-- what is stored of a DFA: its match kind, whether its NFA is a reverse one, the line terminator,
-- and its table
pub record Stored : Type 0 where
  pub kind : MatchKind
  pub reverse : Bool
  pub terminator : ℕ
  pub table : Table

abbrev pub stored_of : DfaValue → Stored
stored_of v = record {
  kind = v.kind;
  reverse = v.nfa.reverse;
  terminator = v.nfa.terminator;
  table = v.table;
}

-- the number of a match kind
abbrev pub kind_number : MatchKind → ℕ
kind_number kinds.All = 0
kind_number kinds.LeftmostFirst = 1

-- the end of each list, one list after the other from n on
abbrev pub ends_from : ℕ → List (List ℕ) → List ℕ
ends_from n [] = []
ends_from n (list ∷ lists) = (n + length list) ∷ ends_from (n + length list) lists

-- the seven numbers at the beginning
abbrev pub head_of : Stored → List ℕ
head_of s = MAGIC ∷ VERSION ∷ kind_number s.kind ∷ cond s.reverse 1 0 ∷ s.terminator
    ∷ s.table.class_count ∷ length s.table.patterns ∷ []

-- all numbers: after the head the class of each byte, the row of each start, the entries of each
-- row, where the list of each row ends, and the lists
abbrev pub words_of : Stored → List ℕ
words_of s = head_of s ++ (s.table.classes ++ (s.table.starts ++ (s.table.next
    ++ (ends_from 0 s.table.patterns ++ concat s.table.patterns))))

-- each number in four bytes, the lowest first
abbrev pub bytes_of_words : List ℕ → List ℕ
bytes_of_words words = flat_map (to_le_bytes w32) words

-- the bytes of what is stored
abbrev pub file_of : Stored → List ℕ
file_of s = bytes_of_words (words_of s)

-- each class is one of the columns, each start and each entry is in place and is the number of a
-- row, and each pattern is an id
pub record IsWhole (s : Stored) : Type 0 where
  pub terminator : s.terminator < 256
  pub few_classes : s.table.class_count ≤ 256
  pub few_rows : length s.table.patterns < 2 ^ 32
  pub few_listed : length (concat s.table.patterns) < 2 ^ 32
  pub bytes : length s.table.classes ≡ 256
  pub starts : length s.table.starts ≡ COUNT
  pub entries : length s.table.next ≡ length s.table.patterns * (s.table.class_count + 1)
  pub class_within : All (λ k. k < s.table.class_count) s.table.classes
  pub start_within : All (λ r. r < length s.table.patterns) s.table.starts
  pub entry_within : All (λ r. r < length s.table.patterns) s.table.next
  pub ids : All (λ p. p ≤ MAX_ID) (concat s.table.patterns)
