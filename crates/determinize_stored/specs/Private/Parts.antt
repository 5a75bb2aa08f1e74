-- The parts of a file, and when they are those of a DFA.
use Rattle.std.specs.Prelude.{◌≡◌, ◌<◌, ◌≤◌, ◌+◌, ◌*◌, ◌^◌, ◌++◌, ℕ, All, Bool, Decides, cond}
use Rattle.std.specs.Prelude.{List, [], ◌∷◌, drop, length, slice_index, suc, zero}
use Rattle.std.specs.List.{slice_range}
use Rattle.determinize_below.specs.declared.primitives.TheConstants.{MAX_ID}
use Rattle.determinize_dense.specs.Bytes.{IsWhole, Stored, kind_number, words_of}
use Rattle.determinize_dense.specs.declared.bytes.TheConstants.{MAGIC, VERSION}
use Rattle.determinize_stored.specs.Reading.{HasDeadRow}
use Rattle.determinize_stored.specs.declared.format.Head.{Head}
use Rattle.determinize_stored.specs.declared.format.Parts.{Parts}
use Rattle.determinize_start.specs.declared.start.TheConstants.StartSlot.{COUNT}

-- the lists that end there, the first of which begins at an index
abbrev pub lists_from : ℕ → List ℕ → List ℕ → List (List ℕ)
lists_from start [] listed = []
lists_from start (end ∷ ends) listed = slice_range listed start end ∷ lists_from end ends listed

-- the ends ascend from one number to another
abbrev pub AreEnds : ℕ → List ℕ → ℕ → Type 0
AreEnds start [] last = start ≡ last
AreEnds start (end ∷ ends) last = (start ≤ end) × AreEnds end ends last

-- what a head and parts are
abbrev pub stored_in : Head → Parts → Stored
stored_in h p = record {
  kind = h.match_kind;
  reverse = h.is_reverse;
  terminator = h.line_terminator;
  table = record {
    classes = p.classes;
    class_count = h.class_count;
    next = p.next;
    starts = p.starts;
    patterns = lists_from 0 p.ends p.patterns;
  };
}

-- the numbers of a head, and those of parts
abbrev pub head_words : Head → List ℕ
head_words h = MAGIC ∷ VERSION ∷ kind_number h.match_kind ∷ cond h.is_reverse 1 0
    ∷ h.line_terminator ∷ h.class_count ∷ h.rows ∷ []

abbrev pub parts_words : Parts → List ℕ
parts_words p = p.classes ++ (p.starts ++ (p.next ++ (p.ends ++ p.patterns)))

-- the numbers begin with a head
pub record HasHead (ws : List ℕ) (h : Head) : Type 0 where
  pub words : ws ≡ head_words h ++ drop 7 ws
  pub terminator : h.line_terminator < 256
  pub few_classes : h.class_count ≤ 256
  pub few_rows : h.rows < 2 ^ 32

-- the parts are as long as a head says
pub record HasSizes (h : Head) (p : Parts) : Type 0 where
  pub classes : length p.classes ≡ 256
  pub starts : length p.starts ≡ COUNT
  pub next : length p.next ≡ h.rows * (h.class_count + 1)
  pub ends : length p.ends ≡ h.rows

-- each number of the parts is in its range
pub record IsInRange (h : Head) (p : Parts) : Type 0 where
  pub classes : All (λ k. k < h.class_count) p.classes
  pub starts : All (λ r. r < h.rows) p.starts
  pub next : All (λ r. r < h.rows) p.next
  pub ends : AreEnds 0 p.ends (length p.patterns)
  pub few : length p.patterns < 2 ^ 32
  pub patterns : All (λ n. n < MAX_ID + 1) p.patterns

-- the parts are those of a DFA, and the flag says whether it has a dead row
pub record AreParts (h : Head) (p : Parts) (has_dead_row : Bool) : Type 0 where
  pub whole : IsWhole (stored_in h p)
  pub sizes : HasSizes h p
  pub range : IsInRange h p
  pub dead_row : Decides has_dead_row (HasDeadRow (stored_in h p).table)

-- where the list of a row begins
abbrev pub list_start : List ℕ → ℕ → ℕ
list_start ends zero = 0
list_start ends (suc row) = slice_index ends row

-- no DFA has these numbers
abbrev pub IsOfNone : List ℕ → Type 0
IsOfNone words = (s : Stored) → IsWhole s → words ≡ words_of s → ⊥
