-- The next match by searches from one position after another.
use Rattle.std.specs.Prelude.{◌≡◌, ◌*◌, ◌+◌, ◌-◌, ◌<◌, ◌≤◌, ◌||◌, ◌^◌, ℕ, Bool, None, Option, Some, cond, false, length}
use Rattle.std.specs.Prelude.{nat_eq, nat_lt, not, option_map, true}
use Rattle.std.specs.Option.{option_or}
use Rattle.determinize_below.specs.Search.{Asked}
use Rattle.determinize_below.specs.Semantics.{Nfa, Text}
use Rattle.determinize_below.specs.declared.search.HalfMatch.{HalfMatch}
use Rattle.determinize_below.specs.declared.search.Match.{Match}
use Rattle.determinize_engine.specs.Searches.{text_of}
use Rattle.determinize_find.specs.Cursors.{SearcherValue, after_match}
use Rattle.determinize_find.specs.LeftmostIn.{is_anchored}
use Rattle.determinize_find.specs.Matches.{IsNext, from}
use Rattle.determinize_linear.specs.Private.Paid.{in_haystack}
use Rattle.determinize_nfa.specs.Leftmost.{NothingFrom}

-- an input and the text of its range, whether a match may begin only where the search starts, where
-- the match before ended, and the position of the next search
pub record CursorValue : Type 0 where
  pub asked : Asked
  pub text : Text
  pub is_anchored : Bool
  pub before : Option ℕ
  pub at : ℕ

-- the rest of an input after a match with this end
abbrev pub rest_of : Asked → Option ℕ → Asked
rest_of asked None = asked
rest_of asked (Some end) = from asked end

-- the rest of the input, and where the match before it ended
abbrev pub place_of : CursorValue → SearcherValue
place_of c = record { asked = rest_of c.asked c.before; before = c.before }

-- the index in the haystack where the next search begins
abbrev pub index_of : CursorValue → ℕ
index_of c = c.asked.start + c.at

-- whether the match before ended at an index
abbrev pub ends_at : Option ℕ → ℕ → Bool
ends_at None at = false
ends_at (Some end) at = nat_eq end at

-- the position of the next search after what one found: behind the end of the text, if no more
-- match may begin
abbrev pub next_at : CursorValue → Option HalfMatch → ℕ
next_at c None = cond c.is_anchored (length c.text.bytes + 1) (c.at + 1)
next_at c (Some m) = cond (nat_lt c.at m.offset) m.offset (c.at + 1)

-- what a search found, in the haystack, but for an empty match where the one before ended
abbrev pub taken : CursorValue → Option HalfMatch → Option Match
taken c None = None
taken c (Some m) = cond (nat_lt c.at m.offset || not (ends_at c.before (index_of c)))
    (Some (in_haystack c.asked.start c.at m)) None

-- the cursor after what a search found
abbrev pub passed : CursorValue → Option HalfMatch → CursorValue
passed c found = record c {
  before = option_or (option_map (λ m. m.end) (taken c found)) c.before;
  at = next_at c found;
}

-- no match that is left begins before the index `at`: the match after one that ended at `before` is
-- the match from `start` on after one that ended at `last`, and none begins from `start` to before
-- `at`
pub record IsTurned (nfa : Nfa) (asked : Asked) (before : Option ℕ) (at : ℕ) : Type 0 where
  pub start : ℕ
  pub last : Option ℕ
  pub inside : asked.start ≤ start
  pub low : start ≤ at
  pub same : (found : Option Match) → IsNext nfa (from asked start) last found
      → IsNext nfa (rest_of asked before) before found
  pub nothing : (k : ℕ) → start + k < at → NothingFrom nfa (text_of false (from asked start)) k
  pub anchored : is_anchored nfa asked.anchored ≡ true → at ≡ start
  pub touched : before ≡ Some at → (start ≡ at) × (last ≡ Some at)
  pub untouched : (end : ℕ) → last ≡ Some end → before ≡ Some end
  pub passed : (end : ℕ) → before ≡ Some end → end ≤ at

-- the range of a cursor is in its haystack, and its text is that of the range
pub record IsInside (c : CursorValue) : Type 0 where
  pub haystack : c.asked.end ≤ length c.asked.haystack
  pub limit : c.asked.end < 2 ^ 64
  pub count : length c.text.bytes ≡ c.asked.end - c.asked.start
  pub order : c.at ≤ length c.text.bytes → c.asked.start ≤ c.asked.end
  pub text : c.asked.start ≤ c.asked.end → c.text ≡ text_of false c.asked

-- a cursor over the matches of an NFA in an input
pub record IsCursor (nfa : Nfa) (c : CursorValue) : Type 0 where
  pub anchored : c.is_anchored ≡ is_anchored nfa c.asked.anchored
  pub turned : c.at ≤ length c.text.bytes → IsTurned nfa c.asked c.before (index_of c)
  pub done : length c.text.bytes < c.at
      → IsNext nfa (rest_of c.asked c.before) c.before None

-- the cursor moved behind the next match of some NFAs, if there is one
pub record HasMoved (Finds : Nfa → Type 0) (old : CursorValue) (found : Option Match)
    (new : CursorValue) : Type 0 where
  pub next : (nfa : Nfa) → Finds nfa → IsNext nfa (rest_of old.asked old.before) old.before found
  pub after : place_of new ≡ after_match (place_of old) found
  pub inside : IsInside new
  pub is : (nfa : Nfa) → Finds nfa → IsCursor nfa new
  pub asked : new.asked ≡ old.asked
  pub text : new.text ≡ old.text
  pub anchored : new.is_anchored ≡ old.is_anchored

-- the most tries from a cursor on: those that are left to searches from its position on, and `each`
-- for each position from there to the end of the text
abbrev pub most_left : (ℕ → ℕ) → ℕ → CursorValue → ℕ
most_left left each c = left c.at + each * (length c.text.bytes + 1 - c.at)
