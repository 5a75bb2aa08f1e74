-- Example walks and searches over one cache of the NFA `\b\w+\b`, under `LeftmostFirst`: how
-- many transitions are computed, and how many states are cached then.
use Rattle.std.specs.Prelude.{◌≡◌, ℕ, true, Option, Some, None, List, [], ◌∷◌, length}
use Rattle.determinize_below.specs.declared.search.MatchKind.TheVariants.{LeftmostFirst}
use Rattle.determinize_below.specs.Semantics.{Text, between}
use Rattle.determinize_below.specs.Search.{Asked}
use Rattle.determinize_below.specs.declared.search.Anchored.TheVariants.{Yes}
use Rattle.determinize_core.specs.WorkedRows.{n4}
use Rattle.determinize_lazy.specs.Cache.{Cache, after_text, empty_cache}
use Rattle.determinize_table.specs.Table.{empty as nothing}
use Rattle.determinize_lazy.specs.CachedSearches.{after_search}
use Rattle.determinize_engine.specs.Searches.{last_in}

-- an empty cache of at most `limit` states
abbrev pub empty : ℕ → Cache
empty limit = empty_cache n4 LeftmostFirst limit None

-- `quartz`, a whole word
abbrev pub whole_word : Text
whole_word = between None (0x71 ∷ 0x75 ∷ 0x61 ∷ 0x72 ∷ 0x74 ∷ 0x7A ∷ []) None

-- `uartz` with nothing behind it
abbrev pub rest_of_a_word : Text
rest_of_a_word = between None (0x75 ∷ 0x61 ∷ 0x72 ∷ 0x74 ∷ 0x7A ∷ []) None

-- `uartz` with `q` behind it
abbrev pub inside_a_word : Text
inside_a_word = between (Some 0x71) (0x75 ∷ 0x61 ∷ 0x72 ∷ 0x74 ∷ 0x7A ∷ []) None

-- the cache after walks over texts in order, cleared at each `None`
abbrev pub after_texts : Cache → List (Option Text) → Cache
after_texts c [] = c
after_texts c (None ∷ texts) = after_texts (record c { table = nothing }) texts
after_texts c (Some text ∷ texts) = after_texts (after_text c 0 text) texts

-- after the texts n transitions are computed and m states cached
abbrev pub Leaves : ℕ → List (Option Text) → ℕ → ℕ → Type 0
Leaves limit texts computed cached = ((after_texts (empty limit) texts).computed ≡ computed)
    × (length (after_texts (empty limit) texts).table.states ≡ cached)

-- after a search of the text n transitions are computed and m states cached
abbrev pub LeavesAfterSearch : Text → ℕ → ℕ → Type 0
LeavesAfterSearch text computed cached = ((after_search (empty 16) 0 text).computed ≡ computed)
    × (length (after_search (empty 16) 0 text).table.states ≡ cached)

-- a range of `= ok =`, in which a word is from 2 to 4
abbrev pub between_signs : ℕ → ℕ → Asked
between_signs start end = record {
  haystack = 0x3D ∷ 0x20 ∷ 0x6F ∷ 0x6B ∷ 0x20 ∷ 0x3D ∷ [];
  start = start;
  end = end;
  anchored = Yes;
}

-- what is computed and cached after walks and searches, and what searches of ranges find
pub record AreWorkedRows : Type 0 where
  pub room_for_all : Leaves 16 (Some whole_word ∷ []) 7 3
  pub room_again : Leaves 16 (Some whole_word ∷ Some whole_word ∷ []) 7 3
  pub cleared : Leaves 16 (Some whole_word ∷ None ∷ Some whole_word ∷ []) 14 3
  pub room_for_two : Leaves 2 (Some whole_word ∷ []) 7 2
  pub room_for_two_again : Leaves 2 (Some whole_word ∷ Some whole_word ∷ []) 14 2
  pub room_for_none : Leaves 0 (Some whole_word ∷ Some whole_word ∷ []) 14 0
  pub other_states : Leaves 16 (Some rest_of_a_word ∷ Some inside_a_word ∷ []) 12 5
  pub room_for_one : Leaves 1 (Some inside_a_word ∷ Some inside_a_word ∷ []) 12 1
  pub searched : LeavesAfterSearch whole_word 7 3
  pub stopped : LeavesAfterSearch inside_a_word 1 2
  pub forward : last_in n4 LeftmostFirst (between_signs 2 6)
      ≡ Some record { pattern = 0; offset = 4 }
  pub backward : last_in (record n4 { reverse = true }) LeftmostFirst (between_signs 0 4)
      ≡ Some record { pattern = 0; offset = 2 }
  pub inside : last_in n4 LeftmostFirst (between_signs 3 6) ≡ None
  pub cut_ahead : last_in n4 LeftmostFirst (between_signs 2 3) ≡ None
  pub cut_behind : last_in (record n4 { reverse = true }) LeftmostFirst (between_signs 3 4) ≡ None
  pub past_its_end : last_in n4 LeftmostFirst (between_signs 3 2) ≡ None
