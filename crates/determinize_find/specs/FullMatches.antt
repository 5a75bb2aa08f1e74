-- Whether the whole range of an input is a match.
use Rattle.std.specs.Prelude.{◌-◌, ◌≤◌, ℕ, List, false}
use Rattle.determinize_below.specs.Semantics.{Accepts, Nfa}
use Rattle.determinize_below.specs.Search.{Asked}
use Rattle.determinize_engine.specs.Searches.{text_of}

-- some run from the anchored start reads the whole range and accepts
abbrev pub IsFullMatch : Nfa → Asked → Type 0
IsFullMatch nfa asked = (asked.start ≤ asked.end) × (cs : List ℕ) × (pattern : ℕ)
    × Accepts nfa (text_of false asked) nfa.start_anchored cs (asked.end - asked.start) pattern
