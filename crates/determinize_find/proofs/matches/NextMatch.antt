-- The next match is one of two leftmost ones, and one more match keeps what was found a prefix of the list.
-- Main statements: next_plain, next_further, fewer, after_one, after_all.
-- Used by: the loops over all matches of this crate and of determinize_linear, InputMatches and Steps.
-- Idea: a list of all matches from the cursor on, after what was found, is the list of all matches.
use Rattle.determinize_find.proofs.Common.{ap, append-nil, append_assoc, AreMatches, arith, Asked, false, from}
use Rattle.determinize_find.proofs.Common.{is_touching, IsLeftmostIn, IsNext, left, length, List, Match, Nfa, None, Option, Some, true, [], ℕ, ◌++◌, ◌+◌, ◌<◌, ◌∷◌, ◌≡◌, ◌≤◌}
use Rattle.determinize_find.specs.Cursors.{after_match, SearcherValue}
use Rattle.determinize_find.proofs.matches.OneList.{LiesIn, next_lies}

pub next_plain : (nfa : Nfa) (asked : Asked) (before : Option ℕ) (first : Option Match) → IsLeftmostIn nfa asked first
    → is_touching before first ≡ false → IsNext nfa asked before first
next_plain nfa asked before first x t = grind arith

pub next_further : (nfa : Nfa) (asked : Asked) (before : Option ℕ) (first found : Option Match)
    → IsLeftmostIn nfa asked first → is_touching before first ≡ true
    → IsLeftmostIn nfa (from asked (asked.start + 1)) found → IsNext nfa asked before found
next_further nfa asked before first found x t y = grind arith

-- each match leaves fewer indices
pub fewer : (nfa : Nfa) (asked : Asked) (start : ℕ) (before : Option ℕ) (m : Match)
    → asked.end ≤ length asked.haystack → ((last : ℕ) → before ≡ Some last → last ≡ start)
    → IsNext nfa (from asked start) before (Some m)
    → (left asked.end m.end (Some m.end) < left asked.end start before) × LiesIn (from asked start) m
fewer nfa asked start before m l starts n =
    let y = next_lies nfa (from asked start) before m l starts n in
    (grind (arith, y.1, starts, y.0.low, y.0.order, y.0.high), y.0)

-- what was found so far, before all that is left; `initial` is the end of a match before all of them
abbrev pub AreFirst : Nfa → Asked → Option ℕ → ℕ → Option ℕ → List Match → Type 0
AreFirst nfa asked initial start before ms =
    (rest : List Match) → AreMatches nfa (from asked start) before rest → AreMatches nfa asked initial (ms ++ rest)

-- a cursor behind the first matches of an input
pub record IsAfter (nfa : Nfa) (asked : Asked) (initial : Option ℕ) (s : SearcherValue) (ms : List Match)
    : Type 0 where
  pub rest : s.asked ≡ from asked s.asked.start
  pub last : (end : ℕ) → s.before ≡ Some end → end ≡ s.asked.start
  pub first : AreFirst nfa asked initial s.asked.start s.before ms

-- one match more, within the range, and a cursor with fewer indices before it
abbrev pub IsOneMore : Nfa → Asked → Option ℕ → SearcherValue → SearcherValue → List Match → Match → Type 0
IsOneMore nfa asked initial s new ms m = IsAfter nfa asked initial new (ms ++ m ∷ [])
    × (left asked.end new.asked.start new.before < left asked.end s.asked.start s.before)
    × LiesIn (from asked s.asked.start) m

pub after_one : {initial : Option ℕ} (nfa : Nfa) (asked : Asked) (s new : SearcherValue) (ms : List Match) (m : Match)
    → asked.end ≤ length asked.haystack → IsAfter nfa asked initial s ms → IsNext nfa s.asked s.before (Some m)
    → new ≡ after_match s (Some m) → IsOneMore nfa asked initial s new ms m
after_one {initial} nfa asked s new ms m l a n z =
    let next = rw a.rest at n in
    let less = fewer nfa asked s.asked.start s.before m l a.last next in rw z (
      record {
        rest = ap (λ w. from w m.end) a.rest;
        last = λ end y. cc;
        first = λ others o. rw append_assoc (a.first (m ∷ others) (next, o));
      },
      less.0,
      less.1,
    )

pub after_all : {initial : Option ℕ} (nfa : Nfa) (asked : Asked) (s : SearcherValue) (ms : List Match)
    → IsAfter nfa asked initial s ms → IsNext nfa s.asked s.before None → AreMatches nfa asked initial ms
after_all nfa asked s ms a n = rw append-nil at (a.first [] (rw a.rest at n))
