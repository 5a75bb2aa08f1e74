-- A search of a text that comes in pieces.
use Rattle.std.specs.Prelude.{◌≡◌, ℕ, false, ◌++◌, Option, Some, List, length, map}
use Rattle.determinize_below.specs.Semantics.{Nfa, between}
use Rattle.determinize_below.specs.declared.search.HalfMatch.{HalfMatch}
use Rattle.determinize_below.specs.declared.search.MatchKind.{MatchKind}
use Rattle.determinize_core.specs.Chain.{chain, future, value_after}
use Rattle.determinize_core.specs.LastMatch.{last_match}
use Rattle.determinize_core.specs.Step.{start_value, step}
use Rattle.determinize_core.specs.Value.{Value}
use Rattle.determinize_engine.specs.UnitsRead.{units_read}

-- what a `Scan` is seen as: the value of the state where it is, the last match of the states so
-- far, and how many bytes it was fed
pub record Scanned : Type 0 where
  pub state : Value
  pub last : Option HalfMatch
  pub read : ℕ

-- the search of a text that begins with these bytes: its value is that after the bytes that a
-- search reads, and its match is the last one of the walk over the bytes
pub record IsScan (nfa : Nfa) (kind : MatchKind) (start : ℕ) (behind : Option ℕ) (bytes : List ℕ)
    (s : Scanned) : Type 0 where
  pub state : s.state ≡ value_after nfa kind (start_value nfa start behind)
      (units_read (step nfa kind) false (start_value nfa start behind) (map Some bytes))
  pub last : s.last ≡ last_match (future nfa kind (start_value nfa start behind) (map Some bytes))
  pub read : s.read ≡ length bytes

-- nothing that follows can change the match: it is that of each text that begins with these bytes
abbrev pub IsSettled : Nfa → MatchKind → ℕ → Option ℕ → List ℕ → Option HalfMatch → Type 0
IsSettled nfa kind start behind bytes last = (more : List ℕ) (ahead : Option ℕ)
    → last ≡ last_match (chain nfa kind start (between behind (bytes ++ more) ahead))
