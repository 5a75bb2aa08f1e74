-- What the match of a scan is, as what a search finds.
use Rattle.std.specs.Prelude.{ℕ, ◌<◌, ◌++◌, Option, Some, List, ◌∷◌, []}
use Rattle.std.specs.Option.{IfSome}
use Rattle.determinize_below.specs.Nfa.{IsAccepted}
use Rattle.determinize_below.specs.Semantics.{Nfa, between}
use Rattle.determinize_below.specs.declared.search.HalfMatch.{HalfMatch}
use Rattle.determinize_below.specs.declared.search.MatchKind.{MatchKind}
use Rattle.determinize_engine.specs.Scans.{IsScan, IsSettled, Scanned}
use Rattle.determinize_engine.specs.Searches.{IsSearch}

-- the match, if there is one, ends before the last of the bytes that were read
abbrev pub EndsBefore : Option HalfMatch → ℕ → Type 0
EndsBefore last read = IfSome last (λ m. m.offset < read)

-- the match is what a search finds of the bytes before the last one, with that one ahead
abbrev pub IsFoundBeforeLast : Scanned → Type 0
IsFoundBeforeLast s = (nfa : Nfa) (kind : MatchKind) (start : ℕ) (behind : Option ℕ)
    (bytes : List ℕ) (last : ℕ) → IsAccepted nfa
    → IsScan nfa kind start behind (bytes ++ last ∷ []) s
    → IsSearch nfa kind start (between behind bytes (Some last)) s.last

-- nothing that follows can change the match
abbrev pub IsSettledIn : Scanned → Type 0
IsSettledIn s = (nfa : Nfa) (kind : MatchKind) (start : ℕ) (behind : Option ℕ) (bytes : List ℕ)
    → IsScan nfa kind start behind bytes s → IsSettled nfa kind start behind bytes s.last

-- the match is what a search finds of each text that begins with the bytes
abbrev pub IsFoundInEach : Scanned → Type 0
IsFoundInEach s = (nfa : Nfa) (kind : MatchKind) (start : ℕ) (behind : Option ℕ)
    (bytes : List ℕ) → IsAccepted nfa → IsScan nfa kind start behind bytes s
    → (more : List ℕ) (ahead : Option ℕ)
    → IsSearch nfa kind start (between behind (bytes ++ more) ahead) s.last
