-- The last match of a walk, in words of runs.
-- Main statements: preferred, none_accepts, some_accepts, is-search.
-- Used by: Ranges, the searches of both DFAs, and `determinize_find`.
-- Idea: the theorem of walks for each match kind, read for a match or for none.
use Rattle.determinize_core.proofs.Common.{Accepts, All, arith, chain, HalfMatch, IfSome, IsAccepted, IsPreferredMatch}
use Rattle.determinize_core.proofs.Common.{last_match, LeftmostFirst, length, List, MatchKind, Nfa, None, Option, refl}
use Rattle.determinize_core.proofs.Common.{Some, start_value, Text, units, ℕ, ◌≡◌, ◌≤◌}
use Rattle.determinize_engine.specs.Searches.{IsSearch}
use Rattle.std.proofs.lemmas.Option.{IfSome_then}
use Rattle.std.proofs.lemmas.List.FromFn.{length-map-range_with_len}
use Rattle.determinize_core.proofs.walk.Farthest.{each_last_is_farthest}
use Rattle.determinize_core.proofs.walk.WalkOfRuns.{leftmost_walk}
use Rattle.determinize_engine.proofs.LastUnits.{last_match-within}

-- the last match of a chain for the preferred match is that match
pub preferred : (nfa : Nfa) (kind : MatchKind) (start : ℕ) (text : Text) (found : Option HalfMatch) → IsAccepted nfa
    → kind ≡ LeftmostFirst → found ≡ last_match (chain nfa kind start text) → IsPreferredMatch nfa start text found
preferred nfa kind start text found accepted kind_is found_is =
    rw (found_is, kind_is) (leftmost_walk nfa accepted start text).found

-- under both kinds no run accepts where a walk has no last match
pub none_accepts : (nfa : Nfa) (kind : MatchKind) (start : ℕ) (text : Text) → IsAccepted nfa
    → None ≡ last_match (chain nfa kind start text)
    → (cs : List ℕ) (i pattern : ℕ) → Accepts nfa text start cs i pattern → ⊥
none_accepts nfa All start text accepted none = rw (← none) at (each_last_is_farthest nfa accepted start text)
none_accepts nfa LeftmostFirst start text accepted none = preferred nfa LeftmostFirst start text None accepted refl none

-- and some run accepts where it has one
pub some_accepts : (nfa : Nfa) (kind : MatchKind) (start : ℕ) (text : Text) (m : HalfMatch) → IsAccepted nfa
    → Some m ≡ last_match (chain nfa kind start text) → (cs : List ℕ) × Accepts nfa text start cs m.offset m.pattern
some_accepts nfa All start text m accepted some =
    let h = rw (← some) at (each_last_is_farthest nfa accepted start text) in
    (h.0.1.accepted m.pattern).0 (0, omega arith, refl)
some_accepts nfa LeftmostFirst start text m accepted some =
    let h = preferred nfa LeftmostFirst start text (Some m) accepted refl some in (h.0, h.1.accepts)

-- the match ends within the text
ends_within : (nfa : Nfa) (kind : MatchKind) (start : ℕ) (text : Text)
    → IfSome (last_match (chain nfa kind start text)) (λ m. m.offset ≤ length text.bytes)
unfolding chain
ends_within nfa kind start text = IfSome_then _ {Q = λ m. m.offset ≤ length text.bytes}
    (rw length-map-range_with_len at (last_match-within nfa kind (start_value nfa start text.behind) (units text)))
    (λ m h. omega arith)

-- what a search promises of the last match
pub is-search : (nfa : Nfa) (kind : MatchKind) (start : ℕ) (text : Text) (found : Option HalfMatch) → IsAccepted nfa
    → found ≡ last_match (chain nfa kind start text) → IsSearch nfa kind start text found
is-search nfa kind start text found accepted found_is = record {
  last = found_is;
  preferred = λ kind_is. preferred nfa kind start text found accepted kind_is found_is;
  farthest = λ kind_is. rw (found_is, kind_is) (each_last_is_farthest nfa accepted start text);
  within = rw found_is (ends_within nfa kind start text);
}
