-- The range of an input as a text, and a match of the text in the haystack.
-- Main statements: is-result, match-decides, none-done, offset-within.
-- Used by: `search_input` and `is_match` of both DFAs.
-- Idea: a search of an input is one of its text; only the offsets differ.
use Rattle.determinize_core.proofs.Common.{All, arith, Asked, Bool, chain, Decides, false, false≢true, HalfMatch}
use Rattle.determinize_core.proofs.Common.{IfSome, is_done, is_some, IsAccepted, last_match, LeftmostFirst}
use Rattle.determinize_core.proofs.Common.{length, length-reverse, length-take, MatchKind, Nfa, None, Option}
use Rattle.determinize_core.proofs.Common.{option_map, refl, Some, sym, true, ℕ, ◌∙◌, ◌-◌, ◌≡◌, ◌≤◌}
use Rattle.determinize_engine.specs.Searches.{HasMatch, in_haystack, IsSearch, IsSearchResult, last_in, start_for}
use Rattle.determinize_engine.specs.Searches.{text_of}
use Rattle.determinize_engine.proofs.SearchMatches.{none_accepts, some_accepts}

-- where nothing is left to search
pub none-done : {nfa : Nfa} {kind : MatchKind} (asked : Asked) → is_done asked ≡ true
    → IsSearchResult nfa kind asked None
unfolding last_in
none-done asked done = record {
  last = rw done;
  preferred = λ k. tt;
  farthest = λ k. tt;
  none = λ more. absurd (false≢true (sym more ∙ done));
  within = tt;
}

-- a walk has a last match exactly where some run accepts
pub match-decides : (nfa : Nfa) (kind : MatchKind) (asked : Asked) {found : Bool} → IsAccepted nfa
    → found ≡ is_some (last_match (chain nfa kind (start_for nfa asked.anchored) (text_of nfa.reverse asked)))
    → Decides found (HasMatch nfa asked)
match-decides nfa kind asked accepted found_is = rw found_is (each _ refl)
  where
    each : (m : Option HalfMatch)
        → m ≡ last_match (chain nfa kind (start_for nfa asked.anchored) (text_of nfa.reverse asked))
        → Decides (is_some m) (HasMatch nfa asked)
    each None e =
        (λ h. absurd (false≢true h), λ h. absurd (none_accepts nfa kind _ _ accepted e h.0 h.1 h.2 h.3))
    each (Some m) e =
        (λ _. let a = some_accepts nfa kind _ _ m accepted e in (a.0, m.offset, m.pattern, a.1), λ _. refl)

-- a match is in the range
abbrev IsWithin : Asked → Option HalfMatch → Type 0
IsWithin asked found = IfSome found (λ m. (asked.start ≤ m.offset) × (m.offset ≤ asked.end))

-- what a search of the text returns, in the haystack
pub is-result : {nfa : Nfa} {kind : MatchKind} {asked : Asked} {found result : Option HalfMatch} {is_backward : Bool}
    → IsAccepted nfa → is_done asked ≡ false → is_backward ≡ nfa.reverse
    → result ≡ option_map (in_haystack is_backward asked) found → IsWithin asked result
    → IsSearch nfa kind (start_for nfa asked.anchored) (text_of nfa.reverse asked) found
    → IsSearchResult nfa kind asked result
unfolding last_in
is-result {nfa} {kind} {asked} {found} {result} accepted more direction result_is within s =
    let e : result ≡ option_map (in_haystack nfa.reverse asked) found = rw (result_is, direction) in
    rw e (each found (rw e at within) s)
  where
    each : (o : Option HalfMatch) → IsWithin asked (option_map (in_haystack nfa.reverse asked) o)
        → IsSearch nfa kind (start_for nfa asked.anchored) (text_of nfa.reverse asked) o
        → IsSearchResult nfa kind asked (option_map (in_haystack nfa.reverse asked) o)
    each None within s = record {
      last = rw (more, ← s.last);
      preferred = λ k. tt;
      farthest = λ k. tt;
      none = λ _ h. none_accepts nfa kind _ _ accepted s.last h.0 h.1 h.2 h.3;
      within = within;
    }
    each (Some m) within s = record {
      last = rw (more, ← s.last);
      preferred = λ k. let p = s.preferred k in (p.0, m.offset, refl, p.1);
      farthest = λ k. (m.offset, refl, s.farthest k);
      none = λ _. tt;
      within = within;
    }

range-within : (is_backward : Bool) (asked : Asked) → length (text_of is_backward asked).bytes ≤ asked.end - asked.start
range-within back asked = grind (arith, length-reverse {A = ℕ}, length-take {A = ℕ})

-- a match ends within the range
pub offset-within : {nfa : Nfa} {kind : MatchKind} {start : ℕ} (asked : Asked) {found : Option HalfMatch}
    → IsSearch nfa kind start (text_of nfa.reverse asked) found → IfSome found (λ m. m.offset ≤ asked.end - asked.start)
offset-within {nfa} asked s = grind (arith, range-within nfa.reverse asked, s.within)
