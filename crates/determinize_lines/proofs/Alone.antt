-- What searches of a whole text find is what the patterns match in it as a text by itself.
-- Main statements: end_by_regex, end_by_dfa, matched_by_regex, matched_by_dfa.
-- Used by: `first_end` and `has_match` of `LineFinder`.
-- Idea: nothing is before and behind a whole text, so its positions are those of the haystack.
use Rattle.std.specs.Prelude.{option_map}
use Rattle.determinize_core.proofs.Common.{arith, Bool, between, by_test, Decides, false}
use Rattle.determinize_core.proofs.Common.{HalfMatch, IsPreferredMatch, length, LeftmostFirst, List, Nfa, None, Option, refl, slice_get_past, Some, sym, take_all, Text, true, ℕ, ◌+◌, ◌-◌, ◌<◌, ◌∙◌, ◌≡◌}
use Rattle.determinize_below.specs.Search.{is_done}
use Rattle.determinize_below.specs.declared.search.Match.{Match}
use Rattle.determinize_engine.specs.Searches.{HasMatch, IsSearchResult, text_of}
use Rattle.determinize_find.proofs.leftmost.PreferredRun.{each_preferred_is_leftmost, from_start, to_start}
use Rattle.determinize_find.proofs.leftmost.SearchInTurn.{leftmost_in, none_in_text}
use Rattle.determinize_find.proofs.leftmost.TwoSearches.{starts_differ}
use Rattle.determinize_find.specs.LeftmostIn.{IsLeftmostIn, latest, moved}
use Rattle.determinize_find.specs.Streams.{whole}
use Rattle.determinize_lines.specs.Private.Finding.{IsEndIn}
use Rattle.determinize_nfa.proofs.prefixes.Skips.{skip}
use Rattle.determinize_pattern.proofs.entries.Leftmost.{leftmost_is_of}
use Rattle.determinize_pattern.specs.LeftmostOf.{IsLeftmostOf}
use Rattle.determinize_pattern.specs.Lines.{HasMatchAlone}
use Rattle.determinize_pattern.specs.Meaning.{Re}
use Rattle.determinize_regex.proofs.FoundOfPatterns.{matched_by}
use Rattle.determinize_regex.specs.PatternMatches.{IsLeftmostOfIn}
use Rattle.determinize_regex.specs.Regexes.{HasFirst, IsFirstEnd, IsNfaIn, meanings, RegexValue}
use Rattle.std.proofs.Common.{All}
use Rattle.std.proofs.lemmas.Bool.{le-ltb}

-- these bytes as a text by themselves
abbrev alone : List ℕ → Text
alone bytes = between None bytes None

not_done : (bytes : List ℕ) → is_done (whole bytes) ≡ false
not_done bytes = le-ltb _ _ (omega arith)

text_is : (bytes : List ℕ) → text_of false (whole bytes) ≡ alone bytes
text_is bytes =
    let size : length bytes - 0 ≡ length bytes = omega arith in
    rw (size, take_all (length bytes) bytes (omega arith), slice_get_past bytes (length bytes) (omega arith)) refl

-- a match that is moved by nothing
not_moved : (m : Option Match) → option_map (moved 0) m ≡ m
not_moved None = refl
not_moved (Some m) =
    let start : 0 + m.start ≡ m.start = omega arith in
    let end : 0 + m.end ≡ m.end = omega arith in
    rw (start, end) refl

module _ (t : ℕ) (res : List Re) (bytes : List ℕ) where
  alone_of : (m : Option Match) → IsLeftmostOfIn t res (whole bytes) m
      → IsLeftmostOf t res (alone bytes) (length bytes) m
  alone_of m h =
      let (o, is, e) = h.found (not_done bytes) in
      let size : length bytes - 0 ≡ length bytes = omega arith in
      rw (e, not_moved o) (rw (text_is bytes, size) at is)

  in_whole : (m : Option Match) → IsLeftmostOf t res (alone bytes) (length bytes) m
      → IsLeftmostOfIn t res (whole bytes) m
  in_whole m is =
      let size : length bytes - 0 ≡ length bytes = omega arith in record {
        done = λ d. absurd (let e : true ≡ false = sym d ∙ not_done bytes in cc);
        found = λ d. (m, rw (text_is bytes, size) is, sym (not_moved m));
      }

-- the same for an equal terminator
by_terminator : {t u : ℕ} (res : List Re) (text : Text) (latest : ℕ) (m : Option Match) → t ≡ u
    → IsLeftmostOf t res text latest m → IsLeftmostOf u res text latest m
by_terminator res text latest m same is = rw (← same) is

pub end_by_regex : (regex : RegexValue) (bytes : List ℕ) (found : Option HalfMatch)
    → IsFirstEnd regex (whole bytes) found → IsEndIn regex bytes found
end_by_regex regex bytes found (m, first, is) = (m, alone_of regex.terminator (meanings regex) bytes m first, is)

pub matched_by_regex : (regex : RegexValue) (bytes : List ℕ) (found : Bool)
    → Decides found (HasFirst regex (whole bytes))
    → Decides found (HasMatchAlone regex.terminator (meanings regex) bytes)
matched_by_regex regex bytes found d = (
  λ yes. let (m, first) = d.0 yes in (m, alone_of regex.terminator (meanings regex) bytes (Some m) first),
  λ has. d.1 (has.0, in_whole regex.terminator (meanings regex) bytes (Some has.0) has.1),
)

-- a DFA of the NFA of a regex
module _ (regex : RegexValue) (nfa : Nfa) (is : IsNfaIn regex nfa) (bytes : List ℕ)
    (small : All (λ b. b < 256) bytes) where
  text_of_nfa : text_of nfa.reverse (whole bytes) ≡ alone bytes
  text_of_nfa = rw (is.forward, text_is bytes) refl

  preferred : (found : Option HalfMatch) → IsSearchResult nfa LeftmostFirst (whole bytes) found
      → IsPreferredMatch nfa nfa.start_unanchored (alone bytes) found
  preferred None s = λ cs i y acc. s.none (not_done bytes) (cs, i, y, rw text_of_nfa acc)
  preferred (Some h) s =
      let (cs, i, at, run) = s.preferred refl in
      let offset : 0 + i ≡ h.offset = sym (rw is.forward at at) in
      let same : i ≡ h.offset = omega (arith, offset) in
      (cs, rw (text_of_nfa, same) at run)

  pub end_by_dfa : (found : Option HalfMatch) → IsSearchResult nfa LeftmostFirst (whole bytes) found
      → IsEndIn regex bytes found
  end_by_dfa found s =
      let (m, leftmost, e) = each_preferred_is_leftmost nfa is.prefix (alone bytes) small found (preferred found s) in
      let of = (leftmost_is_of nfa (meanings regex) is.means (alone bytes) (length bytes) m).0 leftmost in
      (m, by_terminator (meanings regex) (alone bytes) (length bytes) m is.terminator of, e)

  -- the last position where a match may begin is the end
  latest_is : latest nfa (whole bytes) ≡ length bytes
  latest_is =
      let size : length bytes - 0 ≡ length bytes = omega arith in rw (starts_differ nfa is.prefix, size) refl

  none_in : (HasMatch nfa (whole bytes) → ⊥) → IsLeftmostIn nfa (whole bytes) None
  none_in nothing = leftmost_in nfa (whole bytes) None (omega arith) (rw (text_is bytes, latest_is)
      (λ k l cs i y acc. nothing (
        skip k cs,
        i,
        y,
        rw text_of_nfa
            (from_start nfa (alone bytes) is.prefix small k cs i y l acc),
      )))

  found_any : (found : Bool) → Decides found (HasMatch nfa (whole bytes))
      → Decides found (IsLeftmostIn nfa (whole bytes) None → ⊥)
  found_any found d = (
    λ yes n. let (cs, i, y, acc) = d.0 yes in
        let (k, low, ds, at, run) = to_start nfa (alone bytes) is.prefix small cs i y (rw text_of_nfa at acc) in
        (rw (text_is bytes, latest_is) at (none_in_text n (omega arith))) k low ds i y run,
    λ some. by_test found (λ f. f) (λ f. absurd (some (none_in
        (λ has. let e : true ≡ false = sym (d.1 has) ∙ f in cc)))),
  )

  pub matched_by_dfa : (found : Bool) → Decides found (HasMatch nfa (whole bytes))
      → Decides found (HasMatchAlone regex.terminator (meanings regex) bytes)
  matched_by_dfa found d =
      let first = matched_by (meanings regex) nfa is.means is.prefix (whole bytes) found (found_any found d) in
      matched_by_regex regex bytes found (rw is.terminator at first)
