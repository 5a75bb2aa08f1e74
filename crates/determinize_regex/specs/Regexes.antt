-- What a regex is seen as, and what it finds.
use Rattle.std.specs.Prelude.{◌≡◌, ◌+◌, ◌-◌, ◌≤◌, ℕ, Contains, List, None, Option, Some, false, length}
use Rattle.std.specs.Prelude.{map, option_map}
use Rattle.determinize_below.specs.Search.{Asked}
use Rattle.determinize_below.specs.Semantics.{Nfa}
use Rattle.determinize_below.specs.declared.search.HalfMatch.{HalfMatch}
use Rattle.determinize_below.specs.declared.search.Match.{Match}
use Rattle.determinize_engine.specs.Searches.{text_of}
use Rattle.determinize_find.specs.Cursors.{SearcherValue}
use Rattle.determinize_find.specs.Laws.{end_of}
use Rattle.determinize_find.specs.Matches.{IsNextBy}
use Rattle.determinize_find.specs.Streams.{whole}
use Rattle.determinize_nfa.specs.Prefix.{HasPrefix, HasPrefixApart}
use Rattle.determinize_pattern.specs.Compiled.{IsNfaOf}
use Rattle.determinize_pattern.specs.LeftmostOf.{all_ends}
use Rattle.determinize_pattern.specs.Meaning.{Re}
use Rattle.determinize_pattern.specs.Patterns.{meaning}
use Rattle.determinize_pattern.specs.declared.pattern.Pattern.{Pattern}
use Rattle.determinize_regex.specs.PatternMatches.{AreMatchesOf, IsLeftmostOfIn}
use Rattle.determinize_regex.specs.declared.regex.RegexConfig.{RegexConfig}

-- the patterns, the line terminator of their assertions, their NFA, and the greatest number of
-- states of each of the two caches
pub record RegexValue : Type 0 where
  pub patterns : List Pattern
  pub terminator : ℕ
  pub nfa : Nfa
  pub limit : ℕ

-- the meanings of the patterns
abbrev pub meanings : RegexValue → List Re
meanings regex = map meaning regex.patterns

-- the NFA is one of the patterns, with the usual prefix, which is apart
pub record IsRegex (regex : RegexValue) : Type 0 where
  pub means : IsNfaOf (meanings regex) regex.nfa
  pub prefix : HasPrefix regex.nfa
  pub apart : HasPrefixApart regex.nfa
  pub ends : regex.nfa.terminator ≡ regex.terminator

-- this is its NFA, which reads forward
pub record IsNfaIn (regex : RegexValue) (nfa : Nfa) : Type 0 where
  pub value : nfa ≡ regex.nfa
  pub means : IsNfaOf (meanings regex) nfa
  pub forward : nfa.reverse ≡ false
  pub prefix : HasPrefix nfa
  pub separate : HasPrefixApart nfa
  pub terminator : nfa.terminator ≡ regex.terminator

-- it was made with these options
pub record HasOptions (config : RegexConfig) (regex : RegexValue) : Type 0 where
  pub terminator : regex.terminator ≡ config.compile.look_matcher
  pub limit : regex.limit ≡ config.cache_limit
  pub few : length regex.nfa.states ≤ config.compile.state_limit + 2

-- the leftmost match of the patterns in the input
abbrev pub IsFirst : RegexValue → Asked → Option Match → Type 0
IsFirst regex = IsLeftmostOfIn regex.terminator (meanings regex)

-- the pattern and the end of that match
abbrev pub IsFirstEnd : RegexValue → Asked → Option HalfMatch → Type 0
IsFirstEnd regex asked found =
    (m : Option Match) × IsFirst regex asked m × (found ≡ option_map end_of m)

-- all matches of the patterns in the input, in their order
abbrev pub AreAll : RegexValue → Asked → List Match → Type 0
AreAll regex asked = AreMatchesOf regex.terminator (meanings regex) asked None

-- all matches of the patterns in a text, in their order
abbrev pub AreAllIn : RegexValue → List ℕ → List Match → Type 0
AreAllIn regex text = AreAll regex (whole text)

-- the patterns have a match in the input
abbrev pub HasFirst : RegexValue → Asked → Type 0
HasFirst regex asked = (m : Match) × IsFirst regex asked (Some m)

-- the match of the patterns that follows a cursor
abbrev pub IsNextOf : RegexValue → SearcherValue → Option Match → Type 0
IsNextOf regex s found = IsNextBy (IsFirst regex) s.asked s.before found

-- some pattern matches the whole range of the input
abbrev pub HasFull : RegexValue → Asked → Type 0
HasFull regex asked = (asked.start ≤ asked.end) × (pattern : ℕ)
    × Contains (all_ends regex.terminator (text_of false asked) 0 (meanings regex) 0)
    (pattern, asked.end - asked.start)
