-- What a search for lines keeps, and what its parts find.
use Rattle.byte_set.specs.Sets.{IsOnly}
use Rattle.std.specs.Prelude.{◌≡◌, ◌-◌, ◌<◌, ◌++◌, ◌⊎◌, ◌∷◌, ℕ, Bool, List, None, Option, Some}
use Rattle.std.specs.Option.{ForSome}
use Rattle.std.specs.Prelude.{[], length, option_map, slice_get, true}
use Rattle.determinize_below.specs.Semantics.{Nfa, between}
use Rattle.determinize_below.specs.declared.search.HalfMatch.{HalfMatch}
use Rattle.determinize_below.specs.declared.search.Match.{Match}
use Rattle.determinize_below.specs.declared.search.MatchKind.TheVariants.{LeftmostFirst}
use Rattle.determinize_dense.specs.Table.{DfaValue}
use Rattle.determinize_find.specs.Laws.{end_of}
use Rattle.determinize_pattern.specs.LeftmostOf.{IsLeftmostOf}
use Rattle.determinize_pattern.specs.Lines.{all_stay}
use Rattle.determinize_regex.specs.Regexes.{IsNfaIn, RegexValue, meanings}

-- the DFA is one of this NFA, for the ends of leftmost matches
pub record IsFor (nfa : Nfa) (dfa : DfaValue) : Type 0 where
  pub over : dfa.nfa ≡ nfa
  pub kind : dfa.kind ≡ LeftmostFirst

-- the NFA and the DFA are those of the regex, the set has the terminator, and lines are searched
-- at once only if all matches stay in one
pub record IsFinder (regex : RegexValue) (nfa : Nfa) (terminator : ℕ) (ends : List Bool)
    (is_at_once : Bool) (dfa : Option DfaValue) : Type 0 where
  pub is : IsNfaIn regex nfa
  pub byte : terminator < 256
  pub only : IsOnly ends terminator
  pub same : is_at_once ≡ true → terminator ≡ regex.terminator
  pub stay : is_at_once ≡ true → all_stay terminator (meanings regex) ≡ true
  pub built : ForSome dfa (IsFor nfa)

-- the pattern and the end of the leftmost match in these bytes as a text by themselves
abbrev pub IsEndIn : RegexValue → List ℕ → Option HalfMatch → Type 0
IsEndIn regex bytes found = (m : Option Match)
    × IsLeftmostOf regex.terminator (meanings regex) (between None bytes None) (length bytes) m
    × (found ≡ option_map end_of m)

-- the text is the lines, which do not end in the terminator, or the lines without their last one
pub record IsTextOf (t : ℕ) (lines text : List ℕ) : Type 0 where
  pub whole : (lines ≡ text) ⊎ (lines ≡ text ++ t ∷ [])
  pub end : lines ≡ text → slice_get lines (length lines - 1) ≡ Some t → ⊥
