-- The parts of a text between matches, and texts with other bytes in place of matches.
use Rattle.std.specs.Borrow.{Bor}
use Rattle.std.specs.List.{FoldsTo}
use Rattle.std.specs.Prelude.{◌≡◌, ◌++◌, ◌∷◌, ℕ, List, [], drop, filter, map, slice_range}
use Rattle.determinize_below.specs.declared.search.Match.{Match}
use Rattle.determinize_regex.specs.Regexes.{AreAllIn, RegexValue}
use Rattle.determinize_regex.specs.Utf8.{is_whole}

-- the parts of a text, from an index on, that lie between the matches
abbrev pub parts : List ℕ → ℕ → List Match → List (List ℕ)
parts text at [] = drop at text ∷ []
parts text at (m ∷ ms) = slice_range text at m.start ∷ parts text m.end ms

-- a text, from an index on, with these bytes in place of each match
abbrev pub replaced : List ℕ → List ℕ → ℕ → List Match → List ℕ
replaced by text at [] = drop at text
replaced by text at (m ∷ ms) = slice_range text at m.start ++ by ++ replaced by text m.end ms

-- these are all matches of the patterns in a text but the empty ones inside a character
pub record AreWholeIn (regex : RegexValue) (text : List ℕ) (found : List Match) : Type 0 where
  pub matches : List Match
  pub all : AreAllIn regex text matches
  pub kept : found ≡ filter (is_whole text) matches

-- these are the parts of a text that lie between these matches
pub record AreParts (AreThese : List Match → Type 0) (text : List ℕ) (cut : List (List ℕ))
    : Type 0 where
  pub matches : List Match
  pub these : AreThese matches
  pub are : cut ≡ parts text 0 matches

-- this is a text with these bytes in place of each of these matches
pub record IsReplaced (AreThese : List Match → Type 0) (text by new : List ℕ) : Type 0 where
  pub matches : List Match
  pub these : AreThese matches
  pub is : new ≡ replaced by text 0 matches

-- a text, from an index on, in which each match is replaced by the bytes paired with it
abbrev pub replaced_each : List ℕ → ℕ → List (Match × Bor (List ℕ)) → List ℕ
replaced_each text at [] = drop at text
replaced_each text at (x ∷ xs) =
    slice_range text at x.0.start ++ x.1.now ++ replaced_each text x.0.end xs

-- this is a text in which each of these matches is replaced by what a function returned for it,
-- called for one after the other, where `Call` says what a call for a match returns and leaves
pub record IsReplacedBy {F : Type 0} (Call : F → Match × Bor (List ℕ) → F → Type 0) (first : F)
    (found : List Match) (text new : List ℕ) : Type 0 where
  pub each : List (Match × Bor (List ℕ))
  pub last : F
  pub calls : FoldsTo Call first each last
  pub matches : map (λ x. x.0) each ≡ found
  pub is : new ≡ replaced_each text 0 each
