-- Texts of patterns.
use Rattle.std.specs.Prelude.{◌≡◌, ◌<◌, ◌++◌, ◌∷◌, ℕ, List, [], false, slice_get, take, ⊤}
use Rattle.std.specs.Option.{IsSomeAnd}
use Rattle.determinize_pattern.specs.Meaning.{Re}
use Rattle.determinize_regex.specs.declared.error.Error.{Error}
use Rattle.determinize_regex.specs.declared.error.Error.TheVariants.{Compile, Parse}
use Rattle.determinize_syntax.specs.Limits.{HasNameTwice, openings}
use Rattle.determinize_syntax.specs.Places.{IsErrorIn}
use Rattle.determinize_syntax.specs.Spells.{SpellsUnder, is_limit}
use Rattle.determinize_syntax.specs.declared.error.ErrorKind.TheVariants.{GroupNameDuplicate, NestLimitExceeded}
use Rattle.determinize_syntax.specs.declared.error.ParseError.{ParseError}
use Rattle.determinize_syntax.specs.declared.flags.Flags.{Flags}
use Rattle.determinize_syntax.specs.declared.parser.TheConstants.{NEST_LIMIT}

-- the texts denote these patterns, in this order
pub data AreSpelled (flags : Flags) : List Re → List (List ℕ) → Type 0 where
  none : AreSpelled flags [] []
  one_more : (res : List Re) (texts : List (List ℕ)) (re : Re) (text : List ℕ)
      → AreSpelled flags res texts → SpellsUnder flags re text
      → AreSpelled flags (res ++ re ∷ []) (texts ++ text ∷ [])

-- the text denotes no pattern, unless a limit was met, and has what the error is about
pub record IsErrorOf (flags : Flags) (e : ParseError) (text : List ℕ) : Type 0 where
  pub meaningless : is_limit e.kind ≡ false → (re : Re) → SpellsUnder flags re text → ⊥
  pub nested : e.kind ≡ NestLimitExceeded → NEST_LIMIT < openings text
  pub twice : e.kind ≡ GroupNameDuplicate → HasNameTwice text
  pub range : IsErrorIn text e

-- the texts before an index denote patterns, and the error is of the text there
pub record IsFirstRejected (flags : Flags) (texts : List (List ℕ)) (index : ℕ) (e : ParseError)
    : Type 0 where
  pub before : (res : List Re) × AreSpelled flags res (take index texts)
  pub text : IsSomeAnd (slice_get texts index) (IsErrorOf flags e)

-- if the error is that of a text, this is the first that is rejected
abbrev pub IsRejected : Flags → List (List ℕ) → Error → Type 0
IsRejected flags texts (Compile e) = ⊤
IsRejected flags texts (Parse index e) = IsFirstRejected flags texts index e
