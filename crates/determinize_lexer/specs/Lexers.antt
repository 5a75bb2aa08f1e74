-- What a lexer is seen as, and what its errors say.
use Rattle.std.specs.Prelude.{◌≡◌, ℕ, List, false, map, ⊤}
use Rattle.determinize_below.specs.declared.search.MatchKind.TheVariants.{All}
use Rattle.determinize_dense.specs.Least.{IsLeast}
use Rattle.determinize_dense.specs.Table.{DfaValue}
use Rattle.determinize_lexer.specs.declared.error.Error.{Error}
use Rattle.determinize_lexer.specs.declared.error.Error.TheVariants.{Dfa, Patterns}
use Rattle.determinize_pattern.specs.Compiled.{IsNfaOf}
use Rattle.determinize_pattern.specs.Meaning.{Re}
use Rattle.determinize_pattern.specs.Patterns.{meaning}
use Rattle.determinize_pattern.specs.declared.pattern.Pattern.{Pattern}
use Rattle.determinize_regex.specs.declared.error.Error.{Error as PatternError}
use Rattle.determinize_regex.specs.declared.error.Error.TheVariants.{Compile, Parse}

-- the patterns, and the line terminator of their assertions
pub record LexerValue : Type 0 where
  pub patterns : List Pattern
  pub terminator : ℕ

-- the meanings of the patterns
abbrev pub meanings : LexerValue → List Re
meanings lexer = map meaning lexer.patterns

-- a smallest DFA under `All` of an NFA of the patterns, all of whose searches are anchored
pub record IsLexerOf (patterns : List Pattern) (dfa : DfaValue) : Type 0 where
  pub means : IsNfaOf (map meaning patterns) dfa.nfa
  pub kind : dfa.kind ≡ All
  pub forward : dfa.nfa.reverse ≡ false
  pub anchored : dfa.nfa.start_unanchored ≡ dfa.nfa.start_anchored
  pub least : IsLeast dfa.nfa dfa.table

-- this is the DFA of a lexer
pub record IsDfaFor (lexer : LexerValue) (dfa : DfaValue) : Type 0 where
  pub is : IsLexerOf lexer.patterns dfa
  pub terminator : dfa.nfa.terminator ≡ lexer.terminator

-- if the error is of the patterns, this holds of it
abbrev pub OfPatterns : (PatternError → Type 0) → Error → Type 0
OfPatterns P (Patterns e) = P e
OfPatterns P (Dfa e) = ⊤

-- the error is not of the text of a pattern
abbrev pub WasParsed : PatternError → Type 0
WasParsed (Parse index e) = ⊥
WasParsed (Compile e) = ⊤
