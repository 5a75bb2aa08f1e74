-- The meaning of each kind of pattern, written out.
-- Main statements: meaning_empty to meaning_repetition, the ruleset meanings.
-- Used by: the proofs of `part` and `always_reads`.
-- Idea: a fold of a constructor is the fold of its parts.
use Rattle.std.proofs.Common.{◌≡◌, ◌∙◌, ℕ, Bool, Box, Global, List, Option, Vec, ap, map, sym}
use Rattle.determinize_below.specs.declared.look.Look.{Look as Assertion}
use Rattle.determinize_pattern.specs.Meaning as re
use Rattle.determinize_pattern.specs.Meaning.{Re}
use Rattle.determinize_pattern.specs.Patterns.{choice, sequence, literal, meaning, node_meaning, repeated}
use Rattle.determinize_pattern.specs.declared.pattern.Pattern.{Pattern, Pattern-F, fold-roll-Pattern}
use Rattle.determinize_pattern.specs.declared.pattern.Pattern.TheVariants as patterns

pub meaning_empty : meaning patterns.Empty ≡ re.Empty
meaning_empty = ap meaning (sym patterns.rolls-Empty) ∙ fold-roll-Pattern Re node_meaning Pattern-F.Empty

pub meaning_literal : (bytes : Vec ℕ Global) → meaning (patterns.Literal bytes) ≡ literal bytes.items
meaning_literal bytes = ap meaning (sym (patterns.rolls-Literal bytes))
    ∙ fold-roll-Pattern Re node_meaning (Pattern-F.Literal bytes)

pub meaning_class : (class : List (ℕ × ℕ)) → meaning (patterns.Class class) ≡ re.Byte class
meaning_class class = ap meaning (sym (patterns.rolls-Class class))
    ∙ fold-roll-Pattern Re node_meaning (Pattern-F.Class class)

pub meaning_look : (look : Assertion) → meaning (patterns.Look look) ≡ re.Look look
meaning_look look = ap meaning (sym (patterns.rolls-Look look))
    ∙ fold-roll-Pattern Re node_meaning (Pattern-F.Look look)

pub meaning_capture : (sub : Box Pattern Global) → meaning (patterns.Capture sub) ≡ meaning sub.value
meaning_capture sub = ap meaning (sym (patterns.rolls-Capture sub))
    ∙ fold-roll-Pattern Re node_meaning (Pattern-F.Capture sub)

pub meaning_concat : (subs : Vec Pattern Global) → meaning (patterns.Concat subs) ≡ sequence (map meaning subs.items)
meaning_concat subs = ap meaning (sym (patterns.rolls-Concat subs))
    ∙ fold-roll-Pattern Re node_meaning (Pattern-F.Concat subs)

pub meaning_alternation : (subs : Vec Pattern Global)
    → meaning (patterns.Alternation subs) ≡ choice (map meaning subs.items)
meaning_alternation subs = ap meaning (sym (patterns.rolls-Alternation subs))
    ∙ fold-roll-Pattern Re node_meaning (Pattern-F.Alternation subs)

pub meaning_repetition : (min : ℕ) (max : Option ℕ) (greedy : Bool) (sub : Box Pattern Global)
    → meaning (patterns.Repetition min max greedy sub) ≡ repeated min max greedy (meaning sub.value)
meaning_repetition min max greedy sub = ap meaning (sym (patterns.rolls-Repetition min max greedy sub))
    ∙ fold-roll-Pattern Re node_meaning (Pattern-F.Repetition min max greedy sub)

pub ruleset meanings = (
  meaning_literal,
  meaning_class,
  meaning_repetition,
  meaning_capture,
  meaning_concat,
  meaning_alternation,
)
