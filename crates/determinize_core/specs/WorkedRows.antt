-- Eight walks of the program `rows`, each under its name there: small NFAs, the bytes of the
-- states, the last match.
use Rattle.std.specs.Prelude.{◌≡◌, ℕ, zero, suc, Bool, true, false, Option, Some, None, List, [], ◌∷◌, ◌++◌, map, option_map}
use Rattle.determinize_below.specs.Captures.{HasNoCaptureCycle}
use Rattle.determinize_below.specs.Edges.{reach_past}
use Rattle.determinize_below.specs.Look as looks
use Rattle.determinize_below.specs.Semantics.{Nfa, Text, between, Node, ByteRange, Sparse, Dense, Look, Union, BinaryUnion, Capture, Fail, Match}
use Rattle.determinize_below.specs.Nfa.{IsAccepted, looks_of}
use Rattle.determinize_below.specs.declared.look.Look.TheVariants.{StartCRLF, StartLF, WordAscii}
use Rattle.determinize_below.specs.declared.nfa.transitions.Transition.{Transition}
use Rattle.determinize_below.specs.declared.search.MatchKind.{MatchKind}
use Rattle.determinize_below.specs.declared.search.MatchKind.TheVariants.{All, LeftmostFirst}
use Rattle.determinize_core.specs.Chain.{chain}
use Rattle.determinize_state.specs.Spelling.{spell}
use Rattle.determinize_state.specs.Value.{Value}
use Rattle.determinize_core.specs.LastMatch.{last_match}

-- the transition over the bytes from the first to the second
abbrev pub over : ℕ → ℕ → ℕ → Transition
over start end next = record { start = start; end = end; next = next }

-- the state with a transition over one byte
abbrev pub byte : ℕ → ℕ → Node
byte b next = ByteRange (over b b next)

-- the NFA of these states that starts in its first state
abbrev pub automaton : Bool → ℕ → List Node → Nfa
automaton reverse terminator states = record {
  states = states;
  start_anchored = 0;
  start_unanchored = 0;
  reverse = reverse;
  terminator = terminator;
  look_set_any = looks_of states;
}

-- the list with this number of entries put before it
abbrev pub padded : ℕ → ℕ → List ℕ → List ℕ
padded zero entry ids = ids
padded (suc count) entry ids = entry ∷ padded count entry ids

-- three empty patterns, the third preferred
abbrev pub n2 : Nfa
n2 = automaton false 10 (Union (1 ∷ 2 ∷ 3 ∷ []) ∷ Match 2 ∷ Match 0 ∷ Match 1 ∷ [])

-- `(?:\b|%)+`, from anywhere
abbrev pub n3 : Nfa
n3 = automaton false 10 (BinaryUnion 4 1 ∷ ByteRange (over 0x00 0xFF 0) ∷ Look WordAscii 5
    ∷ byte 0x25 5 ∷ BinaryUnion 2 3 ∷ BinaryUnion 4 6 ∷ Match 0 ∷ [])

-- `\b\w+\b` of ASCII
abbrev pub n4 : Nfa
n4 = automaton false 10 (Look WordAscii 1
    ∷ Sparse (over 0x30 0x39 2 ∷ over 0x41 0x5A 2 ∷ over 0x5F 0x5F 2 ∷ over 0x61 0x7A 2 ∷ [])
    ∷ BinaryUnion 1 3 ∷ Look WordAscii 4 ∷ Match 0 ∷ [])

-- a carriage return and the start of a line
abbrev pub n5 : Nfa
n5 = automaton false 10 (byte 0x0D 1 ∷ Look StartCRLF 2 ∷ Match 0 ∷ [])

-- the start of a line, in reverse, where `x` is the line terminator
abbrev pub n7 : Nfa
n7 = automaton true 0x78 (Look StartLF 1 ∷ Match 0 ∷ [])

-- a cycle of captures only
abbrev pub n8 : Nfa
n8 = automaton false 10 (byte 0x61 1 ∷ Capture 1 ∷ Look WordAscii 3 ∷ Match 0 ∷ [])

-- `(?:ab|c)*c`, from anywhere in state 7
abbrev pub n11 : Nfa
n11 =
    automaton false 10 (BinaryUnion 1 5 ∷ BinaryUnion 2 4 ∷ byte 0x61 3 ∷ byte 0x62 0 ∷ byte 0x63 0
    ∷ byte 0x63 6 ∷ Match 0 ∷ BinaryUnion 0 8 ∷ ByteRange (over 0x00 0xFF 7) ∷ [])

-- a sparse and a dense state after a capture and a union
abbrev pub n14 : Nfa
n14 = automaton false 10 (Capture 1 ∷ Union (2 ∷ 3 ∷ 4 ∷ []) ∷ Fail
    ∷ Sparse (over 0x61 0x63 5 ∷ over 0x78 0x78 5 ∷ [])
    ∷ Dense (padded 0x62 0 (5 ∷ padded 157 0 [])) ∷ Match 0 ∷ [])

-- these NFAs are valid
pub record AreAccepted : Type 0 where
  pub n2_accepted : IsAccepted n2
  pub n3_accepted : IsAccepted n3
  pub n4_accepted : IsAccepted n4
  pub n5_accepted : IsAccepted n5
  pub n7_accepted : IsAccepted n7
  pub n8_accepted : IsAccepted n8
  pub n11_accepted : IsAccepted n11
  pub n14_accepted : IsAccepted n14

-- the capture of n8 is its own next state, the next state of that of n14 has a greater id
pub record AreCaptureRows : Type 0 where
  pub n8_cycle : HasNoCaptureCycle n8 → ⊥
  pub n14_none : HasNoCaptureCycle n14

-- eight zeros
abbrev pub eight_zeros : List ℕ
eight_zeros = padded 8 0 []

-- the bytes of the dead value
abbrev pub nine_zeros : List ℕ
nine_zeros = padded 9 0 []

-- the pattern and the end of the last match of a walk
abbrev pub match_and_end : List Value → Option (ℕ × ℕ)
match_and_end values = option_map (λ m. (m.pattern, m.offset)) (last_match values)

-- the walk over a text has states of these bytes, and this pattern and end of its last match
abbrev pub IsRowOf : Nfa → MatchKind → ℕ → Text → List (List ℕ) → Option (ℕ × ℕ) → Type 0
IsRowOf nfa kind start text states match =
    (map spell (chain nfa kind start text) ≡ states)
    × (match_and_end (chain nfa kind start text) ≡ match)

-- the same for a text without a byte ahead
abbrev pub IsRow : Nfa → MatchKind → ℕ → Option ℕ → List ℕ → List (List ℕ) → Option (ℕ × ℕ)
    → Type 0
IsRow nfa kind start behind bytes states match =
    IsRowOf nfa kind start (between behind bytes None) states match

-- the walk `4a`: over the empty text
abbrev pub Row4a : Type 0
Row4a = IsRow n2 All 0 None []
    ((nine_zeros ++ 0x00 ∷ 0x02 ∷ 0x02 ∷ 0x02 ∷ [])
    ∷ (0x03 ∷ eight_zeros ++ 0x03 ∷ 0x00 ∷ 0x00 ∷ 0x00 ∷ 0x02 ∷ 0x00 ∷ 0x00 ∷ 0x00
    ∷ 0x00 ∷ 0x00 ∷ 0x00 ∷ 0x00 ∷ 0x01 ∷ 0x00 ∷ 0x00 ∷ 0x00 ∷ []) ∷ [])
    (Some (2, 0))

-- the walk `4b`: over the empty text
abbrev pub Row4b : Type 0
Row4b = IsRow n2 LeftmostFirst 0 None []
    ((nine_zeros ++ 0x00 ∷ 0x02 ∷ 0x02 ∷ 0x02 ∷ [])
    ∷ (0x03 ∷ eight_zeros ++ 0x01 ∷ 0x00 ∷ 0x00 ∷ 0x00 ∷ 0x02 ∷ 0x00 ∷ 0x00 ∷ 0x00 ∷ []) ∷ [])
    (Some (2, 0))

-- the walk `5`: over `z%`
abbrev pub Row5 : Type 0
Row5 = IsRow n3 LeftmostFirst 0 None (0x7A ∷ 0x25 ∷ [])
    ((0x00 ∷ 0x00 ∷ 0x40 ∷ 0x01 ∷ 0x00 ∷ 0x40 ∷ padded 4 0 (0x08 ∷ 0x03 ∷ 0x02 ∷ 0x03 ∷ []))
    ∷ (0x01 ∷ eight_zeros)
    ∷ nine_zeros
    ∷ nine_zeros ∷ [])
    (Some (0, 0))

-- the bytes of the state before a word, and of that inside it
abbrev pub before_word : List ℕ
before_word = 0x00 ∷ 0x00 ∷ 0x40 ∷ 0x01 ∷ 0x00 ∷ 0x40 ∷ padded 4 0 []

abbrev pub inside_word : List ℕ
inside_word = 0x04 ∷ padded 4 0 (0x40 ∷ 0x00 ∷ 0x00 ∷ 0x00 ∷ 0x04 ∷ 0x01 ∷ 0x04 ∷ [])

-- the walk `8a`: over `quartz`
abbrev pub Row8a : Type 0
Row8a = IsRow n4 LeftmostFirst 0 None (0x71 ∷ 0x75 ∷ 0x61 ∷ 0x72 ∷ 0x74 ∷ 0x7A ∷ [])
    (before_word ∷ inside_word ∷ inside_word ∷ inside_word ∷ inside_word ∷ inside_word ∷ inside_word
    ∷ (0x01 ∷ eight_zeros) ∷ [])
    (Some (0, 6))

-- the walk `9a`: over the bytes 0d 0a
abbrev pub Row9a : Type 0
Row9a = IsRow n5 All 0 None (0x0D ∷ 0x0A ∷ [])
    ((nine_zeros ++ 0x00 ∷ [])
    ∷ (0x08 ∷ 0x00 ∷ 0x00 ∷ 0x00 ∷ 0x00 ∷ 0x10 ∷ 0x00 ∷ 0x00 ∷ 0x00 ∷ 0x02 ∷ [])
    ∷ nine_zeros
    ∷ nine_zeros ∷ [])
    None

-- the walk `11b`: over the empty text after an `x`
abbrev pub Row11b : Type 0
Row11b = IsRow n7 All 0 (Some 0x78) []
    ((0x00 ∷ 0x04 ∷ 0x00 ∷ 0x00 ∷ 0x00 ∷ 0x04 ∷ 0x00 ∷ 0x00 ∷ 0x00 ∷ 0x00 ∷ 0x02 ∷ [])
    ∷ (0x01 ∷ eight_zeros) ∷ [])
    (Some (0, 0))

-- the walk `18`: over `cabac`, from state 7
abbrev pub Row18 : Type 0
Row18 = IsRow n11 LeftmostFirst 7 None (0x63 ∷ 0x61 ∷ 0x62 ∷ 0x61 ∷ 0x63 ∷ [])
    ((nine_zeros ++ 0x0E ∷ 0x0D ∷ 0x02 ∷ 0x02 ∷ 0x04 ∷ 0x02 ∷ 0x06 ∷ [])
    ∷ (nine_zeros ++ 0x00 ∷ 0x02 ∷ 0x02 ∷ 0x04 ∷ 0x02 ∷ 0x02 ∷ 0x02 ∷ 0x02 ∷ [])
    ∷ (0x01 ∷ eight_zeros ++ 0x06 ∷ [])
    ∷ (nine_zeros ++ 0x00 ∷ 0x02 ∷ 0x02 ∷ 0x04 ∷ 0x02 ∷ [])
    ∷ (nine_zeros ++ 0x06 ∷ [])
    ∷ nine_zeros
    ∷ nine_zeros ∷ [])
    (Some (0, 1))

-- the walk `31a`: over `quar` before a `t`
abbrev pub Row31a : Type 0
Row31a = IsRowOf n4 LeftmostFirst 0 (between None (0x71 ∷ 0x75 ∷ 0x61 ∷ 0x72 ∷ []) (Some 0x74))
    (before_word ∷ inside_word ∷ inside_word ∷ inside_word ∷ inside_word ∷ inside_word ∷ [])
    None

-- a search from 4 into a set that holds 5 meets no path through 5
abbrev pub Row22 : Type 0
Row22 = reach_past n3 (looks.has (looks.insert 0 WordAscii)) (5 ∷ []) (4 ∷ []) ≡ 4 ∷ 2 ∷ 3 ∷ []
