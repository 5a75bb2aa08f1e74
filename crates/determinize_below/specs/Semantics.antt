-- The definitions of the theorem, in reading order: what an NFA is, when an assertion holds, what a
-- run over a text is, what it accepts, and which run is preferred.
--
-- Ids, bytes and patterns are numbers. A unit is `Some byte`, or `None` for the end of input (EOI).
-- A run is a path in the graph of positions and states: the list of the numbers of the edges that
-- it chooses. So one run is preferred to another where its list is before the other's.
use Rattle.std.specs.List.{find}
use Rattle.std.specs.Option.{is_none, option_and_then, option_eq, option_map, option_map_or, option_or, option_to_list}
use Rattle.std.specs.Prelude.{◌≡◌, ◌++◌, ◌⊎◌, ℕ, zero, suc, Bool, false, not, cond, Option, Some, None, List, [], ◌∷◌, map, nat_eq, nat_le, slice_get, slice_index, slice_index_or, if◌then◌else◌}
use mathlib.Core.Bool.{◌&&◌, ◌||◌, beq}
use Rattle.determinize_below.specs.declared.look.Look.{Look as Assertion}
use Rattle.determinize_below.specs.declared.look.Look.TheVariants.{Start, End, StartLF, EndLF, StartCRLF, EndCRLF, WordAscii, WordAsciiNegate, WordUnicode, WordUnicodeNegate, WordStartAscii, WordEndAscii, WordStartUnicode, WordEndUnicode, WordStartHalfAscii, WordEndHalfAscii, WordStartHalfUnicode, WordEndHalfUnicode}
use Rattle.determinize_below.specs.declared.nfa.transitions.Transition.{Transition}
use Rattle.ordered_reach.specs.Paths.{Before, IsPath}

-- a state of an NFA: the program's `State` without its allocator
pub data Node : Type 0 where
  ByteRange : Transition → Node
  Sparse : List Transition → Node
  Dense : List ℕ → Node
  Look : Assertion → ℕ → Node
  Union : List ℕ → Node
  BinaryUnion : ℕ → ℕ → Node
  Capture : ℕ → Node
  Fail : Node
  Match : ℕ → Node

-- an NFA: its states, two start states, its direction, its line terminator, and the set of the
-- assertions of its `Look` states
pub record Nfa : Type 0 where
  pub states : List Node
  pub start_anchored : ℕ
  pub start_unanchored : ℕ
  pub reverse : Bool
  pub terminator : ℕ
  pub look_set_any : ℕ

-- the state with this id, `Fail` for an id out of range
abbrev pub state_at : Nfa → ℕ → Node
state_at nfa s = slice_index_or nfa.states s Fail

-- the targets of the epsilon transitions of a state, in order of preference, where `holds` says
-- which assertions hold
abbrev pub edges_of : (Assertion → Bool) → Node → List ℕ
edges_of holds (Look look next) = cond (holds look) (next ∷ []) []
edges_of holds (Union ids) = ids
edges_of holds (BinaryUnion a b) = a ∷ b ∷ []
edges_of holds (Capture next) = next ∷ []
edges_of holds _ = []

-- whether the byte is in the range, whose ends are inclusive
abbrev pub within : ℕ → ℕ → ℕ → Bool
within low high byte = nat_le low byte && nat_le byte high

-- the target of a state on a unit: in a sparse state that of the first range that contains the
-- byte; in a dense state 0 means no transition; and none is on EOI
abbrev pub target_of : Option ℕ → Node → Option ℕ
target_of u (ByteRange t) = cond (option_map_or (within t.start t.end) u false) (Some t.next) None
target_of u (Sparse ts) =
    option_and_then (λ b. option_map (λ t. t.next) (find (λ t. within t.start t.end b) ts)) u
target_of u (Dense ids) =
    option_and_then (λ b. if nat_eq (slice_index ids b) 0 then None else Some (slice_index ids b)) u
target_of u _ = None

-- whether the byte is 0 to 9, A to Z, underscore, or a to z
unfoldable pub is_word_byte : ℕ → Bool
is_word_byte b = within 48 57 b || within 65 90 b || nat_eq b 95 || within 97 122 b

-- whether there is a byte, and it is a word byte
abbrev pub is_word : Option ℕ → Bool
is_word p = option_map_or is_word_byte p false

-- whether there is a byte, and it is this one
abbrev pub is : Option ℕ → ℕ → Bool
is p b = option_eq nat_eq p (Some b)

-- the byte of a CRLF that is read first: `\r` (13) forward, `\n` (10) in reverse
abbrev pub crlf_first : Bool → ℕ
crlf_first reverse = cond reverse 10 13

-- the byte of a CRLF that is read second: `\n` (10) forward, `\r` (13) in reverse
abbrev pub crlf_second : Bool → ℕ
crlf_second reverse = cond reverse 13 10

-- whether the assertion holds between the byte p behind and the unit q ahead, both in reading
-- order, where r says whether the NFA is a reverse one, and t is the line terminator
abbrev pub holds : Bool → ℕ → Option ℕ → Option ℕ → Assertion → Bool
holds r t p q Start = is_none p
holds r t p q End = is_none q
holds r t p q StartLF = is_none p || is p t
holds r t p q EndLF = is_none q || is q t
holds r t p q StartCRLF = is_none p || is p (crlf_second r)
    || (is p (crlf_first r) && not (is q (crlf_second r)))
holds r t p q EndCRLF = is_none q || is q (crlf_first r)
    || (is q (crlf_second r) && not (is p (crlf_first r)))
holds r t p q WordAscii = not (beq (is_word p) (is_word q))
holds r t p q WordAsciiNegate = beq (is_word p) (is_word q)
holds r t p q WordUnicode = not (beq (is_word p) (is_word q))
holds r t p q WordUnicodeNegate = beq (is_word p) (is_word q)
holds r t p q WordStartAscii = not (is_word p) && is_word q
holds r t p q WordEndAscii = is_word p && not (is_word q)
holds r t p q WordStartUnicode = not (is_word p) && is_word q
holds r t p q WordEndUnicode = is_word p && not (is_word q)
holds r t p q WordStartHalfAscii = not (is_word p)
holds r t p q WordEndHalfAscii = not (is_word q)
holds r t p q WordStartHalfUnicode = not (is_word p)
holds r t p q WordEndHalfUnicode = not (is_word q)

-- a text that is walked over, in reading order: its bytes, the byte behind the first, and the byte
-- ahead of the last, both optional
pub record Text : Type 0 where
  pub behind : Option ℕ
  pub bytes : List ℕ
  pub ahead : Option ℕ

-- the text of these bytes, with the bytes behind and ahead of them
abbrev pub between : Option ℕ → List ℕ → Option ℕ → Text
between behind bytes ahead = record { behind = behind; bytes = bytes; ahead = ahead }

-- the byte before a position: the byte behind the text, or a byte of it
abbrev pub before_at : Text → ℕ → Option ℕ
before_at text zero = text.behind
before_at text (suc i) = slice_get text.bytes i

-- the unit after a position: a byte of the text, or the byte ahead of it
abbrev pub after_at : Text → ℕ → Option ℕ
after_at text i = option_or (slice_get text.bytes i) text.ahead

-- the edges from a pair of a position and a state: the transition over the next byte of the text,
-- and the epsilon transitions under the assertions that hold at the position; no state has both
abbrev pub choices : Nfa → Text → ℕ × ℕ → List (ℕ × ℕ)
choices nfa text (i, s) =
    map (λ t. (suc i, t)) (option_to_list (target_of (slice_get text.bytes i) (state_at nfa s)))
    ++ map (λ t. (i, t)) (edges_of
    (holds nfa.reverse nfa.terminator (before_at text i) (after_at text i)) (state_at nfa s))

-- the choices are a run from the start state at position 0 to a `Match` state of the pattern at
-- position i; it meets no pair of a position and a state twice
abbrev pub Accepts : Nfa → Text → ℕ → List ℕ → ℕ → ℕ → Type 0
Accepts nfa text start cs i pattern =
    (s : ℕ) × IsPath (choices nfa text) [] (0, start) cs (i, s) × (state_at nfa s ≡ Match pattern)

-- the least of the runs that accept the pattern x at position i
pub record IsBestRun (nfa : Nfa) (text : Text) (start : ℕ) (cs : List ℕ) (i x : ℕ) : Type 0 where
  pub accepts : Accepts nfa text start cs i x
  pub best : (ds : List ℕ) → Accepts nfa text start ds i x → (cs ≡ ds) ⊎ Before cs ds

-- the least of all accepting runs, of any pattern and at any position: it accepts x at i
pub record IsPreferredRun (nfa : Nfa) (text : Text) (start : ℕ) (cs : List ℕ) (i x : ℕ)
    : Type 0 where
  pub accepts : Accepts nfa text start cs i x
  pub preferred : (ds : List ℕ) (j y : ℕ) → Accepts nfa text start ds j y → (cs ≡ ds) ⊎ Before cs ds
