-- The text of a pattern: which texts denote which pattern, rule by rule. A text is a list of bytes.
use Rattle.std.specs.Prelude.{◌≡◌, ◌<◌, ◌≤◌, ◌^◌, ◌++◌, ℕ, Bool, List, None, Option, Some, [], ◌∷◌, ◌==◌, ◌&&◌, ◌||◌, codes, false, not, true}
use Rattle.std.specs.Char.{IsScalar, encode_utf8, is_ascii}
use Rattle.std.specs.Int.{is_in_range}
use Rattle.std.specs.List.{list_any}
use Rattle.determinize_below.specs.declared.look.Look.TheVariants.{Start, End, StartLF, EndLF, StartCRLF, EndCRLF}
use Rattle.determinize_pattern.specs.Characters.{IsCharClass}
use Rattle.determinize_pattern.specs.Meaning.{Look, Re}
use Rattle.determinize_pattern.specs.Patterns as patterns
use Rattle.determinize_pattern.specs.Patterns.{IsClass, choice_of, literal, repeated}
use Rattle.determinize_syntax.specs.Words.{Set, ◌∈◌, assertion, at_line, complement, dot_set, escaped_byte, folded, is_text_end, is_name, joined, knows_cases, named_class, no_flags, number, only, perl_class, set_flag}
use Rattle.determinize_syntax.specs.declared.bracket.Before.{Before}
use Rattle.determinize_syntax.specs.declared.bracket.Before.TheVariants.{AfterClass, AfterHyphen, AfterOne, AfterRange, First}
use Rattle.determinize_syntax.specs.declared.error.ErrorKind.{ErrorKind}
use Rattle.determinize_syntax.specs.declared.error.ErrorKind.TheVariants.{GroupNameDuplicate, NestLimitExceeded, OutOfMemory}
use Rattle.determinize_syntax.specs.declared.flags.Flags.{Flags}

abbrev pub Bytes : Type 0
Bytes = List ℕ

-- patterns one after the other; a single one is itself
abbrev pub sequence_of : List Re → Re
sequence_of (re ∷ []) = re
sequence_of res = patterns.sequence res

-- a character beyond ASCII
abbrev pub IsWide : ℕ → Type 0
IsWide c = (128 ≤ c) × IsScalar c

-- one byte of the set, or where `u` holds one character of it
abbrev pub IsOneOf : Bool → Set → Re → Type 0
IsOneOf false = IsClass
IsOneOf true = IsCharClass

-- one byte, or where `u` holds one character, by an escape: `\n`, `\*`, `\x41`, `\x{41}`
pub data Escaped : ℕ → Bytes → Type 0 where
  letter : (c b : ℕ) → escaped_byte c ≡ Some b → Escaped b (0x5C ∷ c ∷ [])
  two_digits : (c d b : ℕ) → number 16 (c ∷ d ∷ []) ≡ Some b
      → Escaped b (codes "\\x" ++ c ∷ d ∷ [])
  braces : (t : Bytes) (b : ℕ) → number 16 t ≡ Some b → b < 128
      → Escaped b (codes "\\x{" ++ t ++ codes "}")

-- a character beyond ASCII, as itself or by its number
pub data Wide : ℕ → Bytes → Type 0 where
  itself : (c : ℕ) → IsWide c → Wide c (encode_utf8 c)
  by_number : (c : ℕ) (t : Bytes) → number 16 t ≡ Some c → IsWide c
      → Wide c (codes "\\x{" ++ t ++ codes "}")

-- the end of a range in brackets
pub data Bound (f : Flags) : ℕ → Bytes → Type 0 where
  plain : (c : ℕ) → (is_ascii c && not (c ∈ "]\\-")) ≡ true → Bound f c (c ∷ [])
  escaped : (b : ℕ) (t : Bytes) → Escaped b t → Bound f b t
  character : (c : ℕ) (t : Bytes) → f.unicode ≡ true → Wide c t → Bound f c t

-- the byte is literal; `&&` and `~~` are not
abbrev pub stands : Before → ℕ → Bool
stands (AfterOne false b) c =
    is_ascii c && not (c ∈ "[]\\-") && not (b == c && c ∈ "&~")
stands _ c = is_ascii c && not (c ∈ "[]\\-")

-- a hyphen may be the last before the bracket closes
abbrev pub may_end : Before → Bool
may_end AfterClass = true
may_end (AfterOne _ _) = true
may_end _ = false

-- the inside of brackets, and the bytes or characters that it lists
pub data Lists (f : Flags) : Before → Set → Bytes → Type 0 where
  nothing : Lists f First (λ c. false) []
  closing : Lists f AfterRange (only 0x5D) (codes "]")
  hyphens : (s : Set) (t : Bytes) → Lists f First s t
      → Lists f First (joined s (only 0x2D)) (t ++ codes "-")
  hyphen : (s : Set) (t : Bytes) → Lists f AfterRange s t
      → Lists f AfterHyphen (joined s (only 0x2D)) (t ++ codes "-")
  byte : (p : Before) (s : Set) (t : Bytes) (c : ℕ) → Lists f p s t → stands p c ≡ true
      → Lists f (AfterOne false c) (joined s (only c)) (t ++ c ∷ [])
  escaped : (p : Before) (s : Set) (t u : Bytes) (b : ℕ) → Lists f p s t → Escaped b u
      → Lists f (AfterOne true b) (joined s (only b)) (t ++ u)
  character : (p : Before) (s : Set) (t u : Bytes) (c : ℕ) → Lists f p s t → f.unicode ≡ true
      → Wide c u → Lists f (AfterOne true c) (joined s (only c)) (t ++ u)
  class : (p : Before) (s : Set) (t : Bytes) (c : ℕ) (k : Set) → Lists f p s t
      → f.unicode ≡ false → perl_class c ≡ Some k
      → Lists f AfterClass (joined s k) (t ++ 0x5C ∷ c ∷ [])
  name : (p : Before) (s : Set) (t n : Bytes) (k : Set) → Lists f p s t
      → named_class n ≡ Some k
      → Lists f AfterRange (joined s (folded f k)) (t ++ codes "[:" ++ n ++ codes ":]")
  other_name : (p : Before) (s : Set) (t n : Bytes) (k : Set) → Lists f p s t
      → named_class n ≡ Some k → Lists f AfterRange
      (joined s (complement (folded f k))) (t ++ codes "[:^" ++ n ++ codes ":]")
  range : (e : Bool) (low high : ℕ) (s : Set) (t u : Bytes) → Lists f (AfterOne e low) s t
      → low ≤ high → Bound f high u
      → Lists f AfterRange (joined s (is_in_range low high)) (t ++ codes "-" ++ u)

-- the whole inside of brackets: not empty, and the last may be a hyphen
pub data Inside (f : Flags) : Set → Bytes → Type 0 where
  closed : (p : Before) (s : Set) (c : ℕ) (t : Bytes) → Lists f p s (c ∷ t) → Inside f s (c ∷ t)
  hyphen_last : (p : Before) (s : Set) (t : Bytes) → Lists f p s t → may_end p ≡ true
      → Inside f (joined s (only 0x2D)) (t ++ codes "-")

-- the flags that letters make of those of f: none comes twice; from a `-` on they are cleared
pub data Sets (f : Flags) : Bool → Flags → Bytes → Type 0 where
  no_letter : Sets f true f []
  flag : (on : Bool) (g h : Flags) (t : Bytes) (c : ℕ) → Sets f on g t
      → list_any (λ d. d == c) t ≡ false → set_flag g c on ≡ Some h → Sets f on h (t ++ c ∷ [])
  first_cleared : (g h : Flags) (t : Bytes) (c : ℕ) → Sets f true g t
      → list_any (λ d. d == c) t ≡ false → set_flag g c false ≡ Some h
      → Sets f false h (t ++ 0x2D ∷ c ∷ [])

-- the operator of a repetition
pub data Operator : ℕ → Option ℕ → Bytes → Type 0 where
  star : Operator 0 None (codes "*")
  plus : Operator 1 None (codes "+")
  query : Operator 0 (Some 1) (codes "?")
  exactly : (n : ℕ) (t : Bytes) → number 10 t ≡ Some n → n < 2 ^ 32
      → Operator n (Some n) (codes "{" ++ t ++ codes "}")
  at_least : (n : ℕ) (t : Bytes) → number 10 t ≡ Some n → n < 2 ^ 32
      → Operator n None (codes "{" ++ t ++ codes ",}")
  between : (n m : ℕ) (t u : Bytes) → number 10 t ≡ Some n → number 10 u ≡ Some m → n ≤ m
      → m < 2 ^ 32 → Operator n (Some m) (codes "{" ++ t ++ codes "," ++ u ++ codes "}")

-- the levels of a pattern; flags hold to the end of their group
mutual
  pub data Atom : Flags → Re → Bytes → Type 0 where
    plain : (f : Flags) (c : ℕ) (re : Re)
        → (is_ascii c && not (c ∈ "\\.+*?()|[{^$")) ≡ true → knows_cases f ≡ true
        → IsClass (folded f (only c)) re → Atom f re (c ∷ [])
    character : (f : Flags) (c : ℕ) (t : Bytes) → Wide c t → knows_cases f ≡ true
        → Atom f (literal (encode_utf8 c)) t
    dot : (f : Flags) (re : Re) → IsOneOf f.unicode (dot_set f) re → Atom f re (codes ".")
    line_start : (f : Flags) → Atom f (Look (at_line f Start StartLF StartCRLF)) (codes "^")
    line_end : (f : Flags) → Atom f (Look (at_line f End EndLF EndCRLF)) (codes "$")
    escaped : (f : Flags) (b : ℕ) (re : Re) (t : Bytes) → Escaped b t → knows_cases f ≡ true
        → IsOneOf f.unicode (folded f (only b)) re → Atom f re t
    class : (f : Flags) (c : ℕ) (s : Set) (re : Re) → perl_class c ≡ Some s → f.unicode ≡ false
        → IsClass s re → Atom f re (0x5C ∷ c ∷ [])
    asserted : (f : Flags) (t : Bytes) (look : _) → assertion t ≡ Some look
        → (not f.unicode || is_text_end look) ≡ true → Atom f (Look look) (0x5C ∷ t)
    brackets : (f : Flags) (s : Set) (re : Re) (c : ℕ) (t : Bytes) → Inside f s (c ∷ t)
        → not (c ∈ "^") ≡ true → knows_cases f ≡ true → IsOneOf f.unicode (folded f s) re
        → Atom f re (codes "[" ++ c ∷ t ++ codes "]")
    other_brackets : (f : Flags) (s : Set) (re : Re) (t : Bytes) → Inside f s t
        → knows_cases f ≡ true → IsOneOf f.unicode (complement (folded f s)) re
        → Atom f re (codes "[^" ++ t ++ codes "]")
    capture : (f g : Flags) (re : Re) (t : Bytes) → Choice f g re t
        → Atom f re (codes "(" ++ t ++ codes ")")
    named : (f g : Flags) (re : Re) (n t : Bytes) → is_name n ≡ true → Choice f g re t
        → Atom f re (codes "(?<" ++ n ++ codes ">" ++ t ++ codes ")")
    named_p : (f g : Flags) (re : Re) (n t : Bytes) → is_name n ≡ true → Choice f g re t
        → Atom f re (codes "(?P<" ++ n ++ codes ">" ++ t ++ codes ")")
    group : (f g h : Flags) (on : Bool) (re : Re) (n t : Bytes) → Sets f on g n → Choice g h re t
        → Atom f re (codes "(?" ++ n ++ codes ":" ++ t ++ codes ")")

  -- an atom and its operators; the flag says that a `?` would belong to the last operator
  pub data Repeated : Flags → Bool → Re → Bytes → Type 0 where
    once : (f : Flags) (re : Re) (t : Bytes) → Atom f re t → Repeated f false re t
    greedy : (f : Flags) (e : Bool) (re : Re) (t u : Bytes) (min : ℕ) (max : Option ℕ)
        → Repeated f e re t → Operator min max u → (e ≡ true → u ≡ codes "?" → ⊥)
        → Repeated f true (repeated min max (not f.swap_greed) re) (t ++ u)
    lazy : (f : Flags) (e : Bool) (re : Re) (t u : Bytes) (min : ℕ) (max : Option ℕ)
        → Repeated f e re t → Operator min max u → (e ≡ true → u ≡ codes "?" → ⊥)
        → Repeated f false (repeated min max f.swap_greed re) (t ++ u ++ codes "?")

  -- items one after the other, with the flags at the end
  pub data Items : Flags → Flags → List Re → Bytes → Type 0 where
    no_item : (f : Flags) → Items f f [] []
    item : (f g : Flags) (e : Bool) (res : List Re) (re : Re) (t u : Bytes) → Items f g res t
        → Repeated g e re u → Items f g (res ++ re ∷ []) (t ++ u)
    setting : (f g h : Flags) (on : Bool) (res : List Re) (t n : Bytes) (c : ℕ) → Items f g res t
        → Sets g on h (c ∷ n) → Items f h res (t ++ codes "(?" ++ c ∷ n ++ codes ")")

  -- branches, each with its bar
  pub data Branches : Flags → Flags → List Re → Bytes → Type 0 where
    no_branch : (f : Flags) → Branches f f [] []
    branch : (f g h : Flags) (bs res : List Re) (t u : Bytes) → Branches f g bs t
        → Items g h res u → Branches f h (bs ++ sequence_of res ∷ []) (t ++ u ++ codes "|")

  pub data Choice : Flags → Flags → Re → Bytes → Type 0 where
    branches : (f g h : Flags) (bs res : List Re) (t u : Bytes) → Branches f g bs t
        → Items g h res u → Choice f h (choice_of (bs ++ sequence_of res ∷ [])) (t ++ u)

-- the text denotes the pattern, with these flags at its beginning
abbrev pub SpellsUnder : Flags → Re → Bytes → Type 0
SpellsUnder f re text = (g : Flags) × Choice f g re text

-- the text denotes the pattern
abbrev pub Spells : Re → Bytes → Type 0
Spells = SpellsUnder no_flags

-- the errors that a text which denotes a pattern may have
abbrev pub is_limit : ErrorKind → Bool
is_limit OutOfMemory = true
is_limit NestLimitExceeded = true
is_limit GroupNameDuplicate = true
is_limit kind = false
