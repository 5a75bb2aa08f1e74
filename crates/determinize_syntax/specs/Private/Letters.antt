-- What may follow in a part of a text, byte by byte, up to its end: flags and brackets.
use Rattle.std.specs.Prelude.{◌≡◌, ◌≤◌, ◌++◌, ◌∷◌, ◌<◌, ◌&&◌, ◌==◌, ◌⊎◌, [], ℕ, Bool, Some, encode_utf8, false, not, true}
use Rattle.std.specs.Char.{is_ascii}
use Rattle.std.specs.List.{list_any}
use Rattle.determinize_syntax.specs.Private.Reading.{Part, one_byte}
use Rattle.determinize_syntax.specs.Spells.{Bytes, IsWide, may_end, stands}
use Rattle.determinize_syntax.specs.Words.{Set, ◌∈◌, assertion, named_class, number, set_flag}
use Rattle.determinize_syntax.specs.declared.bracket.Before.{Before}
use Rattle.determinize_syntax.specs.declared.bracket.Before.TheVariants.{AfterClass, AfterHyphen, AfterOne, AfterRange, First}
use Rattle.determinize_syntax.specs.declared.escape.Escape.{Escape}
use Rattle.determinize_syntax.specs.declared.escape.Escape.TheVariants as escape
use Rattle.determinize_syntax.specs.declared.flags.Flags.{Flags}

-- letters of flags, which make g of those so far, and then the text that is after them
pub data Letters (g : Flags) (after : Bytes) : Bytes → Bool → Flags → Bytes → Type 0 where
  no_letter : (seen : Bytes) (on : Bool) → Letters g after seen on g after
  flag : (seen : Bytes) (on : Bool) (f h : Flags) (c : ℕ) (s : Bytes)
      → list_any (λ d. d == c) seen ≡ false
      → set_flag f c on ≡ Some h → Letters g after (seen ++ c ∷ []) on h s
      → Letters g after seen on f (c ∷ s)
  cleared : (seen : Bytes) (f h : Flags) (c : ℕ) (s : Bytes) → list_any (λ d. d == c) seen ≡ false
      → set_flag f c false ≡ Some h → Letters g after (seen ++ 0x2D ∷ c ∷ []) false h s
      → Letters g after seen true f (0x2D ∷ c ∷ s)

-- the text d ∷ r is a character beyond ASCII and then s
abbrev pub IsWideAt : ℕ → ℕ → Bytes → Bytes → Type 0
IsWideAt c d r s = IsWide c × (is_ascii d ≡ false) × (d ∷ r ≡ encode_utf8 c ++ s)

-- an escape by its number, after its `\x`, up to the text u
pub data AtNumber (u : Bytes) : Escape → Bytes → Type 0 where
  two_digits : (c d b : ℕ) → number 16 (c ∷ d ∷ []) ≡ Some b
      → AtNumber u (escape.Byte b) (c ∷ d ∷ u)
  small : (n : ℕ) (r : Bytes) → Part r (0x7D ∷ u) (λ t. number 16 t ≡ Some n) → n < 128
      → AtNumber u (escape.Byte n) (0x7B ∷ r)
  large : (n : ℕ) (r : Bytes) → Part r (0x7D ∷ u) (λ t. number 16 t ≡ Some n) → IsWide n
      → AtNumber u (escape.Wide n) (0x7B ∷ r)

-- an escape after its backslash, up to the text u
pub data AtEscape (u : Bytes) : Escape → Bytes → Type 0 where
  one : (c : ℕ) (e : Escape) → one_byte c ≡ Some e → AtEscape u e (c ∷ u)
  by_number : (e : Escape) (r : Bytes) → AtNumber u e r → AtEscape u e (0x78 ∷ r)
  boundary : (e : Escape) (look : _) (r : Bytes) → e ≡ escape.Look look
      → Part r u (λ t. assertion (0x62 ∷ t) ≡ Some look) → AtEscape u e (0x62 ∷ r)

-- the escape is the end h of a range
abbrev pub IsEndOf : Flags → ℕ → Escape → Type 0
IsEndOf f h (escape.Byte c) = c ≡ h
IsEndOf f h (escape.Wide c) = (f.unicode ≡ true) × (c ≡ h)
IsEndOf f h _ = ⊥

-- the end h of a range, up to the text u
pub data AtBound (f : Flags) (h : ℕ) (u : Bytes) : Bytes → Type 0 where
  plain : (is_ascii h && not (h ∈ "]\\-")) ≡ true → AtBound f h u (h ∷ u)
  escaped : (e : Escape) (r : Bytes) → AtEscape u e r → IsEndOf f h e → AtBound f h u (0x5C ∷ r)
  wide : (d : ℕ) (r : Bytes) → f.unicode ≡ true → IsWideAt h d r u → AtBound f h u (d ∷ r)

-- an escape in brackets, and what is before the next place
abbrev pub Listed : Flags → Escape → Before → Type 0
Listed f (escape.Byte c) q = q ≡ AfterOne true c
Listed f (escape.Wide c) q = (f.unicode ≡ true) × (q ≡ AfterOne true c)
Listed f (escape.Class kind negated) q = (f.unicode ≡ false) × (q ≡ AfterClass)
Listed f (escape.Look look) q = ⊥

-- the name n after its bracket, and then s; the flag says that a `^` is before the name
abbrev pub NamedTo : Bytes → Bool → Bytes → Bytes
NamedTo n true s = 0x3A ∷ 0x5E ∷ (n ++ 0x3A ∷ 0x5D ∷ s)
NamedTo n false s = 0x3A ∷ (n ++ 0x3A ∷ 0x5D ∷ s)

mutual
  -- in brackets of which something is listed: the rest, the last bracket, and then the text u
  pub data Listing (f : Flags) (u : Bytes) : Before → Bytes → Type 0 where
    close : (p : Before) → Listing f u p (0x5D ∷ u)
    last_hyphen : (p : Before) → may_end p ≡ true → Listing f u p (0x2D ∷ 0x5D ∷ u)
    item : (p : Before) (t : Bytes) → Item f u p t → Listing f u p t

  -- an item and what may follow it, by the byte that is first
  pub data Item (f : Flags) (u : Bytes) : Before → Bytes → Type 0 where
    hyphens : (s : Bytes) → Listing f u First s → Item f u First (0x2D ∷ s)
    hyphen : (s : Bytes) → Listing f u AfterHyphen s → Item f u AfterRange (0x2D ∷ s)
    range : (e : Bool) (low high : ℕ) (r s : Bytes) → low ≤ high → AtBound f high s r
        → Listing f u AfterRange s → Item f u (AfterOne e low) (0x2D ∷ r)
    byte : (p : Before) (c : ℕ) (s : Bytes) → stands p c ≡ true → is_ascii c ≡ true
        → c ∈ "[]\\-" ≡ false → Listing f u (AfterOne false c) s → Item f u p (c ∷ s)
    wide : (p : Before) (c d : ℕ) (r s : Bytes) → f.unicode ≡ true → IsWideAt c d r s
        → Listing f u (AfterOne true c) s → Item f u p (d ∷ r)
    escaped : (p q : Before) (e : Escape) (r s : Bytes) → AtEscape s e r → Listed f e q
        → Listing f u q s → Item f u p (0x5C ∷ r)
    name : (p : Before) (n : Bytes) (k : Set) (negated : Bool) (s : Bytes) → named_class n ≡ Some k
        → Listing f u AfterRange s → Item f u p (0x5B ∷ NamedTo n negated s)

-- the inside of brackets from its beginning, the last bracket, and then the text u
abbrev pub Inner : Flags → Bytes → Bytes → Type 0
Inner f u t = ((s : Bytes) × (t ≡ 0x5D ∷ s) × Listing f u AfterRange s) ⊎ Item f u First t
