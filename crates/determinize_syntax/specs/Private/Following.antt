-- What may follow at a place of a text, token by token, up to the end of the text.
use Rattle.std.specs.Prelude.{◌≡◌, ◌<◌, ◌^◌, ◌++◌, ◌∷◌, ◌&&◌, ◌||◌, ◌⊎◌, [], ℕ, Bool, List, MatchResult, Option, Result, Some, false, not, slice_get, true}
use Rattle.std.specs.Char.{is_ascii, is_ascii_alphabetic, is_ascii_digit, is_digit}
use Rattle.determinize_syntax.specs.Spells.{Bytes, Operator, Sets, is_limit}
use Rattle.determinize_syntax.specs.Words.{◌∈◌, is_name, knows_cases, number}
use Rattle.determinize_syntax.specs.Private.Letters.{AtEscape, Inner, IsWideAt}
use Rattle.determinize_syntax.specs.Private.Reading.{Part, is_available}
use Rattle.determinize_syntax.specs.declared.escape.Escape.{Escape}
use Rattle.determinize_syntax.specs.declared.escape.Escape.TheVariants as escape
use Rattle.determinize_syntax.specs.declared.error.Rejection.{Rejection}
use Rattle.determinize_syntax.specs.declared.flags.Flags.{Flags}

-- what opens a group under f, after its parenthesis, up to s, and the flags g inside
pub data Enters (f : Flags) : Flags → Bytes → Bytes → Type 0 where
  capture : (s : Bytes) → Enters f f s s
  named : (n s : Bytes) → is_name n ≡ true → Enters f f (0x3F ∷ 0x3C ∷ (n ++ 0x3E ∷ s)) s
  named_p : (n s : Bytes) → is_name n ≡ true → Enters f f (0x3F ∷ 0x50 ∷ 0x3C ∷ (n ++ 0x3E ∷ s)) s
  group : (g : Flags) (on : Bool) (n s : Bytes) → Sets f on g n
      → Enters f g (0x3F ∷ (n ++ 0x3A ∷ s)) s

-- brackets after the first one, up to s
abbrev pub Bracketed : Flags → Bytes → Bytes → Type 0
Bracketed f s r = ((v : Bytes) × (r ≡ 0x5E ∷ v) × Inner f s v)
    ⊎ ((slice_get r 0 ≡ Some 0x5E → ⊥) × Inner f s r)

-- counts up to their last brace, after which w is
abbrev pub CountsTo : Bytes → Bytes → Type 0
CountsTo w s = (min : ℕ) × (max : Option ℕ) × Part s w (λ t. Operator min max (0x7B ∷ t))

-- the text may follow under flags f, inside groups around which the flags k hold
mutual
  -- where an item may begin
  pub data FromItem : List Flags → Flags → Bytes → Type 0 where
    ended : (f : Flags) → FromItem [] f []
    bar : (k : List Flags) (f : Flags) (s : Bytes) → FromItem k f s → FromItem k f (0x7C ∷ s)
    closed : (k : List Flags) (f g : Flags) (s : Bytes) → FromOperator k f false s
        → FromItem (f ∷ k) g (0x29 ∷ s)
    set : (k : List Flags) (f g : Flags) (on : Bool) (c : ℕ) (n s : Bytes) → Sets f on g (c ∷ n)
        → FromItem k g s → FromItem k f (0x28 ∷ 0x3F ∷ c ∷ (n ++ 0x29 ∷ s))
    atom : (k : List Flags) (f : Flags) (s : Bytes) → FromAtom k f s → FromItem k f s

  -- where an atom begins, by the byte that is first
  pub data FromAtom : List Flags → Flags → Bytes → Type 0 where
    plain : (k : List Flags) (f : Flags) (c : ℕ) (s : Bytes)
        → (is_ascii c && not (c ∈ "\\.+*?()|[{^$")) ≡ true → knows_cases f ≡ true
        → FromOperator k f false s → FromAtom k f (c ∷ s)
    wide : (k : List Flags) (f : Flags) (c d : ℕ) (r s : Bytes) → IsWideAt c d r s
        → knows_cases f ≡ true → FromOperator k f false s → FromAtom k f (d ∷ r)
    sign : (k : List Flags) (f : Flags) (c : ℕ) (s : Bytes) → c ∈ ".^$" ≡ true
        → FromOperator k f false s → FromAtom k f (c ∷ s)
    escaped : (k : List Flags) (f : Flags) (e : Escape) (r s : Bytes) → AtEscape s e r
        → is_available f e ≡ true → FromOperator k f false s → FromAtom k f (0x5C ∷ r)
    brackets : (k : List Flags) (f : Flags) (r s : Bytes) → Bracketed f s r → knows_cases f ≡ true
        → FromOperator k f false s → FromAtom k f (0x5B ∷ r)
    group : (k : List Flags) (f g : Flags) (r s : Bytes) → Enters f g r s → FromItem (f ∷ k) g s
        → FromAtom k f (0x28 ∷ r)

  -- after an atom, or an operator to which a `?` would belong if the flag is set
  pub data FromOperator : List Flags → Flags → Bool → Bytes → Type 0 where
    none : (k : List Flags) (f : Flags) (e : Bool) (s : Bytes) → FromItem k f s
        → FromOperator k f e s
    signed : (k : List Flags) (f : Flags) (e : Bool) (c : ℕ) (s : Bytes) → c ∈ "*+?" ≡ true
        → (e ≡ true → c ≡ 0x3F → ⊥) → AfterOperator k f s → FromOperator k f e (c ∷ s)
    counts : (k : List Flags) (f : Flags) (e : Bool) (r s : Bytes) → CountsTo s r
        → AfterOperator k f s → FromOperator k f e (0x7B ∷ r)

  -- after an operator, to which a `?` may belong
  pub data AfterOperator : List Flags → Flags → Bytes → Type 0 where
    greedy : (k : List Flags) (f : Flags) (s : Bytes) → FromOperator k f true s
        → AfterOperator k f s
    lazy : (k : List Flags) (f : Flags) (s : Bytes) → FromOperator k f false s
        → AfterOperator k f (0x3F ∷ s)

-- the end of a group, or of the text
abbrev pub IsEnd : Bytes → Type 0
IsEnd s = (s ≡ []) ⊎ ((w : Bytes) × (s ≡ 0x29 ∷ w))

-- the end of a branch
abbrev pub IsBranchEnd : Bytes → Type 0
IsBranchEnd s = IsEnd s ⊎ ((w : Bytes) × (s ≡ 0x7C ∷ w))

-- P holds of the value, unless a limit was met
abbrev pub Unlimited : {A : Type 0} → Result A Rejection → (A → Type 0) → Type 0
Unlimited result P = MatchResult result P (λ e. is_limit e.kind ≡ true)

-- a number that counts
abbrev pub IsCount : ℕ → Bytes → Type 0
IsCount n t = (number 10 t ≡ Some n) × (n < 2 ^ 32)

-- the text does not begin with a digit
abbrev pub NoDigit : ℕ → Bytes → Type 0
NoDigit radix s = (d : ℕ) → slice_get s 0 ≡ Some d → is_digit d radix ≡ false

-- a brace that is next begins counts
abbrev pub IsPastBoundary : Bytes → Type 0
IsPastBoundary s = (w : Bytes) → s ≡ 0x7B ∷ w
    → (c : ℕ) × (v : Bytes) × (w ≡ c ∷ v) × (is_ascii_digit c ≡ true)

-- the escape may be before the text
abbrev pub MayPrecede : Escape → Bytes → Type 0
MayPrecede e s = (look : _) → e ≡ escape.Look look → IsPastBoundary s

-- letters of flags end here
abbrev pub IsAfterLetters : Bytes → Type 0
IsAfterLetters s = (c : ℕ) × (w : Bytes) × (s ≡ c ∷ w) × (c ∈ ":)" ≡ true)

-- the byte may be in the name of a boundary
abbrev pub is_in_boundary : ℕ → Bool
is_in_boundary c = is_ascii_alphabetic c || c ∈ "-"
