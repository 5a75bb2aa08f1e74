-- The meaning of a pattern of the program.
use Rattle.std.specs.Prelude.{◌≡◌, ◌-◌, ℕ, Bool, List, None, Option, Some, [], ◌∷◌, cond, suc, zero}
use Rattle.determinize_pattern.specs.Classes.{HasBytes}
use Rattle.determinize_pattern.specs.Meaning.{Byte, Empty, Look, Or, Plus, Re, Then}
use Rattle.determinize_pattern.specs.declared.pattern.Pattern.{Pattern}
use Rattle.determinize_pattern.specs.declared.pattern.Pattern.TheOpen.{Pattern-F}
use Rattle.determinize_pattern.specs.declared.pattern.Pattern.TheFolds.{fold-Pattern}

-- one after the other
abbrev pub sequence : List Re → Re
sequence [] = Empty
sequence (a ∷ rest) = Then a (sequence rest)

-- one of these, the earlier preferred; without branches nothing matches
abbrev pub choice : List Re → Re
choice [] = Byte []
choice (a ∷ rest) = Or a (choice rest)

-- a choice between patterns; a single one is itself
abbrev pub choice_of : List Re → Re
choice_of (re ∷ []) = re
choice_of res = choice res

-- these bytes
abbrev pub literal : List ℕ → Re
literal [] = Empty
literal (b ∷ rest) = Then (Byte ((b, b) ∷ [])) (literal rest)

-- `a?`, or the lazy `a??`
abbrev pub optional : Bool → Re → Re
optional greedy a = cond greedy (Or a Empty) (Or Empty a)

-- n times a, and then b
abbrev pub copies : ℕ → Re → Re → Re
copies zero a b = b
copies (suc n) a b = Then a (copies n a b)

-- `a{0,3}` is `(a(a(a)?)?)?`
abbrev pub up_to : Bool → ℕ → Re → Re
up_to greedy zero a = Empty
up_to greedy (suc n) a = optional greedy (Then a (up_to greedy n a))

-- `a*` is `(a+)?`, and `a{3,}` is `aaa+`
abbrev pub at_least : Bool → ℕ → Re → Re
at_least greedy zero a = optional greedy (Plus greedy a)
at_least greedy (suc n) a = copies n a (Plus greedy a)

-- `a{min,max}`, or `a{min,}`
abbrev pub repeated : ℕ → Option ℕ → Bool → Re → Re
repeated min None greedy a = at_least greedy min a
repeated min (Some max) greedy a = copies min a (up_to greedy (max - min) a)

-- one level, with the meaning of each part in its place
abbrev pub node_meaning : Pattern-F Re → Re
node_meaning Pattern-F.Empty = Empty
node_meaning (Pattern-F.Literal bytes) = literal bytes.items
node_meaning (Pattern-F.Class ranges) = Byte ranges
node_meaning (Pattern-F.Look look) = Look look
node_meaning (Pattern-F.Repetition min max greedy sub) = repeated min max greedy sub.value
node_meaning (Pattern-F.Capture sub) = sub.value
node_meaning (Pattern-F.Concat subs) = sequence subs.items
node_meaning (Pattern-F.Alternation subs) = choice subs.items

-- the meaning of a pattern
abbrev pub meaning : Pattern → Re
meaning = fold-Pattern Re node_meaning

-- one byte of a class, whose bytes are those that pass the test
abbrev pub IsClass : (ℕ → Bool) → Re → Type 0
IsClass test re = (class : List (ℕ × ℕ)) × (re ≡ Byte class) × HasBytes test class
