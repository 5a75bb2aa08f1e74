-- Bytes of a kind up to the first that is not.
-- Main statements: munch, names_same, looks, named_boundary, named_kind, name_passed.
-- Used by: the proofs that the parser rejects no name and no boundary.
-- Idea: two runs of bytes of a kind, both followed by none of the kind, are the same.
use Rattle.determinize_syntax.proofs.Common.{List, nat_lt}
use Rattle.determinize_syntax.proofs.Common.{◌&&◌, ◌++◌, ◌==◌, ◌||◌, ◌∈◌, ◌∙◌, ◌∷◌, ◌≡◌, ◌⊎◌, Bool, Bytes, ClassKind}
use Rattle.determinize_syntax.proofs.Common.{IsPastBoundary, Look, NamedTo, None, Part, Set, Some, String, []}
use Rattle.determinize_syntax.proofs.Common.{and_parts, ap, append_assoc, arith, assertion, begins_name, by_cases}
use Rattle.determinize_syntax.proofs.Common.{chosen, clash, codes, either, eqb-true, false, heads, inl, inr}
use Rattle.determinize_syntax.proofs.Common.{is_in_boundary, is_in_name, is_name, length, list_all, list_all-append}
use Rattle.determinize_syntax.proofs.Common.{name_of, named_class, nat_eq, nat_tests, not, refl, slice_get}
use Rattle.determinize_syntax.proofs.Common.{some_injective, subst, sym, tails, true, ℕ}
use Rattle.std.specs.Char.{is_ascii_digit}
use Rattle.std.proofs.lemmas.Slice.Eq.{bytes_eq-Decides}
use Rattle.std.proofs.lemmas.List.{append_cancel_right}
use Rattle.determinize_syntax.specs.declared.kind.ClassKind.TheVariants.{Alnum, Alpha, Ascii, Blank, Cntrl, Digit}
use Rattle.determinize_syntax.specs.declared.kind.ClassKind.TheVariants.{Graph, Lower, Print, Punct, Space, Upper, Word}
use Rattle.determinize_syntax.specs.declared.kind.ClassKind.TheVariants.{Xdigit}
use lib.Pointwise.{pointwise}
use Rattle.determinize_syntax.specs.Words.{is_text}
use Rattle.determinize_syntax.proofs.Bytes.{within}

-- the text does not begin with a byte of the kind
abbrev pub IsPast : (ℕ → Bool) → Bytes → Type 0
IsPast p t = (c : ℕ) → slice_get t 0 ≡ Some c → p c ≡ false

abbrev pub All : (ℕ → Bool) → Bytes → Type 0
All p t = list_all p t ≡ true

pub munch : (p : ℕ → Bool) (t n x y : Bytes) → All p t → All p n → t ++ x ≡ n ++ y → IsPast p x → IsPast p y
    → (t ≡ n) × (x ≡ y)
munch p [] [] x y at an e px py = (refl, e)
munch p [] (d ∷ n) x y at an e px py =
    let yes : p d ≡ true = (and_parts (p d) (list_all p n) an).0 in
    let never : p d ≡ false = px d (ap (λ l. slice_get l 0) e) in absurd (cc)
munch p (c ∷ t) [] x y at an e px py =
    let yes : p c ≡ true = (and_parts (p c) (list_all p t) at).0 in
    let never : p c ≡ false = py c (ap (λ l. slice_get l 0) (sym e)) in absurd (cc)
munch p (c ∷ t) (d ∷ n) x y at an e px py =
    let same = munch p t n x y (and_parts (p c) (list_all p t) at).1 (and_parts (p d) (list_all p n) an).1 (cc) px py in
    let first : c ≡ d = (cc) in (rw (first, same.0) refl, same.1)

-- a letter that begins a name is in names
begin_in : (c : ℕ) → begins_name c ≡ true → is_in_name c ≡ true
begin_in c e = grind (arith, nat_tests)

pub all_in_name : (n : Bytes) → is_name n ≡ true → All is_in_name n
all_in_name [] e = absurd (cc)
all_in_name (c ∷ n) e =
    let both = and_parts (begins_name c) (list_all is_in_name n) e in
    ap (λ b. b && list_all is_in_name n) (begin_in c both.0) ∙ both.1

-- a name that was read is the one that is there
pub names_same : (t n x u : Bytes) → is_name t ≡ true → is_name n ≡ true → t ++ x ≡ n ++ 0x3E ∷ u → IsPast is_in_name x
    → x ≡ 0x3E ∷ u
names_same t n x u is_t is_n e past =
    (munch is_in_name t n x (0x3E ∷ u) (all_in_name t is_t) (all_in_name n is_n) e past ends).1 where
      ends : IsPast is_in_name (0x3E ∷ u)
      ends c s = subst (λ d. is_in_name d ≡ false) (some_injective 0x3E c s) refl

-- a name begins so
pub name_begins : (n w a : Bytes) → is_name n ≡ true → a ≡ n ++ w → (c : ℕ) × (v : Bytes) × (a ≡ c ∷ v)
    × (begins_name c ≡ true)
name_begins [] w a e r = absurd (cc)
name_begins (c ∷ n) w a e r = (c, n ++ w, r, (and_parts (begins_name c) (list_all is_in_name n) e).0)

-- a text that is tested to be another one
pub text_is : (t s : Bytes) → pointwise nat_eq t s ≡ true → t ≡ s
text_is t s e = (bytes_eq-Decides t s).0 e

-- a text that is tested to be no other one
pub text_differs : (t s : Bytes) → pointwise nat_eq t s ≡ false → t ≡ s → ⊥
text_differs t s e same = clash ((bytes_eq-Decides t s).1 same) e

-- the name of a boundary in its braces
abbrev pub InBraces : Bytes → Type 0
InBraces t = (c : ℕ) × (n : Bytes) × (t ≡ 0x7B ∷ c ∷ (n ++ 0x7D ∷ [])) × All is_in_boundary (c ∷ n)

-- an assertion is one byte, or `\b` without a name or with one
pub looks : (look : Look) (t : Bytes) → assertion t ≡ Some look
    → ((c : ℕ) × (c ∈ "AzB<>" ≡ true) × (t ≡ c ∷ [])) ⊎ ((v : Bytes) × ((v ≡ []) ⊎ InBraces v) × (t ≡ 0x62 ∷ v))
looks look t =
    chosen (is_text "A" t) _ _ (sign 0x41 refl) (chosen (is_text "z" t) _ _ (sign 0x7A refl)
    (chosen (is_text "b" t) _ _ (λ h e. inr ([], inl refl, text_is t (codes "b") h))
    (chosen (is_text "B" t) _ _ (sign 0x42 refl) (chosen (is_text "<" t || is_text "b{start}" t) _ _
    (λ h e. either (is_text "<" t) _ (λ i. sign 0x3C refl i e) (λ i. named 0x73 (codes "tart") refl i e) h)
    (chosen (is_text ">" t || is_text "b{end}" t) _ _
    (λ h e. either (is_text ">" t) _ (λ i. sign 0x3E refl i e) (λ i. named 0x65 (codes "nd") refl i e) h)
    (chosen (is_text "b{start-half}" t) _ _ (named 0x73 (codes "tart-half") refl)
    (chosen (is_text "b{end-half}" t) _ _ (named 0x65 (codes "nd-half") refl) (λ e. absurd (cc))))))))) where
      sign : {B : Type 0} (c : ℕ) → c ∈ "AzB<>" ≡ true → pointwise nat_eq t (c ∷ []) ≡ true → B
          → ((c : ℕ) × (c ∈ "AzB<>" ≡ true) × (t ≡ c ∷ [])) ⊎ ((v : Bytes) × ((v ≡ []) ⊎ InBraces v) × (t ≡ 0x62 ∷ v))
      sign c is h e = inl (c, is, text_is t (c ∷ []) h)

      named : {B : Type 0} (c : ℕ) (n : Bytes) → All is_in_boundary (c ∷ n)
          → pointwise nat_eq t (0x62 ∷ 0x7B ∷ c ∷ (n ++ 0x7D ∷ [])) ≡ true → B
          → ((c : ℕ) × (c ∈ "AzB<>" ≡ true) × (t ≡ c ∷ [])) ⊎ ((v : Bytes) × ((v ≡ []) ⊎ InBraces v) × (t ≡ 0x62 ∷ v))
      named c n all h e =
          inr (0x7B ∷ c ∷ (n ++ 0x7D ∷ []), inr (c, n, refl, all), text_is t (0x62 ∷ 0x7B ∷ c ∷ (n ++ 0x7D ∷ [])) h)

-- `\b` without a name, or with one
boundary_looks : (look : Look) (t : Bytes) → assertion (0x62 ∷ t) ≡ Some look → (t ≡ []) ⊎ InBraces t
boundary_looks look t e =
    by_cases (looks look (0x62 ∷ t) e)
    (λ x. let text = x.2 in let same : x.0 ≡ 0x62 = (cc) in let never : false ≡ true = rw same at x.1 in absurd (cc))
    (λ x. let text = x.2 in let same : t ≡ x.0 = (cc) in rw same x.1)

pub all_more : (p : ℕ → Bool) (t : Bytes) (c : ℕ) → All p t → p c ≡ true → All p (t ++ c ∷ [])
all_more p t c all one = list_all-append p t (c ∷ []) ∙ ap (λ b. b && (p c && true)) all ∙ ap (λ b. b && true) one

digit_no_letter : (d : ℕ) → is_ascii_digit d ≡ true → is_in_boundary d ≡ false
digit_no_letter d e = grind (arith)

-- a boundary whose letters were passed: none, and then counts follow, or its whole name
abbrev pub BoundaryCase : Look → Bytes → Bytes → Bytes → Bytes → Type 0
BoundaryCase look a u m x =
    ((a ≡ u) × (m ≡ []) × (assertion (0x62 ∷ []) ≡ Some look))
    ⊎ ((m ≡ [] → ⊥) × (x ≡ 0x7D ∷ u) × (assertion (codes "b{" ++ m ++ codes "}") ≡ Some look))

boundary_case : (look : Look) (a u r m x : Bytes) → Part a u (λ t. assertion (0x62 ∷ t) ≡ Some look) → IsPastBoundary u
    → a ≡ 0x7B ∷ r → r ≡ m ++ x → All is_in_boundary m → IsPast is_in_boundary x → BoundaryCase look a u m x
boundary_case look a u r m x (t, e, is) past brace name letters after =
    by_cases (boundary_looks look t is) unnamed named where
      unnamed : t ≡ [] → BoundaryCase look a u m x
      unnamed none =
          let same : a ≡ u = e ∙ ap (λ l. l ++ u) none in
          let d = past r (sym same ∙ brace) in
          inl (same, no_letters m name letters, subst (λ l. assertion (0x62 ∷ l) ≡ Some look) none is) where
            no_letters : (m : Bytes) → r ≡ m ++ x → All is_in_boundary m → m ≡ []
            no_letters [] name letters = refl
            no_letters (c ∷ m) name letters =
                let d = past r (sym (e ∙ ap (λ l. l ++ u) none) ∙ brace) in
                let text = d.2 in let same : c ≡ d.0 = (cc) in
                let yes : is_in_boundary c ≡ true =
                (and_parts (is_in_boundary c) (list_all is_in_boundary m) letters).0 in
                let never : true ≡ false = sym yes ∙ ap is_in_boundary same ∙ digit_no_letter d.0 d.3 in absurd (cc)

      named : InBraces t → BoundaryCase look a u m x
      named b =
          let whole : 0x7B ∷ r ≡ 0x7B ∷ b.0 ∷ (b.1 ++ 0x7D ∷ u) = sym brace ∙ e ∙ ap (λ l. l ++ u) b.2
          ∙ ap (λ l. 0x7B ∷ b.0 ∷ l) (append_assoc b.1 (0x7D ∷ []) u) in
          let text : r ≡ (b.0 ∷ b.1) ++ (0x7D ∷ u) = (cc) in
          let same = munch is_in_boundary m (b.0 ∷ b.1) x (0x7D ∷ u) letters b.3 (sym name ∙ text) after ends in
          inr (
            λ none. (let never : [] ≡ b.0 ∷ b.1 = sym none ∙ same.0 in absurd (cc)),
            same.1,
            subst (λ l. assertion (codes "b{" ++ l ++ codes "}") ≡ Some look) (sym same.0)
                (subst (λ l. assertion (0x62 ∷ l) ≡ Some look) b.2 is),
          ) where
            ends : IsPast is_in_boundary (0x7D ∷ u)
            ends c s = subst (λ d. is_in_boundary d ≡ false) (some_injective 0x7D c s) refl

-- where the name that was passed is n
pub named_boundary : {a u r x n : Bytes} (look : Look) → Part a u (λ t. assertion (0x62 ∷ t) ≡ Some look)
    → IsPastBoundary u → a ≡ 0x7B ∷ r → Part r x (All is_in_boundary) → IsPast is_in_boundary x
    → ((t : Bytes) → r ≡ t ++ x → n ≡ t) → BoundaryCase look a u n x
named_boundary {a} {u} {r} {x} look h past brace (m, name, letters) after is =
    rw (is m name) (boundary_case look a u r m x h past brace name letters after)

pub nil_when : (t : Bytes) → (length t == 0) ≡ true → t ≡ []
nil_when [] e = refl
nil_when (c ∷ t) e = let same : length (c ∷ t) ≡ 0 = eqb-true (length (c ∷ t)) 0 e in absurd (omega (arith, same))

pub filled : (t : Bytes) → (length t == 0) ≡ false → t ≡ [] → ⊥
filled t e none = let never : true ≡ false = ap (λ l. length l == 0) (sym none) ∙ e in absurd (cc)

-- a text that is none of the four names names no boundary
pub no_boundary : (n : Bytes) (look : Look) → (n ≡ codes "start" → ⊥) → (n ≡ codes "end" → ⊥)
    → (n ≡ codes "start-half" → ⊥) → (n ≡ codes "end-half" → ⊥) → assertion (codes "b{" ++ n ++ codes "}") ≡ Some look
    → ⊥
no_boundary n look start end start_half end_half =
    chosen (is_text "b{start}" (codes "b{" ++ n ++ codes "}")) _ _ (λ h e. start (named "start" (text_is _ _ h)))
    (chosen (is_text "b{end}" (codes "b{" ++ n ++ codes "}")) _ _ (λ h e. end (named "end" (text_is _ _ h)))
    (chosen (is_text "b{start-half}" (codes "b{" ++ n ++ codes "}")) _ _
    (λ h e. start_half (named "start-half" (text_is _ _ h)))
    (chosen (is_text "b{end-half}" (codes "b{" ++ n ++ codes "}")) _ _
    (λ h e. end_half (named "end-half" (text_is _ _ h))) (λ e. (let never : None ≡ Some look = e in absurd (cc))))))
  where
    named : (s : String) → codes "b{" ++ n ++ codes "}" ≡ codes "b{" ++ codes s ++ codes "}" → n ≡ codes s
    named s same =
        let rest : n ++ codes "}" ≡ codes s ++ codes "}" = (cc) in append_cancel_right n (codes s) (codes "}") rest

-- the kinds of classes in their order
abbrev pub kinds : List ClassKind
kinds = Alnum ∷ Alpha ∷ Ascii ∷ Blank ∷ Cntrl ∷ Digit ∷ Graph ∷ Lower ∷ Print ∷ Punct ∷ Space ∷ Upper ∷ Word ∷ Xdigit
    ∷ []

-- each name of a class is that of a kind, and has letters
pub named_kind : (n : Bytes) (s : Set) → named_class n ≡ Some s
    → (i : ℕ) × (k : ClassKind) × (slice_get kinds i ≡ Some k) × (n ≡ codes (name_of k))
    × ((nat_lt i 14 && list_all is_in_boundary (codes (name_of k))) ≡ true)
named_kind n s =
    chosen (is_text "alnum" n) _ _ (kind 0 Alnum refl refl) (chosen (is_text "alpha" n) _ _ (kind 1 Alpha refl refl)
    (chosen (is_text "ascii" n) _ _ (kind 2 Ascii refl refl) (chosen (is_text "blank" n) _ _ (kind 3 Blank refl refl)
    (chosen (is_text "cntrl" n) _ _ (kind 4 Cntrl refl refl) (chosen (is_text "digit" n) _ _ (kind 5 Digit refl refl)
    (chosen (is_text "graph" n) _ _ (kind 6 Graph refl refl) (chosen (is_text "lower" n) _ _ (kind 7 Lower refl refl)
    (chosen (is_text "print" n) _ _ (kind 8 Print refl refl) (chosen (is_text "punct" n) _ _ (kind 9 Punct refl refl)
    (chosen (is_text "space" n) _ _ (kind 10 Space refl refl) (chosen (is_text "upper" n) _ _ (kind 11 Upper refl refl)
    (chosen (is_text "word" n) _ _ (kind 12 Word refl refl) (chosen (is_text "xdigit" n) _ _ (kind 13 Xdigit refl refl)
    (λ e. absurd (cc))))))))))))))) where
      kind : {B : Type 0} (i : ℕ) (k : ClassKind) → slice_get kinds i ≡ Some k
          → (nat_lt i 14 && list_all is_in_boundary (codes (name_of k))) ≡ true
          → pointwise nat_eq n (codes (name_of k)) ≡ true → B
          → (i : ℕ) × (k : ClassKind) × (slice_get kinds i ≡ Some k) × (n ≡ codes (name_of k))
          × ((nat_lt i 14 && list_all is_in_boundary (codes (name_of k))) ≡ true)
      kind i k at letters h e = (i, k, at, text_is n (codes (name_of k)) h, letters)

named_letters : (n : Bytes) (s : Set) → named_class n ≡ Some s → All is_in_boundary n
named_letters n s e = let x = named_kind n s e in rw x.3 (and_parts (nat_lt x.0 14) _ x.4).1

-- no name begins with the sign
pub name_sign : {A : Type 0} (n w a : Bytes) → is_name n ≡ true → a ≡ n ++ w → (d : ℕ) (t : Bytes) → a ≡ d ∷ t
    → (d ∈ "=!>") ≡ true → A
name_sign n w a is e d t r sign =
    let x = name_begins n w a is e in
    let text = x.2 in let same : x.0 ≡ d = (cc) in
    let other : not (begins_name d) ≡ true = within (λ y. not (begins_name y)) (codes "=!>") d sign refl in
    let never : false ≡ true = ap not (sym (subst (λ y. begins_name y ≡ true) same x.3)) ∙ other in absurd (cc)

-- the rest of the name of a class after the `^` if there is one
name_after : (n : Bytes) (s : Set) (a b w : Bytes) (caret negated : Bool) → named_class n ≡ Some s
    → 0x3A ∷ a ≡ NamedTo n caret w → (negated ≡ true → a ≡ 0x5E ∷ b) → (negated ≡ false → b ≡ a)
    → (negated ≡ false → slice_get a 0 ≡ Some 0x5E → ⊥) → b ≡ n ++ 0x3A ∷ 0x5D ∷ w
name_after n s a b w true true is e read same other = tails (sym (read refl) ∙ tails e)
name_after n s a b w false true is e read same other = begins n (named_letters n s is) (sym (tails e) ∙ read refl) where
  begins : (m : Bytes) → All is_in_boundary m → m ++ 0x3A ∷ 0x5D ∷ w ≡ 0x5E ∷ b → b ≡ n ++ 0x3A ∷ 0x5D ∷ w
  begins [] letters r = absurd (omega (arith, heads r))
  begins (c ∷ m) letters r =
      let yes = rw (heads r) at (and_parts (is_in_boundary c) (list_all is_in_boundary m) letters).0 in clash yes refl
name_after n s a b w false false is e read same other = same refl ∙ tails e
name_after n s a b w true false is e read same other = absurd (other refl (ap (λ l. slice_get l 0) (tails e)))

-- the name of a class that was passed, and its end
pub name_passed : {a b w x m : Bytes} (n : Bytes) (s : Set) (caret negated : Bool) → named_class n ≡ Some s
    → 0x3A ∷ a ≡ NamedTo n caret w → (negated ≡ true → a ≡ 0x5E ∷ b) → (negated ≡ false → b ≡ a)
    → (negated ≡ false → slice_get a 0 ≡ Some 0x5E → ⊥) → Part b x (All is_in_boundary) → IsPast is_in_boundary x
    → ((t : Bytes) → b ≡ t ++ x → m ≡ t) → (m ≡ n) × (x ≡ 0x3A ∷ 0x5D ∷ w)
name_passed {a} {b} {w} {x} n s caret negated is e read same other (t, f, all) past since =
    let there = name_after n s a b w caret negated is e read same other in
    let both = munch is_in_boundary t n x (0x3A ∷ 0x5D ∷ w) all (named_letters n s is) (sym f ∙ there) past colon in
    (since t f ∙ both.0, both.1) where
      colon : IsPast is_in_boundary (0x3A ∷ 0x5D ∷ w)
      colon c at = rw (← some_injective 0x3A c at) refl
