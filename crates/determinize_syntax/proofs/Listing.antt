-- Rules of brackets whose parts were read.
-- Main statements: a lemma for each rule, and inside_closed, inside_hyphen, any_bracket_read.
-- Used by: the proofs of `bracket`.
-- Idea: a part extends what is listed, and ranges that are added have the bytes that it lists.
use Rattle.determinize_syntax.proofs.Common.{◌++◌, ◌<◌, ◌||◌, ◌∈◌, ◌∙◌, ◌∷◌, ◌≡◌, ◌≤◌, AddsChars, Atom, Before, Bool}
use Rattle.determinize_syntax.proofs.Common.{Bound, ClassKind, Escaped, Flags, HasChars, Inside, IsEscape, IsOneOf}
use Rattle.determinize_syntax.proofs.Common.{List, Lists, Part, Re, Set, Some, Text, Wide, [], ap, append_assoc, arith}
use Rattle.determinize_syntax.proofs.Common.{closed, codes, false, folded, is_in, knows_cases, length, list_any-append}
use Rattle.determinize_syntax.proofs.Common.{named_class, not, only, onward, prefixed, refl, renamed, set_of, slice_get}
use Rattle.determinize_syntax.proofs.Common.{subst, sym, true, turned, within, ℕ}
use Rattle.std.specs.Int.{is_in_range}
use Rattle.determinize_syntax.specs.Private.Brackets.{Extends, IsInside}
use Rattle.determinize_syntax.specs.Words.{complement, joined}
use Rattle.determinize_syntax.specs.declared.bracket.Before.TheVariants.{AfterClass, AfterHyphen, AfterOne, AfterRange}
use Rattle.determinize_syntax.specs.declared.bracket.Before.TheVariants.{First}
use Rattle.determinize_syntax.specs.declared.escape.Escape.TheVariants.{Class}
use Rattle.determinize_syntax.proofs.Escapes.{class_of, perl_class_of}
use Rattle.determinize_syntax.specs.Spells as s

abbrev pub Pairs : Type 0
Pairs = List (ℕ × ℕ)

-- with the characters of more ranges
has_joined : (r k : Set) (ranges more all : Pairs) → all ≡ ranges ++ more → HasChars r ranges → HasChars k more
    → HasChars (joined r k) all
has_joined r k ranges more all e h m c small =
    ap (λ l. is_in l (Some c)) e ∙ list_any-append (λ (x : ℕ × ℕ). within x.0 x.1 c) ranges more
    ∙ ap (λ x. x || is_in more (Some c)) (h c small) ∙ ap (λ x. r c || x) (m c small)

has_added : (r k : Set) (ranges all : Pairs) → AddsChars k ranges all → HasChars r ranges → HasChars (joined r k) all
has_added r k ranges all more h c small = more c small ∙ ap (λ x. x || k c) (h c small)

has_range : (low high : ℕ) → HasChars (is_in_range low high) ((low, high) ∷ [])
has_range low high c small = without (within low high c) where
  without : (x : Bool) → (x || false) ≡ x
  without true = refl
  without false = refl

pub has_only : (b : ℕ) → HasChars (only b) ((b, b) ∷ [])
has_only b c small = grind (arith)

with_one : (r : Set) (c : ℕ) (ranges all : Pairs) → all ≡ ranges ++ (c, c) ∷ [] → HasChars r ranges
    → HasChars (joined r (only c)) all
with_one r c ranges all e has = has_joined r (only c) ranges ((c, c) ∷ []) all e has (has_only c)

-- a literal byte, and one by an escape
pub plain_listed : (f : Flags) (p : Before) (c : ℕ) (ranges all : Pairs) → s.stands p c ≡ true
    → all ≡ ranges ++ (c, c) ∷ [] → Extends f p ranges (AfterOne false c) all (c ∷ [])
plain_listed f p c ranges all is e r u lists has =
    (joined r (only c), s.byte p r u c lists is, with_one r c ranges all e has)

pub escaped_listed : (f : Flags) (p : Before) (c : ℕ) (ranges all : Pairs) (t : Text) → Escaped c t
    → all ≡ ranges ++ (c, c) ∷ [] → Extends f p ranges (AfterOne true c) all t
escaped_listed f p c ranges all t x e r u lists has =
    (joined r (only c), s.escaped p r u t c lists x, with_one r c ranges all e has)

-- a character beyond ASCII
pub wide_listed : (f : Flags) (p : Before) (c : ℕ) (ranges all : Pairs) (t : Text) → f.unicode ≡ true → Wide c t
    → all ≡ ranges ++ (c, c) ∷ [] → Extends f p ranges (AfterOne true c) all t
wide_listed f p c ranges all t unicode x e r u lists has =
    (joined r (only c), s.character p r u t c lists unicode x, with_one r c ranges all e has)

-- a class by a letter
pub class_listed : (f : Flags) (p : Before) (kind : ClassKind) (negated : Bool) (ranges all : Pairs) (t : Text)
    → f.unicode ≡ false → IsEscape (Class kind negated) t → AddsChars (turned negated (set_of kind)) ranges all
    → Extends f p ranges AfterClass all t
class_listed f p kind negated ranges all t bytes x more r u lists has =
    let k = class_of (kind, negated) in (
      joined r k,
      rw x.2 (s.class p r u x.0 k lists bytes (rw x.1 at (perl_class_of x.0))),
      has_added r k ranges all more has,
    )

-- the name of a class after its bracket, negated or not
pub any_name_read : {a b c d e g : Text} (f : Flags) (p : Before) (n : Text) (k : Set) (negated : Bool)
    (ranges all : Pairs) → a ≡ 0x3A ∷ b → (negated ≡ true → b ≡ 0x5E ∷ c) → (negated ≡ false → c ≡ b)
    → c ≡ n ++ d → d ≡ 0x3A ∷ e → e ≡ 0x5D ∷ g → named_class n ≡ Some k
    → AddsChars (turned negated (folded f k)) ranges all → Part a g (λ t. Extends f p ranges AfterRange all (0x5B ∷ t))
any_name_read {a} {b} {c} {d} {e} {g} f p n k negated ranges all r1 r0 same r2 r3 r4 is =
    name negated r0 same where
      ending : Part c g (λ t. t ≡ n ++ codes ":]")
      ending = (n ++ codes ":]", rw (r2, r3, r4, append_assoc n (codes ":]") g) refl, refl)

      name : (negated : Bool) → (negated ≡ true → b ≡ 0x5E ∷ c) → (negated ≡ false → c ≡ b)
          → AddsChars (turned negated (folded f k)) ranges all
          → Part a g (λ t. Extends f p ranges AfterRange all (0x5B ∷ t))
      name true r0 same more =
          prefixed (λ t. Extends f p ranges AfterRange all (0x5B ∷ t)) r1
          (prefixed (λ t. Extends f p ranges AfterRange all (0x5B ∷ 0x3A ∷ t)) (r0 refl)
          (renamed _ (λ t. Extends f p ranges AfterRange all (0x5B ∷ 0x3A ∷ 0x5E ∷ t)) ending (λ t z r u lists h. (
            joined r (complement (folded f k)),
            rw z (simp append_assoc at (s.other_name p r u n k lists is)),
            has_added r (complement (folded f k)) ranges all more h,
          ))))
      name false r0 same more =
          let there : b ≡ c = sym (same refl) in
          prefixed (λ t. Extends f p ranges AfterRange all (0x5B ∷ t)) (r1 ∙ ap (λ w. 0x3A ∷ w) there)
          (renamed _ (λ t. Extends f p ranges AfterRange all (0x5B ∷ 0x3A ∷ t)) ending (λ t z r u lists h. (
            joined r (folded f k),
            rw z (simp append_assoc at (s.name p r u n k lists is)),
            has_added r (folded f k) ranges all more h,
          )))

-- hyphens
pub hyphens_listed : (f : Flags) (ranges all : Pairs) → all ≡ ranges ++ (0x2D, 0x2D) ∷ []
    → Extends f First ranges First all (0x2D ∷ [])
hyphens_listed f ranges all e r u lists has =
    (joined r (only 0x2D), s.hyphens r u lists, with_one r 0x2D ranges all e has)

pub hyphen_listed : (f : Flags) (ranges all : Pairs) → all ≡ ranges ++ (0x2D, 0x2D) ∷ []
    → Extends f AfterRange ranges AfterHyphen all (0x2D ∷ [])
hyphen_listed f ranges all e r u lists has =
    (joined r (only 0x2D), s.hyphen r u lists, with_one r 0x2D ranges all e has)

-- the end of a range
pub range_listed : (f : Flags) (e : Bool) (low high : ℕ) (ranges all : Pairs) (t : Text) → Bound f high t → low ≤ high
    → all ≡ ranges ++ (low, high) ∷ [] → Extends f (AfterOne e low) ranges AfterRange all (0x2D ∷ t)
range_listed f e low high ranges all t x le more r u lists has = (
  joined r (is_in_range low high),
  subst (Lists f AfterRange (joined r (is_in_range low high))) (append_assoc u (codes "-") t)
      (s.range e low high r u t lists le x),
  has_joined r (is_in_range low high) ranges ((low, high) ∷ []) all more has (has_range low high),
)

-- what was begun and more
abbrev pub Begun : Flags → Before → Pairs → Text → Text → Type 0
Begun f p ranges left t = (r : Set) × Lists f p r t × HasChars r ranges × (t ≡ [] → slice_get left 0 ≡ Some 0x5D → ⊥)

pub begun_more : {a b d : Text} (f : Flags) (p q : Before) (ranges all : Pairs) → Part a b (Begun f p ranges b)
    → Part b d (Extends f p ranges q all) → length d < length b → Part a d (Begun f q all d)
begun_more {a} {b} {d} f p q ranges all h k less =
    onward (Begun f p ranges b) (λ u. Extends f p ranges q all u × (b ≡ u ++ d)) (Begun f q all d) h
    (k.0, k.1, (k.2, k.1))
    (λ t u x y. let new = y.0 x.0 t x.1 x.2 in (new.0, new.1, new.2, λ e. absurd (longer t u y.1 e))) where
      longer : (t u : Text) → b ≡ u ++ d → t ++ u ≡ [] → ⊥
      longer [] [] e z = let same : length b ≡ length d = ap length e in omega arith
      longer [] (c ∷ u) e z = absurd (cc)
      longer (c ∷ t) u e z = absurd (cc)

-- the last bracket
pub inside_closed : {a b d : Text} (f : Flags) (p : Before) (ranges : Pairs) → Part a b (Begun f p ranges b)
    → b ≡ 0x5D ∷ d → Part a d (IsInside f ranges)
inside_closed {b = b} f p ranges h r = closed (Begun f p ranges b) (IsInside f ranges) h r inside where
  inside : (u : Text) → Begun f p ranges b u → IsInside f ranges (u ++ codes "]")
  inside [] x = absurd (x.3 refl (ap (λ l. slice_get l 0) r))
  inside (c ∷ u) x = (x.0, c ∷ u, s.closed p x.0 c u x.1, x.2, refl)

pub inside_hyphen : {a b d : Text} (f : Flags) (p : Before) (ranges all : Pairs) → Part a b (Begun f p ranges b)
    → b ≡ 0x2D ∷ 0x5D ∷ d → s.may_end p ≡ true → all ≡ ranges ++ (0x2D, 0x2D) ∷ [] → Part a d (IsInside f all)
inside_hyphen {b = b} f p ranges all h r may e =
    onward (Begun f p ranges b) (λ v. v ≡ 0x2D ∷ 0x5D ∷ []) (IsInside f all) h (0x2D ∷ 0x5D ∷ [], r, refl) (λ t v x y. (
      joined x.0 (only 0x2D),
      t ++ codes "-",
      s.hyphen_last p x.0 t x.1 may,
      with_one x.0 0x2D ranges all e x.2,
      ap (λ w. t ++ w) y ∙ sym (append_assoc t (codes "-") (codes "]")),
    ))

-- brackets
inside_cons : (f : Flags) (r : Set) (u : Text) → Inside f r u → (c : ℕ) × (t : Text) × (u ≡ c ∷ t)
inside_cons f r _ (s.closed p _ c t lists) = (c, t, refl)
inside_cons f r _ (s.hyphen_last p q [] lists may) = (0x2D, [], refl)
inside_cons f r _ (s.hyphen_last p q (c ∷ t) lists may) = (c, t ++ codes "-", refl)

not_caret : (c : ℕ) → (c ≡ 0x5E → ⊥) → not (c ∈ "^") ≡ true
not_caret c n = grind (arith, n)

pub any_bracket_read : {a b d : Text} (f : Flags) (negated : Bool) (ranges : Pairs) (re : Re)
    → (negated ≡ true → a ≡ 0x5E ∷ b) → (negated ≡ false → b ≡ a) → (negated ≡ false → slice_get a 0 ≡ Some 0x5E → ⊥)
    → Part b d (IsInside f ranges) → knows_cases f ≡ true
    → ((r : Set) → HasChars r ranges → IsOneOf f.unicode (turned negated (folded f r)) re)
    → Part a d (λ t. Atom f re (0x5B ∷ t))
any_bracket_read f true ranges re r same other h known has =
    prefixed (λ t. Atom f re (0x5B ∷ t)) (r refl) (renamed (IsInside f ranges) (λ t. Atom f re (0x5B ∷ 0x5E ∷ t)) h
    (λ t z. rw z.4 (s.other_brackets f z.0 re z.1 z.2 known (has z.0 z.3))))
any_bracket_read {a} {b} {d} f false ranges re r same other (t, e, (q, u, inside, chars, ends)) known has =
    (t, sym (same refl) ∙ e, rule (inside_cons f q u inside)) where
      rule : (c : ℕ) × (v : Text) × (u ≡ c ∷ v) → Atom f re (0x5B ∷ t)
      rule z = rw (ends, z.2) (s.brackets f q re z.0 z.1 (rw z.2 at inside)
          (not_caret z.0 (λ is. other refl (rw (← same refl, e, ends, z.2, is) refl))) known (has q chars))
