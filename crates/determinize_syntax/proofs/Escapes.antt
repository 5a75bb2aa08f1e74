-- Escapes that may follow at a place, by the byte after the backslash.
-- Main statements: escaped_at, wide_at, bound_at, class_at, asserted_at, one_escape, one_next, other_escape,
--   past_boundary.
-- Used by: the proofs that the parser rejects no escape.
-- Idea: the byte after the backslash decides which escape it is, since no two kinds have one in common.
use Rattle.determinize_syntax.proofs.Common.{◌++◌, ◌∈◌, ◌∙◌, ◌∷◌, ◌≡◌, ◌⊎◌, AtBound, AtEscape, AtNumber, Bool, Bound}
use Rattle.determinize_syntax.proofs.Common.{Bytes, ClassKind, Escape, Escaped, Flags, FromOperator, IsEscape}
use Rattle.determinize_syntax.proofs.Common.{IsPastBoundary, IsWideAt, List, Look, None, Option, Part, Set, Some}
use Rattle.determinize_syntax.proofs.Common.{String, Wide, [], ap, apart, append_assoc, arith, assertion, by_cases}
use Rattle.determinize_syntax.proofs.Common.{by_test, chosen, codes, encode_utf8, false, if◌then◌else◌, inl, inr}
use Rattle.determinize_syntax.proofs.Common.{is_some, list_all, refl, set_of, some_injective, sym, true, turned, ℕ}
use Rattle.std.specs.Option.{option_map}
use Rattle.determinize_syntax.specs.Private.Reading.{one_byte}
use Rattle.determinize_syntax.specs.Private.Sets.{perl_of}
use Rattle.determinize_syntax.specs.Words.{escaped_byte, perl_class}
use Rattle.determinize_syntax.specs.declared.kind.ClassKind.TheVariants.{Digit, Space, Word}
use Rattle.determinize_syntax.proofs.Bytes.{within}
use Rattle.determinize_syntax.proofs.Counting.{first_count}
use Rattle.determinize_syntax.proofs.Munch.{looks}
use Rattle.determinize_syntax.proofs.Numbers.{number_begins}
use Rattle.determinize_syntax.proofs.Stepping.{counts_begin, encode_starts}
use Rattle.determinize_syntax.specs.Private.Letters as to
use Rattle.determinize_syntax.specs.Spells as s
use Rattle.determinize_syntax.specs.declared.escape.Escape.TheVariants as escape

-- each class by a letter is that of its kind
module _ (f : ClassKind × Bool → Set) where
  of_kind : (b : Bool) (x : ClassKind × Bool) (y : Option (ClassKind × Bool)) (z : Option Set) → z ≡ option_map f y
      → (if b then Some (f x) else z) ≡ option_map f (if b then Some x else y)
  of_kind true x y z e = refl
  of_kind false x y z e = e

abbrev pub class_of : ClassKind × Bool → Set
class_of x = turned x.1 (set_of x.0)

pub perl_class_of : (c : ℕ) → perl_class c ≡ option_map class_of (perl_of c)
perl_class_of c =
    of_kind class_of (c ∈ "d") (Digit, false) _ _ (of_kind class_of (c ∈ "D") (Digit, true) _ _
    (of_kind class_of (c ∈ "w") (Word, false) _ _ (of_kind class_of (c ∈ "W") (Word, true) _ _
    (of_kind class_of (c ∈ "s") (Space, false) _ _ (of_kind class_of (c ∈ "S") (Space, true) _ _ refl)))))

pub perl_kinds : (c : ℕ) (s : Set) → perl_class c ≡ Some s → (k : ClassKind) × (n : Bool) × (perl_of c ≡ Some (k, n))
perl_kinds c s e = kinds (perl_of c) refl where
  kinds : (o : Option (ClassKind × Bool)) → perl_of c ≡ o → (k : ClassKind) × (n : Bool) × (perl_of c ≡ Some (k, n))
  kinds (Some x) is = (x.0, x.1, is)
  kinds None is = let never : None ≡ Some s = sym (perl_class_of c ∙ ap (option_map class_of) is) ∙ e in absurd (cc)

perl_letters : (c : ℕ) (x : ClassKind × Bool) → perl_of c ≡ Some x → c ∈ "dDwWsS" ≡ true
perl_letters c x =
    chosen (c ∈ "d") _ _ (listed "d" refl) (chosen (c ∈ "D") _ _ (listed "D" refl)
    (chosen (c ∈ "w") _ _ (listed "w" refl) (chosen (c ∈ "W") _ _ (listed "W" refl)
    (chosen (c ∈ "s") _ _ (listed "s" refl) (chosen (c ∈ "S") _ _ (listed "S" refl) (λ e. absurd (cc))))))) where
      listed : {B : Type 0} (l : String) → list_all (λ y. y ∈ "dDwWsS") (codes l) ≡ true → c ∈ l ≡ true → B
          → c ∈ "dDwWsS" ≡ true
      listed l all t e = within (λ y. y ∈ "dDwWsS") (codes l) c t all

-- the escapes of one byte
one_class : (c : ℕ) (k : ClassKind) (n : Bool) → perl_of c ≡ Some (k, n) → one_byte c ≡ Some (escape.Class k n)
one_class c k n e =
    let l = perl_letters c (k, n) e in
    let a = apart (λ y. y ∈ "dDwWsS") (codes "AzB<>") c l refl in
    simp (a, l, e)

one_letter : (c b : ℕ) → escaped_byte c ≡ Some b → one_byte c ≡ Some (escape.Byte b)
one_letter c b e =
    let is : is_some (escaped_byte c) ≡ true = ap is_some e in
    let a = apart (λ y. is_some (escaped_byte y)) (codes "AzB<>") c is refl in
    let l = apart (λ y. is_some (escaped_byte y)) (codes "dDwWsS") c is refl in
    simp (a, l, e)

one_look : (c : ℕ) (look : Look) → c ∈ "AzB<>" ≡ true → assertion (c ∷ []) ≡ Some look
    → one_byte c ≡ Some (escape.Look look)
one_look c look a e = simp (a, e)

-- the text of an escape of one byte
pub one_escape : (c : ℕ) (e : Escape) → one_byte c ≡ Some e → IsEscape e (0x5C ∷ c ∷ [])
one_escape c e is =
    by_test (c ∈ "AzB<>") (λ t. look (assertion (c ∷ [])) refl (simp t at is))
    (λ f. by_test (c ∈ "dDwWsS") (λ t. class (perl_of c) refl (simp (f, t) at is))
    (λ g. byte (escaped_byte c) refl (simp (f, g) at is))) where
      look : (o : Option Look) → assertion (c ∷ []) ≡ o → option_map (λ l. escape.Look l) o ≡ Some e
          → IsEscape e (0x5C ∷ c ∷ [])
      look None o x = absurd (cc)
      look (Some l) o x = let same : escape.Look l ≡ e = (cc) in rw (← same) (c ∷ [], o, refl)

      class : (o : Option (ClassKind × Bool)) → perl_of c ≡ o → option_map (λ x. escape.Class x.0 x.1) o ≡ Some e
          → IsEscape e (0x5C ∷ c ∷ [])
      class None o x = absurd (cc)
      class (Some k) o x = let same : escape.Class k.0 k.1 ≡ e = (cc) in rw (← same) (c, o, refl)

      byte : (o : Option ℕ) → escaped_byte c ≡ o → option_map (λ b. escape.Byte b) o ≡ Some e
          → IsEscape e (0x5C ∷ c ∷ [])
      byte None o x = absurd (cc)
      byte (Some b) o x = let same : escape.Byte b ≡ e = (cc) in rw (← same) (s.letter c b o)

-- an escape after its backslash, by the rule that it is read by
pub escaped_at : (b : ℕ) (t : Bytes) → Escaped b t → (u : Bytes)
    → (r : Bytes) × (t ++ u ≡ 0x5C ∷ r) × AtEscape u (escape.Byte b) r
escaped_at b t (s.letter c _ is) u = (c ∷ u, refl, to.one c (escape.Byte b) (one_letter c b is))
escaped_at b t (s.two_digits c d _ is) u = (_, refl, to.by_number (escape.Byte b) _ (to.two_digits c d b is))
escaped_at b t (s.braces v _ is small) u =
    (_, refl, to.by_number (escape.Byte b) _ (to.small b _ (v, append_assoc v (codes "}") u, is) small))

pub wide_at : (c : ℕ) (t : Bytes) → Wide c t → (u : Bytes)
    → ((d : ℕ) × (r : Bytes) × (t ++ u ≡ d ∷ r) × IsWideAt c d r u)
    ⊎ ((r : Bytes) × (t ++ u ≡ 0x5C ∷ r) × AtEscape u (escape.Wide c) r)
wide_at c t (s.itself _ is) u =
    let x = encode_starts c is.0 in
    let text : encode_utf8 c ++ u ≡ x.0 ∷ (x.1 ++ u) = ap (λ l. l ++ u) x.2 in
    inl (x.0, x.1 ++ u, text, (is, x.3, sym text))
wide_at c t (s.by_number _ v is wide) u =
    inr (_, refl, to.by_number (escape.Wide c) _ (to.large c _ (v, append_assoc v (codes "}") u, is) wide))

pub bound_at : (f : Flags) (h : ℕ) (t : Bytes) → Bound f h t → (u : Bytes) → AtBound f h u (t ++ u)
bound_at f h t (s.plain _ is) u = to.plain is
bound_at f h t (s.escaped _ _ is) u = let x = escaped_at h t is u in rw x.1 (to.escaped (escape.Byte h) x.0 x.2 refl)
bound_at f h t (s.character _ _ unicode is) u =
    by_cases (wide_at h t is u) (λ x. rw x.2 (to.wide x.0 x.1 unicode x.3))
    (λ x. rw x.1 (to.escaped (escape.Wide h) x.0 x.2 (unicode, refl)))

pub class_at : (c : ℕ) (s : Set) → perl_class c ≡ Some s → (u : Bytes)
    → (k : ClassKind) × (n : Bool) × AtEscape u (escape.Class k n) (c ∷ u)
class_at c s is u = let x = perl_kinds c s is in (x.0, x.1, to.one c (escape.Class x.0 x.1) (one_class c x.0 x.1 x.2))

pub asserted_at : (look : Look) (t : Bytes) → assertion t ≡ Some look → (u : Bytes)
    → AtEscape u (escape.Look look) (t ++ u)
asserted_at look t e u =
    by_cases (looks look t e) (λ x. rw x.2 (to.one x.0 (escape.Look look) (one_look x.0 look x.1 (rw x.2 at e))))
    (λ x. rw x.2 (to.boundary (escape.Look look) look (x.0 ++ u) refl (x.0, refl, rw x.2 at e)))

-- what the byte says that is next
pub one_next : (u : Bytes) (e d : Escape) (c : ℕ) (r : Bytes) → AtEscape u e (c ∷ r) → one_byte c ≡ Some d
    → (d ≡ e) × (r ≡ u)
one_next u e d c r (to.one _ _ is) one = (some_injective d e (sym one ∙ is), refl)
one_next u e d c r (to.by_number _ _ h) one = absurd (cc)
one_next u e d c r (to.boundary _ _ _ is h) one = absurd (cc)

pub number_next : (u : Bytes) (e : Escape) (r : Bytes) → AtEscape u e (0x78 ∷ r) → AtNumber u e r
number_next u e r (to.one _ _ is) = absurd (cc)
number_next u e r (to.by_number _ _ h) = h

pub boundary_next : (u : Bytes) (e : Escape) (r : Bytes) → AtEscape u e (0x62 ∷ r)
    → (look : Look) × (e ≡ escape.Look look) × Part r u (λ t. assertion (0x62 ∷ t) ≡ Some look)
boundary_next u e r (to.one _ _ is) = absurd (cc)
boundary_next u e r (to.boundary _ look _ is h) = (look, is, h)

pub no_escape : {A : Type 0} (u : Bytes) (e : Escape) → AtEscape u e [] → A
no_escape u e h = absurd (elim h [ ])

pub other_escape : {A : Type 0} (u : Bytes) (e : Escape) (c : ℕ) (r : Bytes) → AtEscape u e (c ∷ r) → one_byte c ≡ None
    → (c ≡ 0x78 → ⊥) → (c ≡ 0x62 → ⊥) → A
other_escape u e c r (to.one _ _ is) none x b = let never : None ≡ Some e = sym none ∙ is in absurd (cc)
other_escape u e c r (to.by_number _ _ h) none x b = absurd (x refl)
other_escape u e c r (to.boundary _ _ _ is h) none x b = absurd (b refl)

-- after an atom a brace begins counts
pub past_boundary : (k : List Flags) (f : Flags) (b : Bool) (t : Bytes) → FromOperator k f b t → IsPastBoundary t
past_boundary k f b t h w e =
    let x = counts_begin k f b w (rw e at h) in
    let y = first_count w x.0 x.1 in
    let d = number_begins 10 y.0 y.2.0 y.2.2.0 in
    (d.0, d.1 ++ y.1, y.2.1 ∙ ap (λ l. l ++ y.1) d.2, grind (arith))
