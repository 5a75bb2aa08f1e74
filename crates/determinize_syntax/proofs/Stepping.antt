-- What follows at a place, by the byte that is there.
-- Main statements: at_bar, group_closed, group_unclosed, sign_passed, counts_begin, no_sign, operator_taken, opened,
--   escape_here, bracket_next, sign_next, byte_next.
-- Used by: the proofs that the parser rejects no pattern.
-- Idea: the first byte decides by which rule a text follows, since no two rules have one in common but those of a group
-- and a setting.
use Rattle.determinize_syntax.proofs.Common.{front_of}
use Rattle.determinize_syntax.proofs.Common.{◌&&◌, ◌<◌, ◌==◌, ◌∈◌, ◌∙◌, ◌∷◌, ◌≡◌, ◌≤◌, ◌⊎◌, AfterOperator, AtEscape}
use Rattle.determinize_syntax.proofs.Common.{Bool, Bracketed, Bytes, CountsTo, Enters, Escape, Flags, FromAtom}
use Rattle.determinize_syntax.proofs.Common.{FromItem, FromOperator, IsBranchEnd, IsWideAt, List, Some, [], and_parts}
use Rattle.determinize_syntax.proofs.Common.{ap, apart, append-nil, arith, by_test, clash, codes, encode_utf8, eqb-true}
use Rattle.determinize_syntax.proofs.Common.{false, inl, inr, is_ascii, knows_cases, len_utf8, length, length-encode}
use Rattle.determinize_syntax.proofs.Common.{not, not-true, refl, slice_get, sym, true, ℕ}
use Rattle.std.proofs.lemmas.Str.{inside_one}
use Rattle.determinize_syntax.specs.Private.Following.{IsEnd}
use Rattle.determinize_syntax.specs.Private.Reading.{is_available}
use Rattle.determinize_syntax.proofs.Bytes.{within}
use Rattle.determinize_syntax.specs.Private.Following as to

-- a character beyond ASCII begins with a byte beyond ASCII
pub encode_starts : (c : ℕ) → 128 ≤ c → (d : ℕ) × (w : Bytes) × (encode_utf8 c ≡ d ∷ w) × (is_ascii d ≡ false)
encode_starts c large = begins (encode_utf8 c) refl where
  begins : (l : Bytes) → encode_utf8 c ≡ l → (d : ℕ) × (w : Bytes) × (encode_utf8 c ≡ d ∷ w) × (is_ascii d ≡ false)
  begins [] e =
      let none : 0 ≡ len_utf8 c = sym (ap length e) ∙ length-encode c in
      let some : 1 ≤ len_utf8 c = grind (arith) in
      absurd (omega arith)
  begins (d ∷ w) e = (d, w, e, by_test (is_ascii d) (λ t. small (grind (arith))) (λ t. t)) where
    small : d < 128 → is_ascii d ≡ false
    small less =
        let long : 0 < length (encode_utf8 c) = rw e (omega arith) in
        let same : c ≡ d = inside_one c [] (d ∷ w) 0 (sym e ∙ sym (append-nil (encode_utf8 c))) long less in
        absurd (omega arith)

-- an atom does not begin with the byte
pub atom_never : {A : Type 0} (k : List Flags) (f : Flags) (d : ℕ) (u : Bytes) → FromAtom k f (d ∷ u)
    → d ∈ "|)*+?{" ≡ true → A
atom_never k f d u (to.plain _ _ _ _ is _ _) sign =
    clash sign (apart (λ x. is_ascii x && not (x ∈ "\\.+*?()|[{^$")) (codes "|)*+?{") d is refl)
atom_never k f d u (to.wide _ _ _ _ _ _ is _ _) sign = clash (within is_ascii (codes "|)*+?{") d sign refl) is.1
atom_never k f d u (to.sign _ _ _ _ is _) sign = clash sign (apart (λ x. x ∈ ".^$") (codes "|)*+?{") d is refl)
atom_never k f d u (to.escaped _ _ _ _ _ _ _ _) sign = absurd (cc)
atom_never k f d u (to.brackets _ _ _ _ _ _ _) sign = absurd (cc)
atom_never k f d u (to.group _ _ _ _ _ _ _) sign = absurd (cc)

pub at_bar : (k : List Flags) (f : Flags) (u : Bytes) → FromItem k f (0x7C ∷ u) → FromItem k f u
at_bar k f u (to.bar _ _ _ h) = h
at_bar k f u (to.atom _ _ _ h) = atom_never k f 0x7C u h refl

-- the end of a group
pub group_closed : (k : List Flags) (f g : Flags) (u : Bytes) → FromItem (f ∷ k) g (0x29 ∷ u) → FromOperator k f false u
group_closed k f g u (to.closed _ _ _ _ h) = h
group_closed k f g u (to.atom _ _ _ h) = atom_never (f ∷ k) g 0x29 u h refl

no_end : {A : Type 0} (k : List Flags) (f g : Flags) → FromItem (f ∷ k) g [] → A
no_end k f g (to.atom _ _ _ h) = absurd (elim h [ ])

pub group_unclosed : {A : Type 0} (k : List Flags) (f g : Flags) (t : Bytes) → FromItem (f ∷ k) g t → IsEnd t
    → (slice_get t 0 ≡ Some 0x29 → ⊥) → A
group_unclosed k f g t h (inl e) other = no_end k f g (rw e at h)
group_unclosed k f g t h (inr x) other = absurd (other (ap (λ l. slice_get l 0) x.1))

-- outside groups the text ends
no_close : {A : Type 0} (g : Flags) (u : Bytes) → FromItem [] g (0x29 ∷ u) → A
no_close g u (to.atom _ _ _ h) = atom_never [] g 0x29 u h refl

pub whole_ended : (g : Flags) (t : Bytes) → FromItem [] g t → IsEnd t → t ≡ []
whole_ended g t h (inl e) = e
whole_ended g t h (inr x) = no_close g x.0 (rw x.1 at h)

-- there is no operator where an item may begin
pub no_operator : {A : Type 0} (k : List Flags) (f : Flags) (d : ℕ) (u : Bytes) → FromItem k f (d ∷ u)
    → d ∈ "*+?{" ≡ true → A
no_operator k f d u (to.bar _ _ _ _) sign = absurd (cc)
no_operator k f d u (to.closed _ _ _ _ _) sign = absurd (cc)
no_operator k f d u (to.set _ _ _ _ _ _ _ _ _) sign = absurd (cc)
no_operator k f d u (to.atom _ _ _ h) sign =
    atom_never k f d u h (within (λ y. y ∈ "|)*+?{") (codes "*+?{") d sign refl)

-- after `*`, `+` or `?`
pub sign_passed : (k : List Flags) (f : Flags) (e : Bool) (d : ℕ) (u : Bytes) → FromOperator k f e (d ∷ u)
    → d ∈ "*+?" ≡ true → AfterOperator k f u
sign_passed k f e d u (to.none _ _ _ _ h) is =
    no_operator k f d u h (within (λ y. y ∈ "*+?{") (codes "*+?") d is refl)
sign_passed k f e d u (to.signed _ _ _ _ _ _ _ h) is = h
sign_passed k f e d u (to.counts _ _ _ _ _ _ _) is = absurd (cc)

-- an eager operator has no `?`
lazy_passed : (k : List Flags) (f : Flags) (u : Bytes) → AfterOperator k f (0x3F ∷ u) → FromOperator k f false u
lazy_passed k f u (to.greedy _ _ _ (to.none _ _ _ _ h)) = no_operator k f 0x3F u h refl
lazy_passed k f u (to.greedy _ _ _ (to.signed _ _ _ _ _ _ other h)) = absurd (other refl refl)
lazy_passed k f u (to.lazy _ _ _ h) = h

greedy_passed : (k : List Flags) (f : Flags) (t : Bytes) → AfterOperator k f t → (slice_get t 0 ≡ Some 0x3F → ⊥)
    → FromOperator k f true t
greedy_passed k f t (to.greedy _ _ _ h) other = h
greedy_passed k f t (to.lazy _ _ _ h) other = absurd (other refl)

-- after an operator and the `?` that may belong to it
pub operator_taken : (k : List Flags) (f : Flags) (d x : Bytes) → AfterOperator k f d → (marked : Bool)
    → (marked ≡ true → d ≡ 0x3F ∷ x) → (marked ≡ false → x ≡ d) → (marked ≡ false → slice_get d 0 ≡ Some 0x3F → ⊥)
    → (e : Bool) × FromOperator k f e x
operator_taken k f d x h true read same other = let r = read refl in (false, lazy_passed k f x (rw r at h))
operator_taken k f d x h false read same other = let s = same refl in (true, rw s (greedy_passed k f d h (other refl)))

pub counts_begin : (k : List Flags) (f : Flags) (e : Bool) (r : Bytes) → FromOperator k f e (0x7B ∷ r)
    → (s : Bytes) × CountsTo s r × AfterOperator k f s
counts_begin k f e r (to.none _ _ _ _ h) = no_operator k f 0x7B r h refl
counts_begin k f e r (to.signed _ _ _ _ _ is _ _) = absurd (cc)
counts_begin k f e r (to.counts _ _ _ _ s is h) = (s, is, h)

-- where there is no operator, an item may begin
pub no_sign : (k : List Flags) (f : Flags) (e : Bool) (t : Bytes) → FromOperator k f e t
    → ((c : ℕ) → slice_get t 0 ≡ Some c → c ∈ "*+?{" ≡ false) → FromItem k f t
no_sign k f e t (to.none _ _ _ _ h) other = h
no_sign k f e t (to.signed _ _ _ c _ is _ _) other =
    clash (within (λ y. y ∈ "*+?{") (codes "*+?") c is refl) (other c refl)
no_sign k f e t (to.counts _ _ _ _ _ _ _) other = clash refl (other 0x7B refl)

-- what opens a group, and what is in it and follows
pub opened : (k : List Flags) (f : Flags) (r : Bytes) → FromAtom k f (0x28 ∷ r)
    → (g : Flags) × (s : Bytes) × Enters f g r s × FromItem (f ∷ k) g s
opened k f r (to.plain _ _ _ _ is _ _) = absurd (cc)
opened k f r (to.wide _ _ _ _ _ _ is _ _) = clash refl is.1
opened k f r (to.sign _ _ _ _ is _) = absurd (cc)
opened k f r (to.group _ _ g _ s is h) = (g, s, is, h)

-- an escape, and what follows
pub escape_here : (k : List Flags) (f : Flags) (r : Bytes) → FromAtom k f (0x5C ∷ r)
    → (s : Bytes) × (e : Escape) × AtEscape s e r × (is_available f e ≡ true) × FromOperator k f false s
escape_here k f r (to.plain _ _ _ _ is _ _) = absurd (cc)
escape_here k f r (to.wide _ _ _ _ _ _ is _ _) = clash refl is.1
escape_here k f r (to.sign _ _ _ _ is _) = absurd (cc)
escape_here k f r (to.escaped _ _ e _ s is available h) = (s, e, is, available, h)

-- brackets, and what follows
pub bracket_next : (k : List Flags) (f : Flags) (r : Bytes) → FromAtom k f (0x5B ∷ r)
    → (s : Bytes) × Bracketed f s r × (knows_cases f ≡ true) × FromOperator k f false s
bracket_next k f r (to.plain _ _ _ _ is _ _) = absurd (cc)
bracket_next k f r (to.wide _ _ _ _ _ _ is _ _) = clash refl is.1
bracket_next k f r (to.sign _ _ _ _ is _) = absurd (cc)
bracket_next k f r (to.brackets _ _ _ s is cases h) = (s, is, cases, h)

-- `.`, `^` or `$`
pub sign_next : (k : List Flags) (f : Flags) (d : ℕ) (u : Bytes) → FromAtom k f (d ∷ u) → d ∈ ".^$" ≡ true
    → FromOperator k f false u
sign_next k f d u (to.plain _ _ _ _ _ _ h) sign = h
sign_next k f d u (to.wide _ _ _ _ _ _ is _ _) sign = clash (within is_ascii (codes ".^$") d sign refl) is.1
sign_next k f d u (to.sign _ _ _ _ _ h) sign = h
sign_next k f d u (to.escaped _ _ _ _ _ _ _ _) sign = absurd (cc)
sign_next k f d u (to.brackets _ _ _ _ _ _ _) sign = absurd (cc)
sign_next k f d u (to.group _ _ _ _ _ _ _) sign = absurd (cc)

-- a byte as itself, or a character beyond ASCII, where the cases of letters are known
abbrev pub AtByte : List Flags → Flags → ℕ → Bytes → Type 0
AtByte k f d u = (knows_cases f ≡ true)
    × (((is_ascii d ≡ true) × (d ∈ "\\.+*?()|[{^$" ≡ false) × FromOperator k f false u)
    ⊎ ((c : ℕ) × (s : Bytes) × IsWideAt c d u s × FromOperator k f false s))

pub byte_next : (k : List Flags) (f : Flags) (d : ℕ) (u : Bytes) → FromAtom k f (d ∷ u) → d ∈ "([\\" ≡ false
    → d ∈ ".^$" ≡ false → AtByte k f d u
byte_next k f d u (to.plain _ _ _ _ is cases h) other sign =
    let both = and_parts (is_ascii d) (not (d ∈ "\\.+*?()|[{^$")) is in
    (cases, inl (both.0, not-true (d ∈ "\\.+*?()|[{^$") both.1, h))
byte_next k f d u (to.wide _ _ c _ _ s is cases h) other sign = (cases, inr (c, s, is, h))
byte_next k f d u (to.sign _ _ _ _ is h) other sign = clash is sign
byte_next k f d u (to.escaped _ _ _ _ _ _ _ _) other sign = absurd (cc)
byte_next k f d u (to.brackets _ _ _ _ _ _ _) other sign = absurd (cc)
byte_next k f d u (to.group _ _ _ _ _ _ _) other sign = absurd (cc)

pub byte_at : (k : List Flags) (f : Flags) (t : Bytes) (d : ℕ) → slice_get t 0 ≡ Some d → FromAtom k f t
    → ((c : ℕ) → slice_get t 0 ≡ Some c → c ∈ "([\\" ≡ false) → d ∈ ".^$" ≡ false
    → (w : Bytes) × (t ≡ d ∷ w) × AtByte k f d w
byte_at k f t d at h other sign =
    let x = front_of t d at in (x.0, x.1, byte_next k f d x.0 (rw x.1 at h) (other d at) sign)

-- an atom is not empty
pub atom_some : {A : Type 0} (k : List Flags) (f : Flags) → FromAtom k f [] → A
atom_some k f h = absurd (elim h [ ])

-- the end of a branch but for a bar
pub stop_is_end : (t : Bytes) → IsBranchEnd t → (slice_get t 0 ≡ Some 0x7C → ⊥) → IsEnd t
stop_is_end t (inl h) other = h
stop_is_end t (inr x) other = absurd (other (ap (λ l. slice_get l 0) x.1))

-- a byte that ends a branch is next, or it is not
pub stop_here : (r : Bytes) (b : ℕ) → b ∈ "|)" ≡ true → IsBranchEnd (b ∷ r)
stop_here r b sign =
    by_test (0x7C == b) (λ i. inr (r, ap (λ y. y ∷ r) (sym (eqb-true 0x7C b i)))) (λ i. inl (inr (
      r,
      ap (λ y. y ∷ r) (sym (eqb-true 0x29 b (by_test (0x29 == b) (λ j. j) (λ j.
          let never : false ≡ true = simp (i, j) at sign in absurd (cc))))),
    )))

pub no_stop : (r : Bytes) (b : ℕ) → b ∈ "|)" ≡ false → IsBranchEnd (b ∷ r) → ⊥
no_stop r b other (inl (inl e)) = absurd (cc)
no_stop r b other (inl (inr x)) =
    let text = x.1 in let same : b ≡ 0x29 = (cc) in let never : true ≡ false = rw same at other in absurd (cc)
no_stop r b other (inr x) =
    let text = x.1 in let same : b ≡ 0x7C = (cc) in let never : true ≡ false = rw same at other in absurd (cc)
