-- What may follow in brackets, by the byte that is there.
-- Main statements: closed_by, ended_by, item_next, hyphen_next, escape_listed, name_next, plain_next, bound_listed.
-- Used by: the proofs that the parser rejects no brackets.
-- Idea: the first byte, and of a hyphen what is before it, decides which item it is.
use Rattle.determinize_syntax.specs.Private.Following.{MayPrecede}
use Rattle.determinize_syntax.proofs.Common.{◌&&◌, ◌∈◌, ◌∷◌, ◌≡◌, ◌≤◌, ◌⊎◌, AtBound, AtEscape, Before, Bool, Bytes}
use Rattle.determinize_syntax.proofs.Common.{Escape, Flags, Inner, IsWideAt, Item, Listing, NamedTo, Set, Some, []}
use Rattle.determinize_syntax.proofs.Common.{and_parts, clash, false, inl, inr, is_ascii, may_end, named_class, not}
use Rattle.determinize_syntax.proofs.Common.{refl, slice_get, stands, true, ℕ}
use Rattle.determinize_syntax.specs.Private.Letters.{IsEndOf, Listed}
use Rattle.determinize_syntax.specs.declared.bracket.Before.TheVariants.{AfterClass, AfterHyphen, AfterOne, AfterRange}
use Rattle.determinize_syntax.specs.declared.bracket.Before.TheVariants.{First}
use Rattle.determinize_syntax.specs.Private.Letters as to
use Rattle.determinize_syntax.specs.declared.escape.Escape.TheVariants as escape

-- no item and no end of a range begins with the last bracket
no_close : {A : Type 0} (f : Flags) (u : Bytes) (p : Before) (r : Bytes) → Item f u p (0x5D ∷ r) → A
no_close f u p r (to.byte _ _ _ _ _ sign _) = absurd (cc)
no_close f u p r (to.wide _ _ _ _ _ _ is _) = clash refl is.1

no_end : {A : Type 0} (f : Flags) (h : ℕ) (u r : Bytes) → AtBound f h u (0x5D ∷ r) → A
no_end f h u r (to.plain is) = absurd (cc)
no_end f h u r (to.wide _ _ _ is) = clash refl is.1

-- the last bracket
pub closed_by : (f : Flags) (u : Bytes) (p : Before) (r : Bytes) → Listing f u p (0x5D ∷ r) → r ≡ u
closed_by f u p r (to.close _) = refl
closed_by f u p r (to.item _ _ i) = no_close f u p r i

-- a hyphen that may be the last, and the last bracket
pub ended_by : (f : Flags) (u : Bytes) (p : Before) (r : Bytes) → Listing f u p (0x2D ∷ 0x5D ∷ r) → may_end p ≡ true
    → r ≡ u
ended_by f u p r (to.last_hyphen _ _) may = refl
ended_by f u p r (to.item _ _ (to.hyphens _ _)) may = absurd (cc)
ended_by f u p r (to.item _ _ (to.hyphen _ _)) may = absurd (cc)
ended_by f u p r (to.item _ _ (to.range _ _ high _ s _ bound _)) may = no_end f high s r bound
ended_by f u p r (to.item _ _ (to.byte _ _ _ _ _ sign _)) may = absurd (cc)
ended_by f u p r (to.item _ _ (to.wide _ _ _ _ _ _ is _)) may = clash refl is.1

-- where brackets do not end, an item is next
pub item_next : (f : Flags) (u : Bytes) (p : Before) (t : Bytes) → Listing f u p t → (slice_get t 0 ≡ Some 0x5D → ⊥)
    → (may_end p ≡ true → (w : Bytes) → t ≡ 0x2D ∷ 0x5D ∷ w → ⊥) → Item f u p t
item_next f u p t (to.close _) other more = absurd (other refl)
item_next f u p t (to.last_hyphen _ may) other more = absurd (more may u refl)
item_next f u p t (to.item _ _ i) other more = i

-- brackets do not end with the text
pub starts : (f : Flags) (u : Bytes) (p : Before) (t : Bytes) → Item f u p t → (c : ℕ) × (w : Bytes) × (t ≡ c ∷ w)
starts f u p t (to.hyphens s _) = (0x2D, s, refl)
starts f u p t (to.hyphen s _) = (0x2D, s, refl)
starts f u p t (to.range _ _ _ r _ _ _ _) = (0x2D, r, refl)
starts f u p t (to.byte _ c s _ _ _ _) = (c, s, refl)
starts f u p t (to.wide _ _ d r _ _ _ _) = (d, r, refl)
starts f u p t (to.escaped _ _ _ r _ _ _ _) = (0x5C, r, refl)
starts f u p t (to.name _ _ _ _ _ _ _) = (0x5B, _, refl)

pub not_ended : {A : Type 0} (f : Flags) (u : Bytes) (p : Before) → Listing f u p [] → A
not_ended f u p (to.item _ _ i) = let x = starts f u p [] i in let never : [] ≡ x.0 ∷ x.1 = x.2 in absurd (cc)

-- the bracket in front is literal, or an item is first
pub front_next : (f : Flags) (u r : Bytes) → Inner f u (0x5D ∷ r) → Listing f u AfterRange r
front_next f u r (inl x) = let text = x.1 in let same : r ≡ x.0 = (cc) in rw same x.2
front_next f u r (inr i) = no_close f u First r i

pub items_next : (f : Flags) (u t : Bytes) → Inner f u t → (slice_get t 0 ≡ Some 0x5D → ⊥) → Listing f u First t
items_next f u t (inl x) other = absurd (other (rw x.1 refl))
items_next f u t (inr i) other = to.item First t i

-- what a hyphen is, by what is before it
abbrev pub AtHyphen : Flags → Bytes → Before → Bytes → Type 0
AtHyphen f u First r = Listing f u First r
AtHyphen f u AfterRange r = Listing f u AfterHyphen r
AtHyphen f u AfterHyphen r = ⊥
AtHyphen f u AfterClass r = ⊥
AtHyphen f u (AfterOne e low) r = (high : ℕ) × (s : Bytes) × (low ≤ high) × AtBound f high s r × Listing f u AfterRange
    s

pub hyphen_next : (f : Flags) (u : Bytes) (p : Before) (r : Bytes) → Item f u p (0x2D ∷ r) → AtHyphen f u p r
hyphen_next f u p r (to.hyphens _ h) = h
hyphen_next f u p r (to.hyphen _ h) = h
hyphen_next f u p r (to.range _ _ high _ s le bound h) = (high, s, le, bound, h)
hyphen_next f u p r (to.byte _ _ _ _ _ sign _) = absurd (cc)
hyphen_next f u p r (to.wide _ _ _ _ _ _ is _) = clash refl is.1

-- an escape in brackets
pub escape_next : (f : Flags) (u : Bytes) (p : Before) (r : Bytes) → Item f u p (0x5C ∷ r)
    → (q : Before) × (e : Escape) × (s : Bytes) × AtEscape s e r × Listed f e q × Listing f u q s
escape_next f u p r (to.escaped _ q e _ s at is h) = (q, e, s, at, is, h)
escape_next f u p r (to.byte _ _ _ _ _ sign _) = absurd (cc)
escape_next f u p r (to.wide _ _ _ _ _ _ is _) = clash refl is.1

-- where an escape d was read up to a
pub escape_listed : {d : Escape} {a : Bytes} (f : Flags) (u : Bytes) (p : Before) (r : Bytes) → Item f u p (0x5C ∷ r)
    → ((e : Escape) (s : Bytes) → AtEscape s e r → MayPrecede e s → (d ≡ e) × (a ≡ s))
    → (q : Before) × Listed f d q × Listing f u q a
escape_listed f u p r h whole =
    let x = escape_next f u p r h in
    let y = whole x.1 x.2 x.3 (λ look is. absurd (rw is at x.4)) in (x.0, rw y.0 x.4, rw y.1 x.5)

-- the name of a class, after its bracket, and what follows
pub name_next : (f : Flags) (u : Bytes) (p : Before) (r : Bytes) → Item f u p (0x5B ∷ r)
    → (n : Bytes) × (k : Set) × (caret : Bool) × (s : Bytes) × (r ≡ NamedTo n caret s) × (named_class n ≡ Some k)
    × Listing f u AfterRange s
name_next f u p r (to.name _ n k caret s is h) = (n, k, caret, s, refl, is, h)
name_next f u p r (to.byte _ _ _ _ _ sign _) = absurd (cc)
name_next f u p r (to.wide _ _ _ _ _ _ is _) = clash refl is.1

-- a colon is next in the name of a class
pub colon : (n : Bytes) (caret : Bool) (s r : Bytes) → r ≡ NamedTo n caret s → slice_get r 0 ≡ Some 0x3A
colon n true s r e = rw e refl
colon n false s r e = rw e refl

-- a literal byte, or a character beyond ASCII as itself
abbrev pub AtPlain : Flags → Bytes → Before → ℕ → Bytes → Type 0
AtPlain f u p d r = ((stands p d ≡ true) × (is_ascii d ≡ true) × Listing f u (AfterOne false d) r)
    ⊎ ((c : ℕ) × (s : Bytes) × (f.unicode ≡ true) × IsWideAt c d r s × Listing f u (AfterOne true c) s)

pub plain_next : (f : Flags) (u : Bytes) (p : Before) (d : ℕ) (r : Bytes) → Item f u p (d ∷ r) → d ∈ "-\\[" ≡ false
    → AtPlain f u p d r
plain_next f u p d r (to.hyphens _ _) other = absurd (cc)
plain_next f u p d r (to.hyphen _ _) other = absurd (cc)
plain_next f u p d r (to.range _ _ _ _ _ _ _ _) other = absurd (cc)
plain_next f u p d r (to.byte _ _ _ is ascii _ h) other = inl (is, ascii, h)
plain_next f u p d r (to.wide _ c _ _ s unicode is h) other = inr (c, s, unicode, is, h)
plain_next f u p d r (to.escaped _ _ _ _ _ _ _ _) other = absurd (cc)
plain_next f u p d r (to.name _ _ _ _ _ _ _) other = absurd (cc)

-- the end of a range
pub bound_escape : (f : Flags) (h : ℕ) (u r : Bytes) → AtBound f h u (0x5C ∷ r)
    → (e : Escape) × AtEscape u e r × IsEndOf f h e
bound_escape f h u r (to.plain is) = absurd (cc)
bound_escape f h u r (to.escaped e _ at is) = (e, at, is)
bound_escape f h u r (to.wide _ _ _ is) = clash refl is.1

pub bound_listed : {d : Escape} {a : Bytes} (f : Flags) (h : ℕ) (u r : Bytes) → AtBound f h u (0x5C ∷ r)
    → ((e : Escape) (s : Bytes) → AtEscape s e r → MayPrecede e s → (d ≡ e) × (a ≡ s)) → IsEndOf f h d × (a ≡ u)
bound_listed f h u r bound whole =
    let x = bound_escape f h u r bound in
    let y = whole x.0 u x.1 (λ look is. absurd (rw is at x.2)) in (rw y.0 x.2, y.1)

pub no_hyphen : {A : Type 0} (f : Flags) (h : ℕ) (u r : Bytes) → AtBound f h u (0x2D ∷ r) → A
no_hyphen f h u r (to.plain is) = absurd (cc)
no_hyphen f h u r (to.wide _ _ _ is) = clash refl is.1

pub no_bound : {A : Type 0} (f : Flags) (h : ℕ) (u : Bytes) → AtBound f h u [] → A
no_bound f h u i = absurd (elim i [ ])

pub bound_wide : (f : Flags) (h : ℕ) (u : Bytes) (d : ℕ) (r : Bytes) → AtBound f h u (d ∷ r) → is_ascii d ≡ false
    → (f.unicode ≡ true) × IsWideAt h d r u
bound_wide f h u d r (to.plain is) other = clash (and_parts (is_ascii h) (not (h ∈ "]\\-")) is).0 other
bound_wide f h u d r (to.escaped _ _ _ _) other = absurd (cc)
bound_wide f h u d r (to.wide _ _ unicode is) other = (unicode, is)

pub bound_byte : (f : Flags) (h : ℕ) (u : Bytes) (d : ℕ) (r : Bytes) → AtBound f h u (d ∷ r) → is_ascii d ≡ true
    → (d ≡ 0x5C → ⊥) → ((is_ascii d && not (d ∈ "]\\-")) ≡ true) × (d ≡ h) × (r ≡ u)
bound_byte f h u d r (to.plain is) ascii other = (is, refl, refl)
bound_byte f h u d r (to.escaped _ _ _ _) ascii other = absurd (other refl)
bound_byte f h u d r (to.wide _ _ _ is) ascii other = clash ascii is.1

pub no_other_end : {A : Type 0} (f : Flags) (h : ℕ) (e : Escape) → IsEndOf f h e → ((b : ℕ) → e ≡ escape.Byte b → ⊥)
    → ((b : ℕ) → e ≡ escape.Wide b → ⊥) → A
no_other_end f h (escape.Byte b) is byte wide = absurd (byte b refl)
no_other_end f h (escape.Wide b) is byte wide = absurd (wide b refl)
no_other_end f h (escape.Class k n) is byte wide = absurd is
no_other_end f h (escape.Look l) is byte wide = absurd is
