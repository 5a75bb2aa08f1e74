-- What a derivation of flags or of the inside of brackets says of what follows at its places.
-- Main statements: sets_follow, inside_follows.
-- Used by: the proofs that the parser rejects no pattern.
-- Idea: a rule that appends at the right is, before a text that follows, a step to the right.
use Rattle.determinize_syntax.proofs.Common.{◌&&◌, ◌++◌, ◌==◌, ◌∈◌, ◌∷◌, ◌≡◌, Before, Bool, Bytes, Flags, Inner, Inside}
use Rattle.determinize_syntax.proofs.Common.{Item, Letters, Listing, Lists, Set, Sets, [], and_parts, append_assoc}
use Rattle.determinize_syntax.proofs.Common.{by_cases, false, inl, inr, is_ascii, not, not-true, refl, stands, true, ℕ}
use Rattle.determinize_syntax.specs.declared.bracket.Before.TheVariants.{AfterClass, AfterHyphen, AfterOne, AfterRange}
use Rattle.determinize_syntax.specs.declared.bracket.Before.TheVariants.{First}
use Rattle.determinize_syntax.proofs.Escapes.{bound_at, class_at, escaped_at, wide_at}
use Rattle.determinize_syntax.specs.Spells as s
use Rattle.determinize_syntax.specs.Private.Letters as to
use Rattle.determinize_syntax.specs.declared.escape.Escape.TheVariants as escape

pub sets_follow : (f : Flags) (on : Bool) (g : Flags) (t : Bytes) → Sets f on g t → (i : Flags) (after w : Bytes)
    → Letters i after t on g w → Letters i after [] true f (t ++ w)
sets_follow f on g t s.no_letter i after w h = h
sets_follow f on g t (s.flag _ j _ u c sets new set) i after w h =
    simp append_assoc (sets_follow f on j u sets i after (c ∷ w) (to.flag u on j g c w new set h))
sets_follow f on g t (s.first_cleared j _ u c sets new set) i after w h =
    simp append_assoc (sets_follow f true j u sets i after (0x2D ∷ c ∷ w) (to.cleared u j g c w new set h))

-- all the letters
pub letters_follow : (f : Flags) (on : Bool) (g : Flags) (t after : Bytes) → Sets f on g t
    → Letters g after [] true f (t ++ after)
letters_follow f on g t after sets = sets_follow f on g t sets g after after (to.no_letter t on)

plain_ascii : (c : ℕ) → (is_ascii c && not (c ∈ "[]\\-")) ≡ true → (is_ascii c ≡ true) × (c ∈ "[]\\-" ≡ false)
plain_ascii c e =
    let both = and_parts (is_ascii c) (not (c ∈ "[]\\-")) e in (both.0, not-true (c ∈ "[]\\-") both.1)

-- what is literal in brackets is none of their signs
stands_plain : (p : Before) (c : ℕ) → stands p c ≡ true → (is_ascii c ≡ true) × (c ∈ "[]\\-" ≡ false)
stands_plain First c e = plain_ascii c e
stands_plain AfterRange c e = plain_ascii c e
stands_plain AfterClass c e = plain_ascii c e
stands_plain AfterHyphen c e = plain_ascii c e
stands_plain (AfterOne true b) c e = plain_ascii c e
stands_plain (AfterOne false b) c e =
    plain_ascii c (and_parts (is_ascii c && not (c ∈ "[]\\-")) (not (b == c && c ∈ "&~")) e).0

-- before what may follow after p; where nothing is listed, that is an item
lists_follow : (f : Flags) (p : Before) (set : Set) (t : Bytes) → Lists f p set t → (u w : Bytes) → Listing f u p w
    → (t ≡ [] → p ≡ First → Item f u p w) → Inner f u (t ++ w)
lists_follow f p set t s.nothing u w h first = inr (first refl refl)
lists_follow f p set t s.closing u w h first = inl (w, refl, h)
lists_follow f p set t (s.hyphens r v lists) u w h first =
    let i = to.hyphens w h in
    simp append_assoc (lists_follow f First r v lists u (0x2D ∷ w) (to.item First (0x2D ∷ w) i) (λ e is. i))
lists_follow f p set t (s.hyphen r v lists) u w h first =
    let i = to.hyphen w h in
    simp append_assoc (lists_follow f AfterRange r v lists u (0x2D ∷ w) (to.item AfterRange (0x2D ∷ w) i) (λ e is. i))
lists_follow f p set t (s.byte q r v c lists is) u w h first =
    let plain = stands_plain q c is in let i = to.byte q c w is plain.0 plain.1 h in
    simp append_assoc (lists_follow f q r v lists u (c ∷ w) (to.item q (c ∷ w) i) (λ e is. i))
lists_follow f p set t (s.escaped q r v x c lists is) u w h first =
    let at = escaped_at c x is w in
    let i : Item f u q (x ++ w) = rw at.1 (to.escaped q (AfterOne true c) (escape.Byte c) at.0 w at.2 refl h) in
    simp append_assoc (lists_follow f q r v lists u (x ++ w) (to.item q (x ++ w) i) (λ e is. i))
lists_follow f p set t (s.character q r v x c lists unicode is) u w h first =
    let i : Item f u q (x ++ w) = by_cases (wide_at c x is w) (λ at. rw at.2 (to.wide q c at.0 at.1 w unicode at.3 h))
    (λ at. rw at.1 (to.escaped q (AfterOne true c) (escape.Wide c) at.0 w at.2 (unicode, refl) h)) in
    simp append_assoc (lists_follow f q r v lists u (x ++ w) (to.item q (x ++ w) i) (λ e is. i))
lists_follow f p set t (s.class q r v c k lists bytes is) u w h first =
    let x = class_at c k is w in
    let i : Item f u q (0x5C ∷ c ∷ w) = to.escaped q AfterClass (escape.Class x.0 x.1) (c ∷ w) w x.2 (bytes, refl) h in
    simp append_assoc (lists_follow f q r v lists u (0x5C ∷ c ∷ w) (to.item q (0x5C ∷ c ∷ w) i) (λ e is. i))
lists_follow f p set t (s.name q r v n k lists is) u w h first =
    let i = to.name q n k false w is h in
    simp append_assoc (lists_follow f q r v lists u _ (to.item q _ i) (λ e is. i))
lists_follow f p set t (s.other_name q r v n k lists is) u w h first =
    let i = to.name q n k true w is h in
    simp append_assoc (lists_follow f q r v lists u _ (to.item q _ i) (λ e is. i))
lists_follow f p set t (s.range e low high r v x lists le bound) u w h first =
    let i = to.range e low high (x ++ w) w le (bound_at f high x bound w) h in
    simp append_assoc (lists_follow f (AfterOne e low) r v lists u _ (to.item (AfterOne e low) _ i) (λ e is. i))

pub inside_follows : (f : Flags) (set : Set) (t u : Bytes) → Inside f set t → Inner f u (t ++ 0x5D ∷ u)
inside_follows f set t u (s.closed p _ c v lists) =
    lists_follow f p set (c ∷ v) lists u (0x5D ∷ u) (to.close p) (λ e is. absurd (cc))
inside_follows f set t u (s.hyphen_last p r v lists may) =
    simp append_assoc (lists_follow f p r v lists u (0x2D ∷ 0x5D ∷ u) (to.last_hyphen p may)
    (λ e is. (let never : false ≡ true = rw is at may in absurd (cc))))
