-- Flags, settings and openings of groups that may follow.
-- Main statements: letters_end, one_letter, one_cleared, next_setting, no_setting, opening_next, set_or_group.
-- Used by: the proofs that the parser rejects no flags and no opening of a group.
-- Idea: the letters of flags are none of the signs that may be in their place.
use Rattle.determinize_syntax.proofs.Common.{◌++◌, ◌==◌, ◌∈◌, ◌∙◌, ◌∷◌, ◌≡◌, ◌⊎◌, Bool, Bytes, Enters, Flags, FromAtom}
use Rattle.determinize_syntax.proofs.Common.{FromItem, IsAfterLetters, IsBranchEnd, Letters, List, Sets, Some, String}
use Rattle.determinize_syntax.proofs.Common.{[], ap, apart, by_cases, by_test, chosen, clash, codes, eqb-true, false}
use Rattle.determinize_syntax.proofs.Common.{front_of, inl, inr, is_name, list_all, list_any, refl, set_flag, slice_get}
use Rattle.determinize_syntax.proofs.Common.{some_injective, sym, true, ℕ}
use Rattle.determinize_syntax.proofs.Bytes.{within}
use Rattle.determinize_syntax.proofs.Inner.{letters_follow}
use Rattle.determinize_syntax.proofs.Stepping.{no_operator, opened}
use Rattle.determinize_syntax.specs.Private.Following as to
use Rattle.determinize_syntax.specs.Private.Letters as letters

-- the letter of a flag is one of six
pub is_letter : (f : Flags) (c : ℕ) (on : Bool) (h : Flags) → set_flag f c on ≡ Some h → c ∈ "imsURu" ≡ true
is_letter f c on h =
    chosen (c ∈ "i") _ _ (listed "i" refl) (chosen (c ∈ "m") _ _ (listed "m" refl)
    (chosen (c ∈ "s") _ _ (listed "s" refl) (chosen (c ∈ "U") _ _ (listed "U" refl)
    (chosen (c ∈ "R") _ _ (listed "R" refl) (chosen (c ∈ "u") _ _ (listed "u" refl) (λ e. absurd (cc))))))) where
      listed : {B : Type 0} (l : String) → list_all (λ y. y ∈ "imsURu") (codes l) ≡ true → c ∈ l ≡ true → B
          → c ∈ "imsURu" ≡ true
      listed l all t e = within (λ y. y ∈ "imsURu") (codes l) c t all

no_letter : {A : Type 0} (f : Flags) (c : ℕ) (on : Bool) (h : Flags) → set_flag f c on ≡ Some h → c ∈ ":)<=!P-" ≡ true
    → A
no_letter f c on h e sign = clash sign (apart (λ y. y ∈ "imsURu") (codes ":)<=!P-") c (is_letter f c on h e) refl)

-- where letters end, all were read
pub letters_end : (g : Flags) (u seen : Bytes) (on : Bool) (f : Flags) (t : Bytes) → Letters g u seen on f t
    → IsAfterLetters t → (f ≡ g) × (t ≡ u)
letters_end g u seen on f t (letters.no_letter _ _) after = (refl, refl)
letters_end g u seen on f t (letters.flag _ _ _ h c w new is more) after =
    let text = after.2 in let same : after.0 ≡ c = (cc) in let sign = rw same at after.3 in
    no_letter f c on h is (within (λ y. y ∈ ":)<=!P-") (codes ":)") c sign refl)
letters_end g u seen on f t (letters.cleared _ _ h c w new is more) after =
    let text = after.2 in let same : after.0 ≡ 0x2D = (cc) in
    let never : false ≡ true = rw same at after.3 in absurd (cc)

-- the first letter is none of the signs
first_flag : {A : Type 0} (g : Flags) (u : Bytes) (f : Flags) (c : ℕ) (t : Bytes) → Letters g u [] true f (c ∷ t)
    → (u ≡ c ∷ t → ⊥) → c ∈ ":)<=!P" ≡ true → A
first_flag g u f c t (letters.no_letter _ _) other sign = absurd (other refl)
first_flag g u f c t (letters.flag _ _ _ h _ _ _ is _) other sign =
    no_letter f c true h is (within (λ y. y ∈ ":)<=!P-") (codes ":)<=!P") c sign refl)
first_flag g u f c t (letters.cleared _ _ _ _ _ _ _ _) other sign = absurd (cc)

pub first_letter : {A : Type 0} (f g : Flags) (on : Bool) (c : ℕ) (n : Bytes) → Sets f on g (c ∷ n)
    → c ∈ ":)<=!P" ≡ true → A
first_letter f g on c n sets sign =
    first_flag g [] f c (n ++ []) (letters_follow f on g (c ∷ n) [] sets) (λ e. absurd (cc)) sign

-- a setting of flags, after its `(?`, with what follows
pub data AtSetting (k : List Flags) (f : Flags) : Bytes → Type 0 where
  set : (g : Flags) (on : Bool) (c : ℕ) (n w : Bytes) → Sets f on g (c ∷ n) → FromItem k g w
      → AtSetting k f (c ∷ (n ++ 0x29 ∷ w))

pub next_setting : (k : List Flags) (f : Flags) (r : Bytes) → FromItem k f (0x28 ∷ 0x3F ∷ r)
    → AtSetting k f r ⊎ FromAtom k f (0x28 ∷ 0x3F ∷ r)
next_setting k f r (to.set _ _ g on c n w sets h) = inl (set g on c n w sets h)
next_setting k f r (to.atom _ _ _ h) = inr h

-- without `(?` there is no setting
pub no_setting : (k : List Flags) (f : Flags) (t : Bytes) → FromItem k f t → ((r : Bytes) → t ≡ 0x28 ∷ 0x3F ∷ r → ⊥)
    → IsBranchEnd t ⊎ FromAtom k f t
no_setting k f t (to.ended _) other = inl (inl (inl refl))
no_setting k f t (to.bar _ _ w h) other = inl (inr (w, refl))
no_setting k f t (to.closed j _ _ w h) other = inl (inl (inr (w, refl)))
no_setting k f t (to.set _ _ g on c n w sets h) other = absurd (other _ refl)
no_setting k f t (to.atom _ _ _ h) other = inr h

-- what opens a group after its `(?`, with what follows
pub data AtOpening (k : List Flags) (f : Flags) : Bytes → Type 0 where
  named : (n w : Bytes) → is_name n ≡ true → FromItem (f ∷ k) f w → AtOpening k f (0x3C ∷ (n ++ 0x3E ∷ w))
  named_p : (n w : Bytes) → is_name n ≡ true → FromItem (f ∷ k) f w → AtOpening k f (0x50 ∷ 0x3C ∷ (n ++ 0x3E ∷ w))
  flags : (g : Flags) (on : Bool) (n w r : Bytes) → r ≡ n ++ 0x3A ∷ w → Sets f on g n → FromItem (f ∷ k) g w
      → AtOpening k f r

entered : (k : List Flags) (f g : Flags) (r s : Bytes) → Enters f g (0x3F ∷ r) s → FromItem (f ∷ k) g s
    → AtOpening k f r
entered k f g r s (to.capture _) h = no_operator (f ∷ k) f 0x3F r h refl
entered k f g r s (to.named n _ is) h = named n s is h
entered k f g r s (to.named_p n _ is) h = named_p n s is h
entered k f g r s (to.group _ on n _ sets) h = flags g on n s _ refl sets h

pub opening_next : (k : List Flags) (f : Flags) (r : Bytes) → FromAtom k f (0x28 ∷ 0x3F ∷ r) → AtOpening k f r
opening_next k f r h = let x = opened k f (0x3F ∷ r) h in entered k f x.0 r x.1 x.2 x.3

-- without a `?` the group is a capture
captured : (k : List Flags) (f g : Flags) (r s : Bytes) → Enters f g r s → FromItem (f ∷ k) g s
    → (slice_get r 0 ≡ Some 0x3F → ⊥) → FromItem (f ∷ k) f r
captured k f g r s (to.capture _) h other = h
captured k f g r s (to.named _ _ _) h other = absurd (other refl)
captured k f g r s (to.named_p _ _ _) h other = absurd (other refl)
captured k f g r s (to.group _ _ _ _ _) h other = absurd (other refl)

pub capture_next : (k : List Flags) (f : Flags) (r : Bytes) → FromAtom k f (0x28 ∷ r)
    → (slice_get r 0 ≡ Some 0x3F → ⊥) → FromItem (f ∷ k) f r
capture_next k f r h other = let x = opened k f r h in captured k f x.0 r x.1 x.2 x.3 other

-- the next letter without a hyphen
abbrev pub OneLetter : Flags → Bytes → Bytes → Bool → Flags → Bytes → Type 0
OneLetter g u seen on f t = (c : ℕ) × (h : Flags) × (w : Bytes) × (t ≡ c ∷ w) × (list_any (λ d. d == c) seen ≡ false)
    × (set_flag f c on ≡ Some h) × Letters g u (seen ++ c ∷ []) on h w

pub one_letter : (g : Flags) (u seen : Bytes) (on : Bool) (f : Flags) (t : Bytes) → Letters g u seen on f t
    → (t ≡ u → ⊥) → (slice_get t 0 ≡ Some 0x2D → ⊥) → OneLetter g u seen on f t
one_letter g u seen on f t (letters.no_letter _ _) more other = absurd (more refl)
one_letter g u seen on f t (letters.flag _ _ _ h c w new is rest) more other = (c, h, w, refl, new, is, rest)
one_letter g u seen on f t (letters.cleared _ _ h c w new is rest) more other = absurd (other refl)

-- the letter after a hyphen
abbrev pub OneCleared : Flags → Bytes → Bytes → Bool → Flags → Bytes → Type 0
OneCleared g u seen on f r = (c : ℕ) × (h : Flags) × (w : Bytes) × (r ≡ c ∷ w) × (on ≡ true)
    × (list_any (λ d. d == c) seen ≡ false) × (set_flag f c false ≡ Some h)
    × Letters g u (seen ++ 0x2D ∷ c ∷ []) false h w

pub one_cleared : (g : Flags) (u seen : Bytes) (on : Bool) (f : Flags) (r : Bytes) → Letters g u seen on f (0x2D ∷ r)
    → (0x2D ∷ r ≡ u → ⊥) → OneCleared g u seen on f r
one_cleared g u seen on f r (letters.no_letter _ _) more = absurd (more refl)
one_cleared g u seen on f r (letters.flag _ _ _ h _ _ new is rest) more = no_letter f 0x2D on h is refl
one_cleared g u seen on f r (letters.cleared _ _ h c w new is rest) more = (c, h, w, refl, refl, new, is, rest)

-- flags and their colon begin with none of the signs
flags_sign : {A : Type 0} (f g : Flags) (on : Bool) (n : Bytes) → Sets f on g n → (w : Bytes) (d : ℕ) (q : Bytes)
    → d ∷ q ≡ n ++ 0x3A ∷ w → d ∈ ")<=!P" ≡ true → A
flags_sign f g on [] sets w d q e sign =
    let same : d ≡ 0x3A = (cc) in let never : false ≡ true = rw same at sign in absurd (cc)
flags_sign f g on (c ∷ n) sets w d q e sign =
    let same : d ≡ c = (cc) in
    first_letter f g on c n sets (within (λ y. y ∈ ":)<=!P") (codes ")<=!P") c (rw same at sign) refl)

-- a name and what follows
abbrev pub AtNamed : List Flags → Flags → Bytes → Type 0
AtNamed k f q = (n w : Bytes) × (q ≡ n ++ 0x3E ∷ w) × (is_name n ≡ true) × FromItem (f ∷ k) f w

opening_named : (k : List Flags) (f : Flags) (q : Bytes) → AtOpening k f (0x3C ∷ q) → AtNamed k f q
opening_named k f q (named n w is h) = (n, w, refl, is, h)
opening_named k f q (flags g on n w _ e sets h) = flags_sign f g on n sets w 0x3C q e refl

-- a name after `(?P`
opening_named_p : (k : List Flags) (f : Flags) (q : Bytes) → AtOpening k f (0x50 ∷ q)
    → (v : Bytes) × (q ≡ 0x3C ∷ v) × AtNamed k f v
opening_named_p k f q (named_p n w is h) = (n ++ 0x3E ∷ w, refl, (n, w, refl, is, h))
opening_named_p k f q (flags g on n w _ e sets h) = flags_sign f g on n sets w 0x50 q e refl

-- where a `?` and the signs were read
pub named_at : {a r q : Bytes} (k : List Flags) (f : Flags) → FromAtom k f (0x28 ∷ a) → a ≡ 0x3F ∷ r → r ≡ 0x3C ∷ q
    → AtNamed k f q
named_at k f h e s = opening_named k f _ (opening_next k f _ (rw (e, s) at h))

pub named_p_at : {a r q : Bytes} (k : List Flags) (f : Flags) → FromAtom k f (0x28 ∷ a) → a ≡ 0x3F ∷ r → r ≡ 0x50 ∷ q
    → (v : Bytes) × (q ≡ 0x3C ∷ v) × AtNamed k f v
named_p_at k f h e s = opening_named_p k f _ (opening_next k f _ (rw (e, s) at h))

-- flags and a colon after `(?`
abbrev pub AtFlags : List Flags → Flags → Bytes → Type 0
AtFlags k f r = (g : Flags) × (w : Bytes) × Letters g (0x3A ∷ w) [] true f r × FromItem (f ∷ k) g w

pub opening_flags : (k : List Flags) (f : Flags) (r : Bytes) → AtOpening k f r → (slice_get r 0 ≡ Some 0x3C → ⊥)
    → ((v : Bytes) → r ≡ 0x50 ∷ 0x3C ∷ v → ⊥) → AtFlags k f r
opening_flags k f r (named _ _ _ _) other p = absurd (other refl)
opening_flags k f r (named_p _ _ _ _) other p = absurd (p _ refl)
opening_flags k f r (flags g on n w _ e sets h) other p =
    (g, w, rw e (letters_follow f on g n (0x3A ∷ w) sets), h)

-- what looks ahead or behind opens nothing
pub opening_sign : {A : Type 0} (k : List Flags) (f : Flags) (d : ℕ) (q : Bytes) → AtOpening k f (d ∷ q)
    → d ∈ "=!)" ≡ true → A
opening_sign k f d q (named _ _ _ _) sign = absurd (cc)
opening_sign k f d q (named_p _ _ _ _) sign = absurd (cc)
opening_sign k f d q (flags g on n w _ e sets h) sign =
    flags_sign f g on n sets w d q e (within (λ y. y ∈ ")<=!P") (codes "=!)") d sign refl)

-- the sign is next, or another byte
pub after_here : (t : Bytes) (b : ℕ) → slice_get t 0 ≡ Some b → (b ≡ 41) ⊎ (b ≡ 58) → IsAfterLetters t
after_here t b at is =
    let x = front_of t b at in
    (b, x.0, x.1, by_cases is (λ i. rw i refl) (λ i. rw i refl))

pub not_after : (t : Bytes) (b : ℕ) → slice_get t 0 ≡ Some b → ((b ≡ 41) ⊎ (b ≡ 58) → ⊥) → IsAfterLetters t → ⊥
not_after t b at other h =
    let same : h.0 ≡ b = some_injective h.0 b (ap (λ l. slice_get l 0) (sym h.2) ∙ at) in
    let sign : b ∈ ":)" ≡ true = rw same at h.3 in
    by_test (0x3A == b) (λ i. other (inr (sym (eqb-true 0x3A b i))))
    (λ i. by_test (0x29 == b) (λ j. other (inl (sym (eqb-true 0x29 b j))))
    (λ j. let never : false ≡ true = simp (i, j) at sign in absurd (cc)))

-- letters do not end with the text
pub letters_none : {A : Type 0} (g : Flags) (u seen : Bytes) (on : Bool) (f : Flags) → Letters g u seen on f []
    → IsAfterLetters u → A
letters_none g u seen on f (letters.no_letter _ _) after = let never : [] ≡ after.0 ∷ after.1 = after.2 in absurd (cc)

-- after `(?` no text ends
pub setting_none : {A : Type 0} (k : List Flags) (f : Flags) → AtSetting k f [] ⊎ FromAtom k f (0x28 ∷ 0x3F ∷ []) → A
setting_none k f (inl x) = absurd (elim x [ ])
setting_none {A = A} k f (inr h) = by_opening (opening_next k f [] h) where
  by_opening : AtOpening k f [] → A
  by_opening (flags _ _ [] w _ e sets _) = absurd (cc)
  by_opening (flags _ _ (c ∷ n) w _ e sets _) = absurd (cc)

set_first : {A : Type 0} (k : List Flags) (f : Flags) (d : ℕ) (q : Bytes) → AtSetting k f (d ∷ q)
    → d ∈ ":)<=!P" ≡ true → A
set_first k f d q (set g on _ n w sets h) sign = first_letter f g on d n sets sign

-- after `(?` no parenthesis closes
pub setting_closed : {A : Type 0} (k : List Flags) (f : Flags) (q : Bytes)
    → AtSetting k f (0x29 ∷ q) ⊎ FromAtom k f (0x28 ∷ 0x3F ∷ 0x29 ∷ q) → A
setting_closed k f q (inl x) = set_first k f 0x29 q x refl
setting_closed k f q (inr h) = opening_sign k f 0x29 q (opening_next k f (0x29 ∷ q) h) refl

-- letters of flags up to a parenthesis, or up to the colon of a group
abbrev pub SetOrGroup : List Flags → Flags → Bytes → Type 0
SetOrGroup k f r = ((g : Flags) × (w : Bytes) × Letters g (0x29 ∷ w) [] true f r × FromItem k g w)
    ⊎ ((g : Flags) × (w : Bytes) × Letters g (0x3A ∷ w) [] true f r × FromAtom k f (0x28 ∷ 0x3F ∷ r))

pub set_or_group : (k : List Flags) (f : Flags) (r : Bytes) → AtSetting k f r ⊎ FromAtom k f (0x28 ∷ 0x3F ∷ r)
    → (slice_get r 0 ≡ Some 0x3C → ⊥) → ((v : Bytes) → r ≡ 0x50 ∷ 0x3C ∷ v → ⊥) → SetOrGroup k f r
set_or_group k f r (inl x) other p = inl (set_to r x) where
  set_to : (r : Bytes) → AtSetting k f r → (g : Flags) × (w : Bytes) × Letters g (0x29 ∷ w) [] true f r × FromItem k g w
  set_to r (set g on c n w sets h) = (g, w, letters_follow f on g (c ∷ n) (0x29 ∷ w) sets, h)
set_or_group k f r (inr h) other p =
    let x = opening_flags k f r (opening_next k f r h) other p in inr (x.0, x.1, x.2, h)

-- what begins otherwise is no setting
pub other_setting : (k : List Flags) (f : Flags) (d : ℕ) (q : Bytes)
    → AtSetting k f (d ∷ q) ⊎ FromAtom k f (0x28 ∷ 0x3F ∷ d ∷ q) → d ∈ "<=!P" ≡ true
    → FromAtom k f (0x28 ∷ 0x3F ∷ d ∷ q)
other_setting k f d q (inr h) sign = h
other_setting k f d q (inl x) sign = set_first k f d q x (within (λ y. y ∈ ":)<=!P") (codes "<=!P") d sign refl)
