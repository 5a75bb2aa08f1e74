-- Rules of the grammar whose parts were read.
-- Main statements: item_read, branch_read, choice_read, group_read, set_read, and a lemma for each other rule.
-- Used by: the proofs of the parser.
-- Idea: a rule joins parts that follow one after the other.
use Rattle.determinize_syntax.proofs.Common.{◌&&◌, ◌++◌, ◌+◌, ◌<◌, ◌^◌, ◌∙◌, ◌∷◌, ◌≡◌, ◌≤◌, Atom, Bool, Branches, Flags}
use Rattle.determinize_syntax.proofs.Common.{IsFlag, IsNamed, IsSetting, List, Look, None, Operator, Option, Part, Re}
use Rattle.determinize_syntax.proofs.Common.{Repeated, Sets, Some, SpellsUnder, Text, [], ap, append-nil, append_assoc}
use Rattle.determinize_syntax.proofs.Common.{arith, assertion, at_end, begins_name, choice_of, closed, codes, cond}
use Rattle.determinize_syntax.proofs.Common.{encode_utf8, false, is_in_name, is_name, is_some, len_utf8, length}
use Rattle.determinize_syntax.proofs.Common.{length-encode, list_all-append, map, meaning, not, number, onward}
use Rattle.determinize_syntax.proofs.Common.{prefixed, refl, renamed, repeated, sequence_of, slice_get, subst, sym}
use Rattle.determinize_syntax.proofs.Common.{true, ℕ}
use Rattle.std.proofs.lemmas.List.{length-append, map-append}
use Rattle.determinize_pattern.specs.declared.pattern.Pattern.{Pattern}
use Rattle.determinize_syntax.specs.Private.Reading.{Opens, SetsMore}
use Rattle.determinize_syntax.specs.Spells.{Items}
use Rattle.determinize_syntax.specs.Spells as s

-- counts, after their brace
pub exactly_read : {a d x : Text} (n : ℕ) → Part a d (λ t. number 10 t ≡ Some n) → d ≡ 0x7D ∷ x → n < 2 ^ 32
    → Part a x (λ t. Operator n (Some n) (0x7B ∷ t))
exactly_read n h r small =
    closed _ (λ t. Operator n (Some n) (0x7B ∷ t)) h r (λ t p. s.exactly n t p small)

pub at_least_read : {a d y x : Text} (n : ℕ) → Part a d (λ t. number 10 t ≡ Some n) → d ≡ 0x2C ∷ y → y ≡ 0x7D ∷ x
    → n < 2 ^ 32 → Part a x (λ t. Operator n None (0x7B ∷ t))
at_least_read {x = x} n h r1 r2 small =
    onward _ (λ v. v ≡ codes ",}") (λ t. Operator n None (0x7B ∷ t)) h
    (codes ",}", r1 ∙ ap (λ w. 0x2C ∷ w) r2, refl) (λ t v p e. rw e (s.at_least n t p small))

pub between_read : {a d y e x : Text} (n m : ℕ) → Part a d (λ t. number 10 t ≡ Some n) → d ≡ 0x2C ∷ y
    → Part y e (λ t. number 10 t ≡ Some m) → e ≡ 0x7D ∷ x → n ≤ m → m < 2 ^ 32
    → Part a x (λ t. Operator n (Some m) (0x7B ∷ t))
between_read n m h r1 k r2 le small =
    closed _ (λ t. Operator n (Some m) (0x7B ∷ t)) (onward _ (λ v. (u : Text) × (v ≡ 0x2C ∷ u) × (number 10 u ≡ Some m))
    (λ v. (t u : Text) × (v ≡ t ++ codes "," ++ u) × (number 10 t ≡ Some n) × (number 10 u ≡ Some m)) h
    (0x2C ∷ k.0, r1 ∙ ap (λ w. 0x2C ∷ w) k.1, (k.0, refl, k.2))
    (λ t v p q. (t, q.0, ap (λ w. t ++ w) q.1 ∙ sym (append_assoc t (codes ",") q.0), p, q.2))) r2
    (λ v z. subst (λ w. Operator n (Some m) (0x7B ∷ (w ++ codes "}"))) (sym z.2)
    (s.between n m z.0 z.1 z.3 z.4 le small))

-- an item after others
pub item_read : {a b d : Text} (f g : Flags) (ps qs : List Pattern) (p : Pattern)
    → Part a b (Items f g (map meaning ps))
    → Part b d (λ t. (e : Bool) × Repeated g e (meaning p) t) → qs ≡ ps ++ p ∷ []
    → Part a d (Items f g (map meaning qs))
item_read f g ps qs p h k e =
    onward (Items f g (map meaning ps)) (λ t. (e : Bool) × Repeated g e (meaning p) t) (Items f g (map meaning qs)) h k
    (λ t u x y. rw (e, map-append meaning ps (p ∷ [])) (s.item f g y.0 (map meaning ps) (meaning p) t u x y.1))

-- the patterns of branches with one more
more : (ps qs : List Pattern) (p : Pattern) (res : List Re) → qs ≡ ps ++ p ∷ [] → meaning p ≡ sequence_of res
    → map meaning qs ≡ map meaning ps ++ sequence_of res ∷ []
more ps qs p res e m = ap (map meaning) e ∙ map-append meaning ps (p ∷ []) ∙ ap (λ x. map meaning ps ++ x ∷ []) m

-- a branch and its bar
pub branch_read : {a b d x : Text} (f g h : Flags) (ps qs : List Pattern) (p : Pattern) (res : List Re)
    → Part a b (Branches f g (map meaning ps)) → Part b d (Items g h res)
    → d ≡ 0x7C ∷ x → qs ≡ ps ++ p ∷ [] → meaning p ≡ sequence_of res → Part a x (Branches f h (map meaning qs))
branch_read f g h ps qs p res before items r e m =
    closed (λ v. (t u : Text) × (v ≡ t ++ u) × Branches f g (map meaning ps) t × Items g h res u)
    (Branches f h (map meaning qs))
    (onward (Branches f g (map meaning ps)) (Items g h res) _ before items (λ t u y z. (t, u, refl, y, z))) r
    (λ v z. subst (λ w. Branches f h (map meaning qs) (w ++ codes "|")) (sym z.2)
    (rw (more ps qs p res e m) (s.branch f g h (map meaning ps) res z.0 z.1 z.3 z.4)))

-- the last branch
pub choice_read : {a b d : Text} (f g h : Flags) (ps qs : List Pattern) (p whole : Pattern) (res : List Re)
    → Part a b (Branches f g (map meaning ps)) → Part b d (Items g h res)
    → qs ≡ ps ++ p ∷ [] → meaning p ≡ sequence_of res → meaning whole ≡ choice_of (map meaning qs)
    → Part a d (SpellsUnder f (meaning whole))
choice_read f g h ps qs p whole res before items e m w =
    onward (Branches f g (map meaning ps)) (Items g h res) (SpellsUnder f (meaning whole)) before items
    (λ t u y z. (h, rw (w, more ps qs p res e m) (s.branches f g h (map meaning ps) res t u y z)))

-- what opens a group
pub opens_capture : (f : Flags) → Opens f f []
opens_capture f re u h = s.capture f h.0 re u h.1

pub named_read : {a b d y : Text} (f : Flags) → a ≡ 0x3F ∷ b → b ≡ 0x3C ∷ d → Part d y IsNamed → Part a y (Opens f f)
named_read f r1 r2 h =
    prefixed (Opens f f) r1 (prefixed (λ t. Opens f f (0x3F ∷ t)) r2
    (renamed IsNamed (λ t. Opens f f (0x3F ∷ 0x3C ∷ t)) h
    (λ t z re u i. rw (z.2, ← append_assoc (z.0 ++ codes ">") u (codes ")")) (s.named f i.0 re z.0 u z.1 i.1))))

pub named_p_read : {a b d e y : Text} (f : Flags) → a ≡ 0x3F ∷ b → b ≡ 0x50 ∷ d → d ≡ 0x3C ∷ e → Part e y IsNamed
    → Part a y (Opens f f)
named_p_read f r1 r2 r3 h =
    prefixed (Opens f f) r1 (prefixed (λ t. Opens f f (0x3F ∷ t)) r2 (prefixed (λ t. Opens f f (0x3F ∷ 0x50 ∷ t)) r3
    (renamed IsNamed (λ t. Opens f f (0x3F ∷ 0x50 ∷ 0x3C ∷ t)) h
    (λ t z re u i. rw (z.2, ← append_assoc (z.0 ++ codes ">") u (codes ")")) (s.named_p f i.0 re z.0 u z.1 i.1)))))

pub flags_read : {a b d y : Text} (f g : Flags) → a ≡ 0x3F ∷ b → Part b d (λ t. (on : Bool) × Sets f on g t)
    → d ≡ 0x3A ∷ y → Part a y (Opens f g)
flags_read f g r1 h r2 =
    prefixed (Opens f g) r1 (closed _ (λ t. Opens f g (0x3F ∷ t)) h r2
    (λ t z re u i. rw (← append_assoc (t ++ codes ":") u (codes ")")) (s.group f g i.0 z.0 re t u z.1 i.1)))

-- a group up to its closing parenthesis
pub group_read : {a b d x : Text} (f g : Flags) (re : Re) → Part a b (Opens f g) → Part b d (SpellsUnder g re)
    → d ≡ 0x29 ∷ x → Part a x (λ t. Atom f re (0x28 ∷ t))
group_read f g re o h r =
    onward (Opens f g) (λ v. (u : Text) × (v ≡ u ++ codes ")") × SpellsUnder g re u) (λ t. Atom f re (0x28 ∷ t)) o
    (closed _ _ h r (λ u x. (u, refl, x))) (λ t v opens z. rw z.1 (opens re z.0 z.2))

-- a setting of flags
pub setting_read : {a b d x y : Text} (f g : Flags) → a ≡ 0x28 ∷ b → b ≡ 0x3F ∷ d → (slice_get d 0 ≡ Some 0x29 → ⊥)
    → Part d x (λ t. (on : Bool) × Sets f on g t) → x ≡ 0x29 ∷ y → Part a y (IsSetting f g)
setting_read {d = d} {x} {y} f g r1 r2 other h r3 =
    prefixed (IsSetting f g) r1 (prefixed (λ t. IsSetting f g (0x28 ∷ t)) r2 (letters h.0 h.1 h.2)) where
      letters : (t : Text) → d ≡ t ++ x → (on : Bool) × Sets f on g t → Part d y (λ w. IsSetting f g (0x28 ∷ 0x3F ∷ w))
      letters [] e z = absurd (other (ap (λ l. slice_get l 0) (e ∙ r3)))
      letters (c ∷ n) e z =
          closed (λ t. t ≡ c ∷ n) (λ w. IsSetting f g (0x28 ∷ 0x3F ∷ w)) (c ∷ n, e, refl) r3
          (λ t is. rw is (z.0, c, n, refl, z.1))

pub set_read : {a b d : Text} (f g h : Flags) (ps : List Re) → Part a b (Items f g ps) → Part b d (IsSetting g h)
    → Part a d (Items f h ps)
set_read f g h ps before set =
    onward (Items f g ps) (IsSetting g h) (Items f h ps) before set
    (λ t w x z. subst (λ q. Items f h ps (t ++ q)) (sym z.3) (subst (Items f h ps)
    (append_assoc (t ++ codes "(?") (z.1 ∷ z.2) (codes ")") ∙ append_assoc t (codes "(?") (z.1 ∷ z.2 ++ codes ")"))
    (s.setting f g h z.0 ps t z.2 z.1 x z.4)))

-- letters of flags
pub letter_read : {a b : Text} (seen : Text) (g h : Flags) (on : Bool) → Part a b (IsFlag seen g on h)
    → Part a b (SetsMore seen on g on h)
letter_read seen g h on k = renamed (IsFlag seen g on h) (SetsMore seen on g on h) k
    (λ t z f sets. rw z.1 (s.flag on g h seen z.0 sets z.2 z.3))

pub cleared_read : {a b d : Text} (seen : Text) (g h : Flags) → a ≡ 0x2D ∷ b → Part b d (IsFlag seen g false h)
    → Part a d (SetsMore seen true g false h)
cleared_read seen g h r k = prefixed (SetsMore seen true g false h) r
    (renamed (IsFlag seen g false h) (λ t. SetsMore seen true g false h (0x2D ∷ t)) k
    (λ t z f sets. rw z.1 (s.first_cleared g h seen z.0 sets z.2 z.3)))

pub letters_read : {a b d : Text} (f g h : Flags) (on later : Bool) (seen : Text)
    → ((t : Text) → a ≡ t ++ b → seen ≡ t) → Part a b (Sets f on g) → Part b d (SetsMore seen on g later h)
    → Part a d (Sets f later h)
letters_read f g h on later seen is before k =
    onward (λ t. Sets f on g t × (seen ≡ t)) (SetsMore seen on g later h) (Sets f later h)
    (before.0, before.1, (before.2, is before.0 before.1)) k (λ t u x more. rw (← x.1) (more f (rw (← x.1) at x.0)))

-- names
pub name_begun : (c : ℕ) → begins_name c ≡ true → is_name (c ∷ []) ≡ true
name_begun c e = ap (λ x. x && true) e

pub name_more : (t : Text) (d : ℕ) → is_name t ≡ true → is_in_name d ≡ true → is_name (t ++ d ∷ []) ≡ true
name_more [] d h e = absurd (cc)
name_more (c ∷ t) d h e = rw (list_all-append is_in_name t (d ∷ []), e) (with_true (begins_name c) _ ∙ h) where
  with_true : (x y : Bool) → (x && (y && true)) ≡ (x && y)
  with_true true true = refl
  with_true true false = refl
  with_true false y = refl

-- an operator after what it repeats
pub again_read : (a b d x : Text) (f : Flags) (re new : Re) (min : ℕ) (max : Option ℕ) (is_lazy : Bool)
    → Part a b (λ t. (e : Bool) × Repeated f e re t × (e ≡ true → slice_get b 0 ≡ Some 0x3F → ⊥))
    → Part b d (Operator min max) → (is_lazy ≡ true → d ≡ 0x3F ∷ x) → (is_lazy ≡ false → x ≡ d)
    → (is_lazy ≡ false → slice_get d 0 ≡ Some 0x3F → ⊥)
    → new ≡ repeated min max (cond is_lazy f.swap_greed (not f.swap_greed)) re
    → Part a x (λ t. (e : Bool) × Repeated f e new t × (e ≡ true → slice_get x 0 ≡ Some 0x3F → ⊥))
again_read a b d x f re new min max is_lazy h k r same other m = last is_lazy r same other m where
  apart : (u : Text) → b ≡ u ++ d → (e : Bool) → (e ≡ true → slice_get b 0 ≡ Some 0x3F → ⊥) → e ≡ true → u ≡ codes "?"
      → ⊥
  apart u e first other is q = other is (ap (λ l. slice_get l 0) (e ∙ ap (λ w. w ++ d) q))

  last : (is_lazy : Bool) → (is_lazy ≡ true → d ≡ 0x3F ∷ x) → (is_lazy ≡ false → x ≡ d)
      → (is_lazy ≡ false → slice_get d 0 ≡ Some 0x3F → ⊥)
      → new ≡ repeated min max (cond is_lazy f.swap_greed (not f.swap_greed)) re
      → Part a x (λ t. (e : Bool) × Repeated f e new t × (e ≡ true → slice_get x 0 ≡ Some 0x3F → ⊥))
  last true r same other m = closed (λ v. (t u : Text) × (e : Bool) × (v ≡ t ++ u) × Repeated f e re t
      × Operator min max u × (e ≡ true → u ≡ codes "?" → ⊥)) _
      (onward _ (λ u. Operator min max u × (b ≡ u ++ d)) _ h (k.0, k.1, (k.2, k.1))
      (λ t u y z. (t, u, y.0, refl, y.1, z.0, apart u z.1 y.0 y.2))) (r refl)
      (λ v z. (false, rw (m, z.3) (s.lazy f z.2 re z.0 z.1 min max z.4 z.5 z.6), λ e. absurd (cc)))
  last false r same other m =
      let there : x ≡ d = same refl in
      rw there (onward _ (λ u. Operator min max u × (b ≡ u ++ d)) _ h (k.0, k.1, (k.2, k.1))
      (λ t u y z. (true, rw m (s.greedy f y.0 re t u min max y.1 z.0 (apart u z.1 y.0 y.2)), λ e. other refl)))

pub shorter : (d x : Text) (is_lazy : Bool) → (is_lazy ≡ true → d ≡ 0x3F ∷ x) → (is_lazy ≡ false → x ≡ d)
    → length x ≤ length d
shorter d x true r same = let e : length d ≡ 1 + length x = ap length (r refl) ∙ omega arith in omega arith
shorter d x false r same = let e : length x ≡ length d = ap length (same refl) in omega arith

pub none_of : (o : Option ℕ) → is_some o ≡ false → o ≡ None
none_of None e = refl
none_of (Some b) e = absurd (cc)

-- the whole text
pub whole_read : (a b : Text) (P : Text → Type 0) → Part a b P → slice_get b 0 ≡ None → P a
whole_read a b P h e = subst P (sym (h.1 ∙ ap (λ w. h.0 ++ w) (at_end b e) ∙ append-nil h.0)) h.2

-- the boundary of this name
pub boundary_read : {a b d x : Text} {P : Text → Type 0} (look : Look) (name : Text) → a ≡ 0x7B ∷ b → Part b d P
    → ((t : Text) → b ≡ t ++ d → name ≡ t) → d ≡ 0x7D ∷ x → assertion (codes "b{" ++ name ++ codes "}") ≡ Some look
    → Part a x (λ t. assertion (0x62 ∷ t) ≡ Some look)
boundary_read look name r1 h is r2 e =
    prefixed (λ t. assertion (0x62 ∷ t) ≡ Some look) r1
    (closed (λ t. name ≡ t) (λ t. assertion (0x62 ∷ 0x7B ∷ t) ≡ Some look) (h.0, h.1, is h.0 h.1) r2
    (λ t same. rw (← same) e))

pub shorter_by_character : (c : ℕ) (a b : Text) → a ≡ encode_utf8 c ++ b → length b < length a
shorter_by_character c a b e =
    let one : 1 ≤ len_utf8 c = grind (arith) in
    let len : length a ≡ len_utf8 c + length b = ap length e ∙ length-append (encode_utf8 c) b
    ∙ ap (λ n. n + length b) (length-encode c) in
    omega arith
