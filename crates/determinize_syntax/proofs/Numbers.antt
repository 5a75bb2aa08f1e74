-- Numbers, digit by digit: what was read of one, and what may follow of one that is there.
-- Main statements: number_one, number_more, number_begins, begun, more, over, ended.
-- Used by: the proofs of `decimal` and of numbers in escapes.
-- Idea: a digit more multiplies the number by the radix, and adds its value; a digit that is next is one of the number,
-- since none follows after it.
use Rattle.determinize_syntax.proofs.Common.{◌&&◌, ◌*◌, ◌++◌, ◌+◌, ◌-◌, ◌∙◌, ◌∷◌, ◌≡◌, ◌≤◌, Bool, Bytes, IsDigit}
use Rattle.determinize_syntax.proofs.Common.{IsDigits, NoDigit, None, Part, Some, [], and_parts, ap, arith, clash}
use Rattle.determinize_syntax.proofs.Common.{digit_value, false, heads, if◌then◌else◌, is_digit, list_all}
use Rattle.determinize_syntax.proofs.Common.{list_all-append, number, onward, refl, renamed, slice_get, some_injective}
use Rattle.determinize_syntax.proofs.Common.{sym, tails, true, ℕ}
use Rattle.determinize_syntax.specs.Words.{number_after}

if_some : (b : Bool) (x v : ℕ) → (if b then Some x else None) ≡ Some v → (b ≡ true) × (x ≡ v)
if_some true x v e = (refl, (cc))
if_some false x v e = absurd (cc)

after_more : (radix n : ℕ) (t : Bytes) (d : ℕ)
    → number_after radix n (t ++ d ∷ []) ≡ number_after radix n t * radix + digit_value d
after_more radix n [] d = refl
after_more radix n (c ∷ t) d = after_more radix (n * radix + digit_value c) t d

pub number_one : (radix d : ℕ) → is_digit d radix ≡ true → number radix (d ∷ []) ≡ Some (digit_value d)
number_one radix d h = rw h (ap Some (omega arith))

pub number_more : (radix : ℕ) (t : Bytes) (v d : ℕ) → number radix t ≡ Some v → is_digit d radix ≡ true
    → number radix (t ++ d ∷ []) ≡ Some (v * radix + digit_value d)
number_more radix [] v d e h = absurd (cc)
number_more radix (c ∷ t) v d e h =
    let both : (list_all (λ x. is_digit x radix) (c ∷ t) ≡ true) × (number_after radix 0 (c ∷ t) ≡ v) =
    if_some (list_all (λ x. is_digit x radix) (c ∷ t)) (number_after radix 0 (c ∷ t)) v e in
    let all : list_all (λ x. is_digit x radix) ((c ∷ t) ++ d ∷ []) ≡ true =
    list_all-append (λ x. is_digit x radix) (c ∷ t) (d ∷ []) ∙ ap (λ b. b && (is_digit d radix && true)) both.0
    ∙ ap (λ b. b && true) h in
    ap (λ b. if b then Some (number_after radix 0 ((c ∷ t) ++ d ∷ [])) else None) all
    ∙ ap Some (after_more radix 0 (c ∷ t) d ∙ ap (λ x. x * radix + digit_value d) both.1)

pub digit_front : {a b : Bytes} (radix n : ℕ) (h : Part a b (IsDigit radix n)) → a ≡ h.2.0 ∷ b
digit_front radix n (p, e, (d, is, digit, value)) = rw (e, is) refl

-- a number that was read, and a digit more
pub number_begun : {a b : Bytes} (radix n : ℕ) → Part a b (IsDigit radix n) → Part a b (λ t. number radix t ≡ Some n)
number_begun radix n h = renamed (IsDigit radix n) (λ t. number radix t ≡ Some n) h
    (λ t z. rw (z.1, z.3) (number_one radix z.0 z.2))

-- hexadecimal digits of which the value is known as long as it is small enough for a character
pub digits_grown : {a b d : Bytes} (v n w : ℕ) → Part a b (IsDigits v) → Part b d (IsDigit 16 n)
    → (w ≤ 0x10_FFFF → (v ≤ 0x10_FFFF) × (w ≡ v * 16 + n)) → Part a d (IsDigits w)
digits_grown v n w h k grows =
    onward (IsDigits v) (IsDigit 16 n) (IsDigits w) h k (λ t u digits z small. let both = grows small in
    rw (z.1, both.1, z.3) (number_more 16 t v z.0 (digits both.0) z.2))

pub number_grown : {a b d : Bytes} (v n w : ℕ) → Part a b (λ t. number 10 t ≡ Some v) → Part b d (IsDigit 10 n)
    → w ≡ v * 10 + n → Part a d (λ t. number 10 t ≡ Some w)
number_grown v n w h k e =
    onward (λ t. number 10 t ≡ Some v) (IsDigit 10 n) (λ t. number 10 t ≡ Some w) h k
    (λ t u p z. rw (z.1, e, z.3) (number_more 10 t v z.0 p z.2))

abbrev pub AreDigits : ℕ → Bytes → Type 0
AreDigits radix t = list_all (λ d. is_digit d radix) t ≡ true

pub number_begins : (radix n : ℕ) (t : Bytes) → number radix t ≡ Some n
    → (d : ℕ) × (w : Bytes) × (t ≡ d ∷ w) × (is_digit d radix ≡ true) × AreDigits radix w
    × (number_after radix (digit_value d) w ≡ n)
number_begins radix n [] e = absurd (cc)
number_begins radix n (d ∷ w) e =
    let both : (AreDigits radix (d ∷ w)) × (number_after radix 0 (d ∷ w) ≡ n) =
    if_some (list_all (λ x. is_digit x radix) (d ∷ w)) (number_after radix 0 (d ∷ w)) n e in
    let all = and_parts (is_digit d radix) (list_all (λ x. is_digit x radix) w) both.0 in
    (d, w, refl, all.0, all.1, ap (λ x. number_after radix x w) (omega arith) ∙ both.1)

-- the digits of the number n that are left before u, after some of the value v, which counts up to a limit
abbrev pub Left : ℕ → ℕ → ℕ → ℕ → Bytes → Bytes → Type 0
Left radix limit v n u a = Part a u (λ t. AreDigits radix t × (n ≤ limit → number_after radix v t ≡ n))

pub begun : {a b u : Bytes} (radix limit n m : ℕ) → Part a b (IsDigit radix m) → Part a u (λ t. number radix t ≡ Some n)
    → Left radix limit m n u b
begun {a} {b} {u} radix limit n m h (q, f, whole) =
    let x = number_begins radix n q whole in
    let same : h.2.0 ∷ b ≡ x.0 ∷ (x.1 ++ u) = sym (digit_front radix m h) ∙ f ∙ ap (λ l. l ++ u) x.2 in
    (x.1, tails same, (x.4, λ small. rw (h.2.3, heads same) x.5))

not_smaller : (radix : ℕ) → ((v : ℕ) → v ≤ v * radix) → (v : ℕ) (t : Bytes) → v ≤ number_after radix v t
not_smaller radix larger v [] = omega arith
not_smaller radix larger v (d ∷ t) =
    let more : v * radix + digit_value d ≤ number_after radix (v * radix + digit_value d) t =
    not_smaller radix larger (v * radix + digit_value d) t in
    omega (arith, larger v)

pub grown : {a b u : Bytes} (radix limit v n m w : ℕ) → ((v : ℕ) → v ≤ v * radix) → Left radix limit v n u a
    → NoDigit radix u → Part a b (IsDigit radix m) → (v ≤ limit → w ≡ v * radix + m) → Left radix limit w n u b
grown radix limit v n m w larger ([], e, (all, whole)) past h grows =
    clash h.2.2 (past h.2.0 (ap (λ l. slice_get l 0) (sym e ∙ digit_front radix m h)))
grown {a} {b} {u} radix limit v n m w larger (c ∷ t, e, (all, whole)) past h grows =
    let same : h.2.0 ∷ b ≡ c ∷ (t ++ u) = sym (digit_front radix m h) ∙ e in (
      t,
      tails same,
      (
        (and_parts (is_digit c radix) (list_all (λ y. is_digit y radix) t) all).1,
        λ small.
            let le : v ≤ number_after radix v (c ∷ t) = not_smaller radix larger v (c ∷ t) in
            let is_whole : number_after radix v (c ∷ t) ≡ n = whole small in
            let below : v ≤ limit = omega (arith, le, is_whole, small) in
            rw (grows below, h.2.3, heads same) is_whole,
      ),
    )

-- with one more digit the number is still no larger than the whole
pub over : {a b u : Bytes} (radix limit v n m : ℕ) → ((v : ℕ) → v ≤ v * radix) → n ≤ limit → Left radix limit v n u a
    → NoDigit radix u → Part a b (IsDigit radix m) → v * radix + m ≤ n
over radix limit v n m larger small left past h =
    let x = grown radix limit v n m (v * radix + m) larger left past h (λ below. refl) in
    let is : number_after radix (v * radix + m) x.0 ≡ n = x.2.1 small in
    rw is at (not_smaller radix larger (v * radix + m) x.0)

pub ended : {a u : Bytes} (radix limit v n : ℕ) → Left radix limit v n u a → NoDigit radix a → (n ≤ limit → v ≡ n)
    × (a ≡ u)
ended radix limit v n ([], e, (all, whole)) past = (whole, e)
ended radix limit v n (d ∷ t, e, (all, whole)) past =
    clash (and_parts (is_digit d radix) (list_all (λ y. is_digit y radix) t) all).0 (past d (ap (λ l. slice_get l 0) e))

-- a brace is no digit
pub past_brace : (s : Bytes) → slice_get s 0 ≡ Some 0x7D → NoDigit 16 s
past_brace s at d e = let same : 0x7D ≡ d = some_injective 0x7D d (sym at ∙ e) in rw (← same) refl

-- digits are left, or what follows
pub next_digit : {A : Type 0} {a u : Bytes} (radix limit v n : ℕ) → Left radix limit v n u a → NoDigit radix a
    → (a ≡ u → ⊥) → A
next_digit radix limit v n left past other = absurd (other (ended radix limit v n left past).1)

-- a number begins with a digit
pub some_digit : {A : Type 0} {a u : Bytes} (radix n : ℕ) → Part a u (λ t. number radix t ≡ Some n) → NoDigit radix a
    → A
some_digit {u = u} radix n (t, e, is) past =
    let x = number_begins radix n t is in
    clash x.3 (past x.0 (ap (λ l. slice_get l 0) (e ∙ ap (λ l. l ++ u) x.2)))

-- decimal digits
pub value_of : (d : ℕ) → is_digit d 10 ≡ true → digit_value d ≡ d - 48
value_of d h = grind (arith)
