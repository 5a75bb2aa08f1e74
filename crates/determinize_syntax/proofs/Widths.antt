-- Characters beyond ASCII as bytes.
-- Main statements: width_of, front_is, long_enough.
-- Used by: the proofs of `take_wide`.
-- Idea: the first byte of a character decides how many it has.
use Rattle.determinize_syntax.proofs.Common.{◌++◌, ◌+◌, ◌<◌, ◌∙◌, ◌∷◌, ◌≡◌, ◌≤◌, ◌⊎◌, Bytes, [], ap, arith, by_test}
use Rattle.determinize_syntax.proofs.Common.{heads, inl, inr, len_utf8, length, length-encode, ltb-false, ltb-true}
use Rattle.determinize_syntax.proofs.Common.{nat_lt, refl, sym, ℕ}
use Rattle.std.proofs.Common.{◌/◌, le-ltb, length-append, lt-ltb, take}
use Rattle.std.specs.Char.{encode_utf8}
use Rattle.std.proofs.lemmas.Bool.{cond-false, cond-true}

-- the first byte, and how many there are
abbrev pub WidthOf : ℕ → ℕ → Type 0
WidthOf b n = ((192 ≤ b) × (b < 224) × (n ≡ 2)) ⊎ (((224 ≤ b) × (b < 240) × (n ≡ 3)) ⊎ ((240 ≤ b) × (n ≡ 4)))

two : (c b : ℕ) (t : Bytes) → 128 ≤ c → c < 2048 → encode_utf8 c ≡ b ∷ t → WidthOf b (len_utf8 c)
unfolding encode_utf8
two c b t large small e =
    let is = cond-false _ _ _ (le-ltb c 128 large) ∙ cond-true _ _ _ (lt-ltb c 2048 small) in
    let first : 192 + c / 64 ≡ b = heads (sym is ∙ e) in
    let len : len_utf8 c ≡ 2 = cond-false _ _ _ (le-ltb c 128 large) ∙ cond-true _ _ _ (lt-ltb c 2048 small) in
    inl (omega (arith, first), omega (arith, first), len)

three : (c b : ℕ) (t : Bytes) → 2048 ≤ c → c < 65536 → encode_utf8 c ≡ b ∷ t → WidthOf b (len_utf8 c)
unfolding encode_utf8
three c b t large small e =
    let more : 128 ≤ c = omega arith in
    let is = cond-false _ _ _ (le-ltb c 128 more) ∙ cond-false _ _ _ (le-ltb c 2048 large)
    ∙ cond-true _ _ _ (lt-ltb c 65536 small) in
    let first : 224 + c / 4096 ≡ b = heads (sym is ∙ e) in
    let len : len_utf8 c ≡ 3 =
    cond-false _ _ _ (le-ltb c 128 more) ∙ cond-false _ _ _ (le-ltb c 2048 large)
    ∙ cond-true _ _ _ (lt-ltb c 65536 small) in
    inr (inl (omega (arith, first), omega (arith, first), len))

four : (c b : ℕ) (t : Bytes) → 65536 ≤ c → encode_utf8 c ≡ b ∷ t → WidthOf b (len_utf8 c)
unfolding encode_utf8
four c b t large e =
    let more : 128 ≤ c = omega arith in
    let most : 2048 ≤ c = omega arith in
    let is = cond-false _ _ _ (le-ltb c 128 more) ∙ cond-false _ _ _ (le-ltb c 2048 most)
    ∙ cond-false _ _ _ (le-ltb c 65536 large) in
    let first : 240 + c / 262144 ≡ b = heads (sym is ∙ e) in
    let len : len_utf8 c ≡ 4 =
    cond-false _ _ _ (le-ltb c 128 more) ∙ cond-false _ _ _ (le-ltb c 2048 most)
    ∙ cond-false _ _ _ (le-ltb c 65536 large) in
    inr (inr (omega (arith, first), len))

pub width_of : (c b : ℕ) (t : Bytes) → 128 ≤ c → encode_utf8 c ≡ b ∷ t → WidthOf b (len_utf8 c)
width_of c b t large e =
    by_test (nat_lt c 2048) (λ i. two c b t large (ltb-true c 2048 i) e)
    (λ i. by_test (nat_lt c 65536) (λ j. three c b t (ltb-false c 2048 i) (ltb-true c 65536 j) e)
    (λ j. four c b t (ltb-false c 65536 j) e))

take_all : (xs ys : Bytes) → take (length xs) (xs ++ ys) ≡ xs
take_all [] ys = refl
take_all (x ∷ xs) ys = ap (λ r. x ∷ r) (take_all xs ys)

pub front_is : (c n : ℕ) (a t : Bytes) → a ≡ encode_utf8 c ++ t → n ≡ len_utf8 c → take n a ≡ encode_utf8 c
front_is c n a t e width =
    ap (λ m. take m a) (width ∙ sym (length-encode c)) ∙ ap (take (length (encode_utf8 c))) e
    ∙ take_all (encode_utf8 c) t

pub long_enough : (c : ℕ) (a t : Bytes) → a ≡ encode_utf8 c ++ t → len_utf8 c ≤ length a
long_enough c a t e =
    let len : length a ≡ len_utf8 c + length t =
    ap length e ∙ length-append (encode_utf8 c) t ∙ ap (λ n. n + length t) (length-encode c) in
    omega (arith, len)
