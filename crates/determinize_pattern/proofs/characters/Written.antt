-- Numbers written in base 64, and branches of those whose first digit is from one to another.
-- Main statements: pushed, alike_more, rest_small, byte_exactly, rest_exactly, before_same, before_more,
-- before_all.
-- Used by: the proof of `push_numbers`.
-- Idea: a number is its first digit times a power of 64, and the number of the digits after it.
use Rattle.std.proofs.Math.Nat.{div-lt_iff_lt-mul, mod-lt, mul_assoc}
use Rattle.std.proofs.lemmas.Nat.{div-add-mod', div-mul-add}
use Rattle.std.proofs.lemmas.Bool.Decides.{nat_tests}
use Rattle.std.proofs.lemmas.Bool.{cases_lt, false≢true}
use Rattle.std.specs.Prelude.{slice_get}
use Rattle.std.proofs.Common.{◌↔◌, ◌⊎◌, ◌≡◌, ◌*◌, ◌+◌, ◌-◌, ◌/◌, ◌%◌, ◌<◌, ◌≤◌, ◌++◌, ◌∙◌, ◌∷◌, ℕ, All, List, None, Option, Some, [], ap, arith, inl, inr, length, map, refl, suc, sym, true, zero}
use Rattle.ordered_reach.proofs.Cases.{by_cases}
use Rattle.determinize_pattern.proofs.characters.Branches.{IsExactly, adds_both, adds_one, adds_same, all_added}
use Rattle.determinize_pattern.proofs.characters.Runs.{no_number, part_has, part_within, some_number}
use Rattle.determinize_pattern.specs.Meaning.{Byte, Re, is_in}
use Rattle.determinize_pattern.specs.Patterns.{choice_of, meaning, sequence}
use Rattle.determinize_pattern.specs.Private.Characters.{Adds, ArePart, HasNumber, IsNumberOf, IsWrittenFrom, capacity, in_runs, numbers_of}
use Rattle.determinize_pattern.specs.declared.pattern.Pattern.{Pattern}
use Rattle.determinize_pattern.specs.declared.utf8.Run.{Run}

low_in : (low high b : ℕ) → is_in ((low, high) ∷ []) (Some b) ≡ true → low ≤ b
low_in low high b h = grind (arith, nat_tests)

high_in : (low high b : ℕ) → is_in ((low, high) ∷ []) (Some b) ≡ true → b ≤ high
high_in low high b h = grind (arith, nat_tests)

in_range : (low high b : ℕ) → low ≤ b → b ≤ high → is_in ((low, high) ∷ []) (Some b) ≡ true
in_range low high b l k = grind (arith, nat_tests)

byte_in : (low high : ℕ) (u : Option ℕ) → is_in ((low, high) ∷ []) u ≡ true
    → (b : ℕ) × (u ≡ Some b) × (low ≤ b) × (b ≤ high)
byte_in low high None h = absurd (false≢true h)
byte_in low high (Some b) h = (b, refl, low_in low high b h, high_in low high b h)

one_digit : (lead digit past b : ℕ) → digit < past → lead + digit ≤ b → b ≤ lead + (past - 1)
    → (digit ≤ b - lead) × (b - lead < past) × (b ≡ lead + (b - lead))
one_digit lead digit past b some l k = (omega arith, omega arith, omega arith)

pub numbers_pos : (count : ℕ) → 0 < numbers_of count
numbers_pos zero = omega arith
numbers_pos (suc count) = omega (arith, numbers_pos count)

pub capacity_is : (lead count : ℕ) → capacity lead count ≡ (256 - lead) * numbers_of count
capacity_is lead zero = omega arith
capacity_is lead (suc count) =
    ap (λ (n : ℕ). n * 64) (capacity_is lead count) ∙ mul_assoc (256 - lead) (numbers_of count) 64

-- the digits after the first one are those of a number of their own
first_digit : (bytes : List ℕ) (lead count d r i j : ℕ) → r < numbers_of (suc count)
    → IsWrittenFrom bytes lead (suc count) (d * numbers_of (suc count) + r) i j
    ↔ ((slice_get bytes i ≡ Some (lead + d)) × IsWrittenFrom bytes 128 count r (suc i) j)
first_digit bytes lead zero d r i j l =
    let front : (d * 64 + r) / 64 ≡ d = omega arith in
    let back : (d * 64 + r) % 64 ≡ r = omega arith in (
      λ w. (
        w.1.0 ∙ ap (λ (n : ℕ). Some (lead + n)) front,
        ((rw w.1.1 at w.2) ∙ ap (λ (n : ℕ). Some (128 + n)) back, w.3 ∙ ap suc w.1.1),
      ),
      λ w. (
        suc i,
        (w.0 ∙ ap (λ (n : ℕ). Some (lead + n)) (sym front), refl),
        w.1.0 ∙ ap (λ (n : ℕ). Some (128 + n)) (sym back),
        w.1.1,
      ),
    )
first_digit bytes lead (suc count) d r i j l =
    let size = numbers_of (suc count) in
    let whole : d * (size * 64) ≡ d * size * 64 = sym (mul_assoc d size 64) in
    let front : (d * (size * 64) + r) / 64 ≡ d * size + r / 64 = omega (arith, whole) in
    let back : (d * (size * 64) + r) % 64 ≡ r % 64 = omega (arith, whole) in
    let less : r / 64 < size = omega (arith, l) in (
      λ w.
          let before = (first_digit bytes lead count d (r / 64) i w.0 less).0 (rw front at w.1) in
          (before.0, (w.0, before.1, w.2 ∙ ap (λ (n : ℕ). Some (128 + n)) back, w.3)),
      λ w. (
        w.1.0,
        rw front ((first_digit bytes lead count d (r / 64) i w.1.0 less).1 (w.0, w.1.1)),
        w.1.2 ∙ ap (λ (n : ℕ). Some (128 + n)) (sym back),
        w.1.3,
      ),
    )

-- the numbers in the runs whose first digit is below this one
abbrev pub Before : ℕ → List Run → ℕ → ℕ → Type 0
Before count runs digit v = (v / numbers_of count < digit) × (in_runs runs v ≡ true)

-- those whose first digit is from one on and below another
abbrev pub Between : ℕ → List Run → ℕ → ℕ → ℕ → Type 0
Between count runs digit past v =
    (digit ≤ v / numbers_of count) × (v / numbers_of count < past) × (in_runs runs v ≡ true)

-- the digits after the first one are those of the same numbers
abbrev pub AreAlike : ℕ → List Run → ℕ → ℕ → List Run → Type 0
AreAlike count runs digit past rest = (d : ℕ) → digit ≤ d → d < past
    → ArePart runs (d * numbers_of count) (d * numbers_of count + numbers_of count) (d * numbers_of count) rest

module _ (count : ℕ) (runs rest : List Run) (digit past : ℕ) (alike : AreAlike count runs digit past rest) where
  abbrev size : ℕ
  size = numbers_of count

  -- a number after a first digit
  joined : (d r : ℕ) → digit ≤ d → d < past → in_runs rest r ≡ true
      → (r < size) × Between count runs digit past (d * size + r)
  joined d r l m e =
      let within = part_within runs rest (d * size) (d * size + size) (d * size) r (alike d l m) e in
      let less : r < size = omega (arith, within.1) in
      let same : (d * size + r) / size ≡ d = div-mul-add d size r less in
      (less, (rw same l, rw same m, within.2))

  -- the number of the digits after the first one
  cut : (v : ℕ) → Between count runs digit past v
      → (v % size < size) × (in_runs rest (v % size) ≡ true) × (v / size * size + v % size ≡ v)
  cut v b =
      let less : v % size < size = mod-lt v (numbers_pos count) in
      let whole : v / size * size + v % size ≡ v = div-add-mod' v size in (
        less,
        part_has runs rest (v / size * size) (v / size * size + size) (v / size * size) (v % size)
            (alike (v / size) b.0 b.1) (omega arith) (omega (arith, less)) (rw whole b.2),
        whole,
      )

-- what follows one more digit
pub alike_more : (count : ℕ) (runs rest : List Run) (digit past : ℕ)
    → ArePart runs (digit * numbers_of count) (digit * numbers_of count + numbers_of count)
    (digit * numbers_of count) rest
    → AreAlike count runs (digit + 1) past rest → AreAlike count runs digit past rest
alike_more count runs rest digit past first later d l m = by_cases (cases_lt digit d)
    (λ k. later d (omega arith) m)
    (λ k. let same : d ≡ digit = omega arith in rw same first)

-- the numbers that follow a digit can be written with a digit less
pub rest_small : (count : ℕ) (runs rest : List Run) (low : ℕ) → 0 < count
    → ArePart runs low (low + numbers_of count) low rest → (v : ℕ) → in_runs rest v ≡ true
    → v < capacity 128 (count - 1)
rest_small zero runs rest low some part v e = absurd (omega arith)
rest_small (suc count) runs rest low some part v e =
    let within = part_within runs rest low (low + numbers_of (suc count)) low v part e in
    let most : capacity 128 count ≡ 128 * numbers_of count = capacity_is 128 count in
    let back : suc count - 1 ≡ count = omega arith in
    rw back (omega (arith, within.1, most))

-- one digit and none after it
pub byte_exactly : (lead count digit past : ℕ) (runs rest : List Run) (re : Re) → count ≡ 0 → digit < past
    → AreAlike count runs digit past rest → All HasNumber rest → 0 < length rest
    → re ≡ Byte ((lead + digit, lead + (past - 1)) ∷ [])
    → IsExactly (IsNumberOf lead count (Between count runs digit past)) re
byte_exactly lead (suc count) digit past runs rest re none some alike all l e = absurd (omega arith)
byte_exactly lead zero digit past runs rest re none some alike all l e = rw e (record {
  each = λ t text i j. (
    λ m.
        let b = byte_in (lead + digit) (lead + (past - 1)) (slice_get text.bytes i) m.0 in
        let d = one_digit lead digit past b.0 some b.2 b.3 in
        let r = some_number rest all l in
        let n = joined 0 runs rest digit past alike (b.0 - lead) r.0 d.0 d.1 r.1 in
        let same : (b.0 - lead) * 1 + r.0 ≡ b.0 - lead = omega (arith, n.0) in
        (b.0 - lead, rw same at n.1, (b.1 ∙ ap Some d.2, m.1)),
    λ n.
        let whole : n.0 / 1 ≡ n.0 = omega arith in
        let low : lead + digit ≤ lead + n.0 = omega (arith, n.1.0, whole) in
        let high : lead + n.0 ≤ lead + (past - 1) = omega (arith, n.1.1, whole) in
        (rw n.2.0 (in_range (lead + digit) (lead + (past - 1)) (lead + n.0) low high), n.2.1),
  );
})

-- one digit and then those of a number of the rest
rest_after : (lead count digit past : ℕ) (runs rest : List Run) (re : Re) → digit < past
    → AreAlike (suc count) runs digit past rest
    → IsExactly (IsNumberOf 128 count (λ v. in_runs rest v ≡ true)) re
    → IsExactly (IsNumberOf lead (suc count) (Between (suc count) runs digit past))
    (sequence (Byte ((lead + digit, lead + (past - 1)) ∷ []) ∷ re ∷ []))
rest_after lead count digit past runs rest re some alike h = record {
  each = λ t text i j. (
    λ m.
        let b = byte_in (lead + digit) (lead + (past - 1)) (slice_get text.bytes i) m.1.0 in
        let d = one_digit lead digit past b.0 some b.2 b.3 in
        let r = (h.each t text m.0 m.2.0).0 m.2.1 in
        let n = joined (suc count) runs rest digit past alike (b.0 - lead) r.0 d.0 d.1 r.1 in (
          (b.0 - lead) * numbers_of (suc count) + r.0,
          n.1,
          (first_digit text.bytes lead count (b.0 - lead) r.0 i j n.0).1
              (b.1 ∙ ap Some d.2, rw (m.2.2, ← m.1.1) r.2),
        ),
    λ n.
        let size = numbers_of (suc count) in
        let c = cut (suc count) runs rest digit past alike n.0 n.1 in
        let w = (first_digit text.bytes lead count (n.0 / size) (n.0 % size) i j c.0).0 (rw c.2 n.2) in
        let low : lead + digit ≤ lead + n.0 / size = omega (arith, n.1.0) in
        let high : lead + n.0 / size ≤ lead + (past - 1) = omega (arith, n.1.1) in (
          suc i,
          (rw w.0 (in_range (lead + digit) (lead + (past - 1)) (lead + n.0 / size) low high), refl),
          (j, (h.each t text (suc i) j).1 (n.0 % size, c.1, w.1), refl),
        ),
  );
}

pub rest_exactly : (lead count digit past : ℕ) (runs rest : List Run) (rests : List Re) (re : Re) → 0 < count
    → digit < past → AreAlike count runs digit past rest
    → Adds (IsNumberOf 128 (count - 1) (λ v. in_runs rest v ≡ true)) [] rests
    → re ≡ sequence (Byte ((lead + digit, lead + (past - 1)) ∷ []) ∷ choice_of rests ∷ [])
    → IsExactly (IsNumberOf lead count (Between count runs digit past)) re
rest_exactly lead zero digit past runs rest rests re more some alike added e = absurd (omega arith)
rest_exactly lead (suc count) digit past runs rest rests re more some alike added e =
    let back : suc count - 1 ≡ count = omega arith in
    rw e (rest_after lead count digit past runs rest (choice_of rests) some alike
    (all_added (IsNumberOf 128 count (λ v. in_runs rest v ≡ true)) rests (rw back at added)))

-- what a branch matches that is added to others
map_push : (ps : List Pattern) (p : Pattern) → map meaning (ps ++ p ∷ []) ≡ map meaning ps ++ meaning p ∷ []
map_push [] p = refl
map_push (q ∷ ps) p = ap (λ (r : List Re). meaning q ∷ r) (map_push ps p)

pub pushed : (P : List ℕ → ℕ → ℕ → Type 0) (old new : List Pattern) (p : Pattern) → new ≡ old ++ p ∷ []
    → IsExactly P (meaning p) → Adds P (map meaning old) (map meaning new)
pushed P old new p e h = rw (e, map_push old p) (adds_one P (map meaning old) (meaning p) h)

module _ (lead count : ℕ) (P Q : ℕ → Type 0) where
  -- the same numbers
  number_same : ((v : ℕ) → Q v → P v) → ((v : ℕ) → P v → Q v) → (bytes : List ℕ) (i j : ℕ)
      → IsNumberOf lead count Q bytes i j ↔ IsNumberOf lead count P bytes i j
  number_same f g bytes i j = (λ n. (n.0, f n.0 n.1, n.2), λ n. (n.0, g n.0 n.1, n.2))

  number_either : (R : ℕ → Type 0) → ((v : ℕ) → R v → P v ⊎ Q v) → ((v : ℕ) → P v → R v) → ((v : ℕ) → Q v → R v)
      → (bytes : List ℕ) (i j : ℕ) → IsNumberOf lead count R bytes i j
      ↔ (IsNumberOf lead count P bytes i j ⊎ IsNumberOf lead count Q bytes i j)
  number_either R split left right bytes i j = (
    λ n. by_cases (split n.0 n.1) (λ p. inl (n.0, p, n.2)) (λ q. inr (n.0, q, n.2)),
    λ m. by_cases m (λ n. (n.0, left n.0 n.1, n.2)) (λ n. (n.0, right n.0 n.1, n.2)),
  )

module _ (lead count : ℕ) (runs : List Run) where
  abbrev Adds_before : ℕ → List Re → List Re → Type 0
  Adds_before digit a b = Adds (IsNumberOf lead count (Before count runs digit)) a b

  -- no number has one of these first digits
  pub before_same : (digit past : ℕ) (rest : List Run) (a b : List Re) → digit ≤ past
      → AreAlike count runs digit past rest → length rest ≡ 0 → Adds_before digit a b → Adds_before past a b
  before_same digit past rest a b l alike none added =
      adds_same (IsNumberOf lead count (Before count runs digit)) (IsNumberOf lead count (Before count runs past)) a b
      (number_same lead count (Before count runs digit) (Before count runs past)
      (λ v h. by_cases (cases_lt (v / numbers_of count) digit)
      (λ k. (k, h.1))
      (λ k. absurd (false≢true (sym (no_number rest none (v % numbers_of count))
      ∙ (cut count runs rest digit past alike v (k, h.0, h.1)).1))))
      (λ v h. (omega (arith, h.0), h.1)))
      added

  -- one branch more
  pub before_more : (digit past : ℕ) (a b c : List Re) → digit ≤ past → Adds_before digit a b
      → Adds (IsNumberOf lead count (Between count runs digit past)) b c → Adds_before past a c
  before_more digit past a b c l first second =
      adds_both (IsNumberOf lead count (Before count runs digit))
      (IsNumberOf lead count (Between count runs digit past)) (IsNumberOf lead count (Before count runs past)) a b c
      (number_either lead count (Before count runs digit) (Between count runs digit past) (Before count runs past)
      (λ v h. by_cases (cases_lt (v / numbers_of count) digit) (λ k. inl (k, h.1)) (λ k. inr (k, h.0, h.1)))
      (λ v h. (omega (arith, h.0), h.1))
      (λ v h. (h.1, h.2)))
      first second

  -- all first digits
  pub before_all : (a b : List Re) → ((v : ℕ) → in_runs runs v ≡ true → v < capacity lead count)
      → Adds_before (256 - lead) a b → Adds (IsNumberOf lead count (λ v. in_runs runs v ≡ true)) a b
  before_all a b small added =
      adds_same (IsNumberOf lead count (Before count runs (256 - lead)))
      (IsNumberOf lead count (λ v. in_runs runs v ≡ true)) a b
      (number_same lead count (Before count runs (256 - lead)) (λ v. in_runs runs v ≡ true)
      (λ v h. ((div-lt_iff_lt-mul (numbers_pos count)).1 (rw (← capacity_is lead count) (small v h)), h))
      (λ v h. h.1))
      added
