-- The look-behind of an NFA without assertions is empty, and that of an NFA without line assertions has only word
-- assertions. Inside a line no line assertion holds.
-- Main statements: after-nothing, after-words, line_set-nothing.
-- Used by: `LookTables::after`, `LookTables::line_set`.
-- Idea: each class of assertions is empty, or each test is false.
use Rattle.std.specs.Prelude.{bit_and}
use Rattle.std.proofs.lemmas.Nat.{and_assoc}
use Rattle.determinize_start.proofs.Common.{ap, arith, Bool, crlf_first, crlf_second, eqb-true, false, is, is_none}
use Rattle.determinize_start.proofs.Common.{has_crlf, has_line, has_word, is_word, line_set, not, Option, refl, sym}
use Rattle.determinize_start.proofs.Common.{Tables, true, ℕ, ◌&&◌, ◌||◌, ◌∙◌, ◌≡◌}
use Rattle.determinize_below.specs.Look.{meets}
use Rattle.determinize_start.specs.LookTables.{insert_where, known_set, have_after, from_word_after, half_crlf_after}

module _ (t : Tables) (u : Option ℕ) (none : t.any ≡ 0) where
  pub after-nothing : (0 ≡ have_after t u) × (false ≡ from_word_after t u) × (false ≡ half_crlf_after t u)
  unfolding have_after known_set insert_where from_word_after half_crlf_after meets
  after-nothing = (rw none refl, rw none refl, rw none refl)

-- the CRLF assertions are line assertions
crlf-lines : (any : ℕ) → has_line any ≡ false → has_crlf any ≡ false
unfolding meets
crlf-lines any h =
    let none : bit_and any 0x3C ≡ 0 = eqb-true (bit_and any 0x3C) 0 (grind (arith, h)) in
    let part : bit_and any 0x30 ≡ 0 = sym (and_assoc 0x30 any 0x3C) ∙ ap (λ x. bit_and x 0x30) none in
    rw part refl

module _ (t : Tables) (u : Option ℕ) (none : has_line t.any ≡ false) where
  pub after-words : (known_set false false false (has_word t.any && not (is_word u)) ≡ have_after t u)
      × (false ≡ half_crlf_after t u)
  unfolding have_after half_crlf_after
  after-words = (rw (none, crlf-lines t.any none) refl, rw (crlf-lines t.any none) refl)

-- none of five tests holds
pub none_of_five : (a b c d e : Bool) → not (a || b || c || d || e) ≡ true
    → (a ≡ false) × (b ≡ false) × (c ≡ false) × (d ≡ false) × (e ≡ false)
none_of_five a b c d e h = (grind arith, grind arith, grind arith, grind arith, grind arith)

-- inside a line a unit satisfies no haystack or line assertion
pub line_set-nothing : (t : Tables) (half : Bool) (u : Option ℕ)
    → not (half || is_none u || is u t.terminator || is u (crlf_first t.reverse) || is u (crlf_second t.reverse)) ≡ true
    → 0 ≡ line_set t half u
unfolding insert_where
line_set-nothing t half u h =
    let tests = none_of_five half (is_none u) (is u t.terminator) (is u (crlf_first t.reverse))
    (is u (crlf_second t.reverse)) h in
    rw (tests.0, tests.1, tests.2, tests.3, tests.4) refl
