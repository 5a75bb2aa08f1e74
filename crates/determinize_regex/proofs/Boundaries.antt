-- Whether a text may be cut at an index.
-- Main statements: decides_boundary.
-- Used by: boundary_law.
-- Idea: a byte that does not continue a character is below 0x80 or above 0xBF.
use Rattle.determinize_regex.proofs.Common.{arith, by_cases, cases_lt, Decides, eq-eqb, eqb-true, get_or_from_slice_get}
use Rattle.determinize_regex.proofs.Common.{IsCharBoundary, length, List, nat_lt, nat_tests, slice_get_cases, true, ℕ, ◌||◌, ◌≡◌, ◌≤◌}
use Rattle.determinize_regex.specs.Utf8.{is_boundary}

begins : (b : ℕ) → (nat_lt b 128 || nat_lt 191 b) ≡ true → 128 ≤ b → 192 ≤ b
begins b h l = grind (arith, nat_tests)

begins_if : (b : ℕ) → (128 ≤ b → 192 ≤ b) → (nat_lt b 128 || nat_lt 191 b) ≡ true
begins_if b h = by_cases (cases_lt b 128)
    (λ l. grind (arith, nat_tests))
    (λ l. let m : 192 ≤ b = h l in grind (arith, nat_tests))

pub decides_boundary : (text : List ℕ) (i : ℕ) → Decides (is_boundary text i) (IsCharBoundary text i)
decides_boundary text i = (
  λ e. by_cases (slice_get_cases text i).1
      (λ s.
      let first = begins s.0 (rw s.2 at e) in
      let same = get_or_from_slice_get text i s.0 0 s.2 in
      (omega (arith, s.1), λ l m. rw same (first (rw same at m))))
      (λ s.
      let last = eqb-true i (length text) (rw s.1 at e) in
      (omega (arith, last), λ l m. absurd (omega (arith, s.0)))),
  λ b. by_cases (slice_get_cases text i).1
      (λ s.
      let same = get_or_from_slice_get text i s.0 0 s.2 in
      rw s.2 (begins_if s.0 (λ l. rw same at (b.1 s.1 (rw same l)))))
      (λ s. rw s.1 (eq-eqb i (length text) (omega (arith, s.0, b.0)))),
)
