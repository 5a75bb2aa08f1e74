-- The first line with a match is that in which the leftmost match of all the bytes ends.
-- Main statements: none_is_first, some_is_first.
-- Used by: first_line_law.
-- Idea: a match does not pass a terminator, so it begins in the line in which it ends.
use Rattle.std.specs.List.{slice_range}
use Rattle.std.specs.Prelude.{slice_get}
use Rattle.std.proofs.Common.{◌≡◌, ◌-◌, ◌+◌, ◌<◌, ◌≤◌, ◌++◌, ◌⊎◌, ◌∙◌, ◌∷◌, ℕ, List, None, Option, Some, [], arith, drop, inl, inr, length, refl, suc, sym, true, zero}
use Rattle.std.proofs.lemmas.Bool.{cases_lt, eq-eqb}
use Rattle.std.proofs.lemmas.List.{append-nil, drop-append-le, length-append, length-drop, take-append-le}
use Rattle.std.proofs.lemmas.Option.{slice_get_past}
use Rattle.ordered_reach.proofs.Cases.{by_cases}
use Rattle.ordered_reach.proofs.lists.Elements.{In, In_none}
use Rattle.determinize_below.specs.Semantics.{Text, after_at, before_at, between}
use Rattle.determinize_below.specs.declared.search.Match.{Match}
use Rattle.determinize_pattern.proofs.in_lines.Edges.{length-line}
use Rattle.determinize_pattern.proofs.in_lines.LeftmostLines.{all_onward, end_in_line, leftmost_in_line, none_in_line}
use Rattle.determinize_pattern.specs.LeftmostOf.{IsLeftmostOf, all_ends}
use Rattle.determinize_pattern.specs.Lines.{AreLines, HasMatchAlone, IsFirstLine, IsLine, NoneIsFirst, SomeIsFirst, all_stay, in_line, is_edge}
use Rattle.determinize_pattern.specs.Meaning.{Re}

get_left : (xs ys : List ℕ) (i : ℕ) → i < length xs → slice_get (xs ++ ys) i ≡ slice_get xs i
get_left [] ys i l = absurd (omega (arith, l))
get_left (x ∷ xs) ys zero l = refl
get_left (x ∷ xs) ys (suc i) l = get_left xs ys i (omega (arith, l))

get_last : (xs : List ℕ) (x : ℕ) → slice_get (xs ++ x ∷ []) (length xs) ≡ Some x
get_last [] x = refl
get_last (y ∷ xs) x = get_last xs x

edge_at : (t : ℕ) (u : Option ℕ) → u ≡ Some t → is_edge t u ≡ true
edge_at t u e = rw (e, eq-eqb t t refl) refl

none_alone : (t : ℕ) (res : List Re) (bytes : List ℕ)
    → IsLeftmostOf t res (between None bytes None) (length bytes) None → HasMatchAlone t res bytes → ⊥
none_alone t res bytes none (m, (low, before, found)) =
    let first : In (m.pattern, m.end) [] = (0, rw (none m.start low) at found) in In_none (m.pattern, m.end) first

-- the bytes, and after them a terminator or nothing
module _ (t : ℕ) (bytes rest : List ℕ) (ended : (rest ≡ []) ⊎ (rest ≡ t ∷ [])) where
  abbrev whole : List ℕ
  whole = bytes ++ rest

  abbrev text : Text
  text = between None bytes None

  line_within : (a b : ℕ) → IsLine t whole a b → b ≤ length bytes
  line_within a b line =
      let high : b ≤ length bytes + length rest = rw (length-append bytes rest) at line.within in
      let low : a < length bytes + length rest = rw (length-append bytes rest) at line.begun in
      by_cases ended
      (λ e. let none : length rest ≡ 0 = rw e refl in omega (arith, high, none))
      (λ e. let one : length rest ≡ 1 = rw e refl in
      by_cases (cases_lt (length bytes) b)
      (λ l. absurd (line.unbroken (length bytes) (omega (arith, low, one)) l (rw e (get_last bytes t))))
      (λ l. l))

  -- a byte of the whole that is a terminator, and is not after the bytes
  inner : (i : ℕ) → i < length bytes → slice_get whole i ≡ Some t → slice_get bytes i ≡ Some t
  inner i l e = sym (get_left bytes rest i l) ∙ e

  starts_at : (a : ℕ) → a ≤ length bytes → (a ≡ 0) ⊎ (slice_get whole (a - 1) ≡ Some t)
      → is_edge t (before_at text a) ≡ true
  starts_at zero l e = refl
  starts_at (suc i) l e = by_cases e
      (λ z. absurd (omega (arith, z)))
      (λ z. let back : suc i - 1 ≡ i = omega arith in edge_at t _ (inner i (omega (arith, l)) (rw back at z)))

  stops_at : (b : ℕ) → (b ≡ length whole) ⊎ (slice_get whole b ≡ Some t) → is_edge t (after_at text b) ≡ true
  stops_at b e = by_cases (cases_lt b (length bytes))
      (λ l. by_cases e
      (λ z. absurd (let more = length-append bytes rest in omega (arith, l, z, more)))
      (λ z. rw (inner b l z, eq-eqb t t refl) refl))
      (λ l. rw (slice_get_past bytes b l) refl)

  lines_of : (a b : ℕ) → IsLine t whole a b → AreLines t text a b
  lines_of a b line =
      let high = line_within a b line in record {
        order = line.order;
        within = high;
        starts = starts_at a (let low = line.order in omega (arith, low, high)) line.starts;
        stops = stops_at b line.stops;
      }

  same_line : (a b : ℕ) → a ≤ b → b ≤ length bytes → slice_range whole a b ≡ slice_range bytes a b
  same_line a b l m =
      rw (drop-append-le a bytes rest (omega (arith, l, m)))
      (take-append-le (b - a) (drop a bytes) rest (let left = length-drop a bytes in omega (arith, l, m, left)))

  module _ (res : List Re) (stay : all_stay t res ≡ true) where
    -- a line in which no match of all the bytes begins has none as a text
    line_none : (a b : ℕ) → IsLine t whole a b → ((k : ℕ) → a ≤ k → k ≤ b → all_ends t text 0 res k ≡ [])
        → HasMatchAlone t res (slice_range whole a b) → ⊥
    line_none a b line none =
        let high = line_within a b line in
        rw (same_line a b line.order high)
        (none_alone t res (slice_range bytes a b)
        (rw (length-line bytes a b high) (none_in_line t res text a b (lines_of a b line) stay none)))

    none_first : IsLeftmostOf t res text (length bytes) None → IsFirstLine t res whole None
    none_first none c d line = line_none c d line
        (λ k low high. none k (let more = line_within c d line in omega (arith, high, more)))

    module _ (m : Match) (is : IsLeftmostOf t res text (length bytes) (Some m))
        (a b : ℕ) (line : IsLine t whole a b) (low : a ≤ m.end) (high : m.end ≤ b) where
      -- the match begins in the line
      begins_in : a ≤ m.start
      begins_in = by_cases (cases_lt m.start a)
          (λ l. by_cases line.starts
          (λ z. absurd (omega (arith, l, z)))
          (λ z. let within = line_within a b line in let order = line.order in
          let before : AreLines t text 0 (a - 1) = record {
            order = omega arith;
            within = omega (arith, order, within);
            starts = refl;
            stops = stops_at (a - 1) (inr z);
          } in
          absurd (let e : m.end ≤ a - 1 = end_in_line t res text 0 (a - 1) before stay m.start m.pattern m.end
          (omega arith) (omega (arith, l)) is.2 in omega (arith, l, e, low))))
          (λ l. l)

      ordered : m.start ≤ m.end
      ordered = by_cases (all_onward t text res 0 m.start (m.pattern, m.end) (0, is.2))
          (λ e. omega arith)
          (λ e. omega (arith, e.0))

      has_match : HasMatchAlone t res (slice_range whole a b)
      has_match =
          let within = line_within a b line in
          rw (same_line a b line.order within) (
            in_line a m,
            rw (length-line bytes a b within)
                (leftmost_in_line t res text a b (lines_of a b line) stay (length bytes) m is begins_in
                (let e = ordered in omega (arith, e, high))),
          )

      -- an earlier line ends before it
      ends_before : (c d : ℕ) → c < a → IsLine t whole c d → d < a
      ends_before c d l other = by_cases (cases_lt d a)
          (λ e. e)
          (λ e. by_cases line.starts
          (λ z. absurd (omega (arith, l, z)))
          (λ z. absurd (other.unbroken (a - 1) (omega (arith, l)) (omega (arith, l, e)) z)))

      some_first : IsFirstLine t res whole (Some (a, b))
      some_first = (
        line,
        has_match,
        λ c d l other. line_none c d other
            (λ k p q. is.1 k (let e = ends_before c d l other in let f = begins_in in omega (arith, q, e, f))),
      )

pub none_is_first : NoneIsFirst
none_is_first t res bytes whole ends stay none = by_cases ends
    (λ e. rw (e ∙ sym (append-nil bytes)) (none_first t bytes [] (inl refl) res stay none))
    (λ e. rw e (none_first t bytes (t ∷ []) (inr refl) res stay none))

pub some_is_first : SomeIsFirst
some_is_first t res bytes whole ends stay m is a b line low high = by_cases ends
    (λ e. let at = e ∙ sym (append-nil bytes) in
    rw at (some_first t bytes [] (inl refl) res stay m is a b (rw at at line) low high))
    (λ e. rw e (some_first t bytes (t ∷ []) (inr refl) res stay m is a b (rw e at line) low high))
