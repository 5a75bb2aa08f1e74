-- The first line that has a match, by one search of all lines or by one of each.
-- Main statements: none_first, some_first, passed_line, none_left.
-- Used by: `first_at_once` and `first_in_turn` of `LineFinder`.
-- Idea: of all lines at once the law of the first line says it; in turn, the lines before an index have none, and the
-- next index is behind the line that was searched.
use Rattle.std.specs.List.{slice_range}
use Rattle.std.specs.Prelude.{◌∷◌, ◌⊎◌, slice_get}
use Rattle.std.specs.declared.ops.Range.{Range}
use Rattle.determinize_core.proofs.Common.{ap, arith, HalfMatch, length, length-append, List, None, Some, [], ℕ, ◌+◌, ◌-◌, ◌<◌, ◌∙◌, ◌≡◌, ◌≤◌, true}
use Rattle.determinize_find.specs.Laws.{end_of}
use Rattle.determinize_lines.specs.Finders.{FinderValue, IsAround, IsFirstWithMatch, IsMatching, IsStopAfter, NoneBefore}
use Rattle.determinize_lines.specs.Private.Finding.{IsEndIn, IsTextOf}
use Rattle.determinize_pattern.specs.Lines.{IsLine, NoneIsFirst, SomeIsFirst, all_stay}
use Rattle.determinize_regex.specs.Regexes.{meanings}
use Rattle.ordered_reach.proofs.Cases.{by_cases, some_injective}
use Rattle.std.proofs.lemmas.Bool.{cases_lt, cases_order}

-- all lines at once
module _ (finder : FinderValue) (same : finder.terminator ≡ finder.regex.terminator)
    (stay : all_stay finder.terminator (meanings finder.regex) ≡ true) (lines text : List ℕ)
    (is : IsTextOf finder.terminator lines text) where
  pub none_first : NoneIsFirst → IsEndIn finder.regex text None → IsFirstWithMatch finder lines None
  none_first law (None, leftmost, e) = rw same (rw same at (law finder.terminator (meanings finder.regex) text lines
      is.whole stay (rw same leftmost)))
  none_first law (Some m, leftmost, e) = absurd (cc)

  pub some_first : SomeIsFirst → (h : HalfMatch) → IsEndIn finder.regex text (Some h) → 0 < length lines
      → h.offset ≤ length text
      → (line : Range ℕ) → IsAround finder.terminator lines h.offset line.start line.end
      → IsFirstWithMatch finder lines (Some line)
  some_first law h (None, leftmost, e) some within line around = absurd (cc)
  some_first law h (Some m, leftmost, e) some within line around =
      let end : h.offset ≡ m.end = ap (λ x. x.offset) (some_injective h (end_of m) e) in
      rw same (rw same at (law finder.terminator (meanings finder.regex) text lines is.whole stay m
      (rw same leftmost) line.start line.end (line_around h.offset some within around)
      (rw end at around.low) (rw end at around.behind.order)))
    where
      line_around : (index : ℕ) → 0 < length lines → index ≤ length text
          → IsAround finder.terminator lines index line.start line.end
          → IsLine finder.terminator lines line.start line.end
      line_around index some within around = record {
        begun = begun;
        order = omega (arith, around.low, around.behind.order);
        within = around.behind.within;
        starts = around.starts;
        stops = around.behind.stops;
        unbroken = λ i low high t. by_cases (cases_lt i index)
            (λ earlier. around.before i low earlier t)
            (λ later. around.behind.unbroken i later high t);
      }
        where
          begun : line.start < length lines
          begun = by_cases is.whole
              (λ e. by_cases around.starts
              (λ z. omega arith)
              (λ t. by_cases (cases_lt line.start (length lines))
              (λ l. l)
              (λ past. let size : length lines ≡ length text = ap length e in
              let low = around.low in
              let at : line.start ≡ length lines = omega arith in
              absurd (is.end e (rw at at t)))))
              (λ e. let size : length lines ≡ length text + 1
              = ap length e ∙ length-append text (finder.terminator ∷ []) in
              let low = around.low in omega arith)

-- a line that was searched
module _ (finder : FinderValue) (lines : List ℕ) (start end : ℕ) (low : start < length lines)
    (begun : (start ≡ 0) ⊎ (slice_get lines (start - 1) ≡ Some finder.terminator))
    (stop : IsStopAfter finder.terminator lines start end) (before : NoneBefore finder lines start) where
  -- if it has no match, none before the next index has one
  pub passed_line : (IsMatching finder (slice_range lines start end) → ⊥) → NoneBefore finder lines (end + 1)
  passed_line none a b l is has = by_cases (cases_lt a start)
      (λ earlier. before a b earlier is has)
      (λ later. by_cases (cases_order a start)
      (λ at. let same_end : b ≡ end = one_end at is in none (rw (at, same_end) at has))
      (λ apart. by_cases is.starts
      (λ z. absurd (omega arith))
      (λ t. absurd (stop.unbroken (a - 1) (omega arith) (omega arith) t))))
    where
      one_end : {a b : ℕ} → a ≡ start → IsLine finder.terminator lines a b → b ≡ end
      one_end {a} {b} at is = by_cases (cases_order b end)
          (λ same. same)
          (λ apart. by_cases apart
          (λ shorter. by_cases is.stops
          (λ last. let w = stop.within in absurd (omega arith))
          (λ t. let o = is.order in absurd (stop.unbroken b (omega arith) shorter t)))
          (λ longer. by_cases stop.stops
          (λ last. let w = is.within in absurd (omega arith))
          (λ t. let o = stop.order in absurd (is.unbroken end (omega arith) longer t))))

-- all lines were passed
pub none_left : (finder : FinderValue) (lines : List ℕ) (start : ℕ) → length lines ≤ start
    → NoneBefore finder lines start → IsFirstWithMatch finder lines None
none_left finder lines start l before a b is = before a b (omega (arith, is.begun)) is
