-- All matches by searches from one index after another.
-- Main statements: best_found, best_order, best_end, next_longer, next_empty, next_none, next_past, turned_none,
-- turned_longer, turned_empty, turned_touching, turn_pays.
-- Used by: Passing.
-- Idea: the search from where an empty match ends finds it again, so the next match is the leftmost one from one byte
-- further on.
use Rattle.std.specs.Prelude.{nat_eq, option_map}
use Rattle.std.proofs.Common.{◌≡◌, ◌<◌, ◌≤◌, ◌*◌, ◌+◌, ◌-◌, ◌∙◌, ℕ, None, Option, Some}
use Rattle.std.proofs.Common.{ap, arith, cond, false, refl, subst, suc, sym, true}
use Rattle.std.proofs.lemmas.Bool.{cases_lt, eqb-true, true≢false}
use Rattle.std.proofs.lemmas.Bool.Decides.{nat_tests}
use Rattle.std.proofs.lemmas.Option.{none-some}
use Rattle.std.proofs.Math.Nat.{mul-le-mul_left}
use Rattle.determinize_below.specs.Search.{Asked}
use Rattle.determinize_below.specs.Semantics.{Nfa, Text}
use Rattle.determinize_below.specs.declared.search.HalfMatch.{HalfMatch}
use Rattle.determinize_below.specs.declared.search.Match.{Match}
use Rattle.determinize_engine.specs.Searches.{text_of}
use Rattle.determinize_find.specs.LeftmostIn.{IsLeftmostIn, is_anchored, moved}
use Rattle.determinize_find.specs.Matches.{IsNext, IsTaken, from, touches}
use Rattle.determinize_find.specs.Private.BestAt.{IsBestAt, IsBestIn, from_index}
use Rattle.determinize_find.proofs.leftmost.SearchInTurn.{NothingBefore, found_here, found_last, found_past}
use Rattle.determinize_find.proofs.leftmost.SearchInTurn.{latest_is, more_nothing}
use Rattle.determinize_find.proofs.matches.NextMatch.{next_plain}
use Rattle.determinize_nfa.proofs.runs.Shifts.{each_run_reads_forward}
use Rattle.ordered_reach.proofs.Cases.{by_cases, by_test, some_injective}
use Rattle.determinize_linear.specs.Private.Paid.{end_of, in_haystack}
use Rattle.determinize_linear.specs.Private.Turns.{IsTurned, ends_at, rest_of}
use Rattle.determinize_linear.proofs.search.Matches.{best_rest}

-- what is found at a position of the text of an input
pub best_found : (nfa : Nfa) (asked : Asked) (text : Text) (at : ℕ) (o : Option HalfMatch) → text ≡ text_of false asked
    → IsBestAt nfa text at (option_map (from_index at) o)
    → IsBestIn nfa asked (asked.start + at) (option_map (in_haystack asked.start at) o)
best_found nfa asked text at o t best =
    let k : at ≡ asked.start + at - asked.start = omega arith in (
      option_map (from_index at) o,
      subst (λ n. IsBestAt nfa (text_of false asked) n (option_map (from_index at) o)) k
          (subst (λ w. IsBestAt nfa w at (option_map (from_index at) o)) t best),
      same o,
    )
  where
    same : (o : Option HalfMatch) → option_map (in_haystack asked.start at) o
        ≡ option_map (moved asked.start) (option_map (from_index at) o)
    same None = refl
    same (Some m) = refl

pub best_order : (nfa : Nfa) (text : Text) (at : ℕ) (m : HalfMatch) → IsBestAt nfa text at (Some (from_index at m))
    → at ≤ m.offset
best_order nfa text at m best =
    each_run_reads_forward nfa text at nfa.start_anchored best.1.0 m.offset m.pattern best.1.1.accepts

pub best_end : (nfa : Nfa) (text : Text) (at : ℕ) (o : Option HalfMatch)
    → IsBestAt nfa text at (option_map (from_index at) o) → at ≤ end_of at o
best_end nfa text at None best = omega arith
best_end nfa text at (Some m) best = best_order nfa text at m best

-- what the test of the last end says
last_is : (before : Option ℕ) (at : ℕ) → ends_at before at ≡ true → before ≡ Some at
last_is None at e = absurd (true≢false (sym e))
last_is (Some end) at e = ap Some (eqb-true end at e)

module _ (nfa : Nfa) (asked : Asked) where
  -- where no match begins before an index, the best one there is the leftmost
  leftmost : (start at : ℕ) (m : Match) → asked.start ≤ start → start ≤ at → at ≤ asked.end
      → NothingBefore nfa (from asked start) at → (is_anchored nfa asked.anchored ≡ true → at ≡ start)
      → IsBestIn nfa asked at (Some m) → IsLeftmostIn nfa (from asked start) (Some m)
  leftmost start at m inside low high nothing anchored best =
      let last = latest_is nfa (from asked start) _ nfa (omega arith) refl refl in
      let upto : at ≤ cond (is_anchored nfa asked.anchored) start asked.end = by_test (is_anchored nfa asked.anchored)
      (λ e. rw e (omega (arith, anchored e))) (λ e. rw e high) in
      let rest = best_rest nfa asked start at (Some m) inside low high best in
      by_cases (cases_lt at (cond (is_anchored nfa asked.anchored) start asked.end))
      (λ l. found_here nfa nfa (from asked start) at _ m refl last low l nothing rest)
      (λ l. found_last nfa nfa (from asked start) at _ (Some m) refl last (omega arith) nothing
      (let z : at ≡ cond (is_anchored nfa asked.anchored) start asked.end = omega arith in rw z at rest))

  -- the next match from where an empty one ended
  module _ (at : ℕ) (m : Match) (is : IsLeftmostIn nfa (from asked at) (Some m))
      (empty : touches (Some at) m ≡ true) where
    further : (found : Option Match) → IsNext nfa (from asked (at + 1)) None found
        → IsNext nfa (from asked at) (Some at) found
    further found h = (Some m, is, (λ e. one h.0 h.1 h.2, λ e. absurd (true≢false (sym empty ∙ e))))
      where
        one : (o : Option Match) → IsLeftmostIn nfa (from asked (at + 1)) o
            → IsTaken nfa (from asked (at + 1)) None o found → IsLeftmostIn nfa (from asked (at + 1)) found
        one None x e = subst (λ f. IsLeftmostIn nfa (from asked (at + 1)) f) (sym e) x
        one (Some n) x e = subst (λ f. IsLeftmostIn nfa (from asked (at + 1)) f) (sym (e.1 refl)) x

  -- after a match that ended at an index, where an empty one begins
  after_skip : (before : Option ℕ) (at : ℕ) → asked.start ≤ at → before ≡ Some at
      → ((found : Option Match) → IsNext nfa (from asked (at + 1)) None found
      → IsNext nfa (rest_of asked before) before found) → IsTurned nfa asked before (at + 1)
  after_skip before at inside is same = record {
    start = at + 1;
    last = None;
    inside = omega arith;
    low = omega arith;
    same = same;
    nothing = λ k l. absurd (omega arith);
    anchored = λ e. refl;
    touched = λ e. let z : at ≡ at + 1 = some_injective at (at + 1) (sym is ∙ e) in absurd (omega (arith, z));
    untouched = λ end e. absurd (none-some end e);
    passed = λ end e. let z : at ≡ end = some_injective at end (sym is ∙ e) in omega (arith, z);
  }

  module _ (before : Option ℕ) (at : ℕ) (turned : IsTurned nfa asked before at) (high : at ≤ asked.end) where
    module _ (m : Match) (best : IsBestIn nfa asked at (Some m)) (starts : m.start ≡ at) where
      again : IsLeftmostIn nfa (from asked at) (Some m)
      again = leftmost at at m (omega (arith, turned.inside, turned.low)) (omega arith) high
          (λ k l. absurd (omega arith))
          (λ e. refl) best

      one : touches turned.last m ≡ false → IsNext nfa (rest_of asked before) before (Some m)
      one apart = turned.same (Some m) (next_plain nfa (from asked turned.start) turned.last (Some m)
          (leftmost turned.start at m turned.inside turned.low high turned.nothing turned.anchored best) apart)

      pub next_longer : at < m.end → IsNext nfa (rest_of asked before) before (Some m)
      next_longer l = one (apart turned.last)
        where
          apart : (o : Option ℕ) → touches o m ≡ false
          apart None = refl
          apart (Some end) = grind (arith, nat_tests, starts, l)

      pub next_empty : m.end ≡ at → ends_at before at ≡ false → IsNext nfa (rest_of asked before) before (Some m)
      next_empty ends new = one (apart turned.last turned.untouched)
        where
          apart : (o : Option ℕ) → ((end : ℕ) → o ≡ Some end → before ≡ Some end) → touches o m ≡ false
          apart None h = refl
          apart (Some end) h =
              let other : nat_eq end at ≡ false = rw (h end refl) at new in
              grind (arith, nat_tests, starts, ends, other)

      pub turned_longer : at < m.end → IsTurned nfa asked (Some m.end) m.end
      turned_longer l = record {
        start = m.end;
        last = Some m.end;
        inside = omega (arith, turned.inside, turned.low, l);
        low = omega arith;
        same = λ found h. h;
        nothing = λ k j. absurd (omega arith);
        anchored = λ e. refl;
        touched = λ e. (refl, refl);
        untouched = λ end e. e;
        passed = λ end e. let z : m.end ≡ end = some_injective m.end end e in omega (arith, z);
      }

      pub turned_empty : m.end ≡ at → IsTurned nfa asked (Some m.end) (at + 1)
      turned_empty ends = after_skip (Some m.end) at (omega (arith, turned.inside, turned.low)) (ap Some ends)
          (λ found h. rw ends (further at m again (grind (arith, nat_tests, starts, ends)) found h))

      pub turned_touching : m.end ≡ at → ends_at before at ≡ true → IsTurned nfa asked before (at + 1)
      turned_touching ends old =
          let is = last_is before at old in
          let was = turned.touched is in
          after_skip before at (omega (arith, turned.inside, turned.low)) is
          (λ found h. turned.same found
          (rw (was.0, was.1) (further at m again (grind (arith, nat_tests, starts, ends)) found h)))

    module _ (none : IsBestIn nfa asked at None) where
      pub turned_none : is_anchored nfa asked.anchored ≡ false → IsTurned nfa asked before (at + 1)
      turned_none free = record {
        start = turned.start;
        last = turned.last;
        inside = turned.inside;
        low = omega (arith, turned.low);
        same = turned.same;
        nothing = more_nothing nfa nfa (from asked turned.start) at refl turned.low turned.nothing
            (best_rest nfa asked turned.start at None turned.inside turned.low high none);
        anchored = λ e. absurd (true≢false (sym e ∙ free));
        touched = λ e. absurd (omega (arith, turned.passed (at + 1) e));
        untouched = turned.untouched;
        passed = λ end e. omega (arith, turned.passed end e);
      }

      pub next_none : is_anchored nfa asked.anchored ≡ true → IsNext nfa (rest_of asked before) before None
      next_none e =
          let z : at ≡ turned.start = turned.anchored e in
          turned.same None (
            None,
            found_last nfa nfa (from asked turned.start) at turned.start None refl
                (latest_is nfa (from asked turned.start) turned.start nfa (omega (arith, turned.low)) refl (rw e refl))
                turned.low turned.nothing
                (rw z at (best_rest nfa asked turned.start at None turned.inside turned.low high none)),
            refl,
          )

  pub next_past : (before : Option ℕ) (at : ℕ) → IsTurned nfa asked before at → asked.end < at
      → IsNext nfa (rest_of asked before) before None
  next_past before at turned past = turned.same None (None, none, refl)
    where
      none : IsLeftmostIn nfa (from asked turned.start) None
      none = by_cases (cases_lt asked.end turned.start)
          (λ l. found_past nfa (from asked turned.start) l)
          (λ l. record {
            done = λ d. refl;
            found = λ d. (
              None,
              (λ k j. turned.nothing k (by_test (is_anchored nfa asked.anchored)
                  (λ e. let z : at ≡ turned.start = turned.anchored e in absurd (omega (arith, z, l, past)))
                  (λ e. let j : k ≤ asked.end - turned.start = rw e at j in omega (arith, j, l, past)))),
              refl,
            );
          })

-- each search uses up one index
pub turn_pays : (d a b : ℕ) → a < b → d * a + d ≤ d * b
turn_pays d a b l = omega (arith, mul-le-mul_left {m = suc a} {n = b} d l)
