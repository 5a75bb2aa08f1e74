-- An input has one leftmost match and one list of matches: they lie in the range, do not overlap, and end in turn.
-- Main statements: each_leftmost_is_one, each_leftmost_in_is_one, each_matches_are_one, lies, next_lies, apart.
-- Used by: `laws::leftmost_law` and `matches_law`, TwoSearches, the steps of `Pieces`, and loops over all matches.
-- Idea: neither of two leftmost matches begins before the other, and of the runs from one position the least accepting
-- one is one; each match is determined by the end of the one before.
use Rattle.determinize_find.proofs.Common.{ap, AreApart, AreMatches, arith, Asked, by_cases, by_test, cases_order}
use Rattle.determinize_find.proofs.Common.{choices, each_run_reads_forward, false, from, is_done, IsLeftmostIn}
use Rattle.determinize_find.proofs.Common.{IsLeftmostMatch, IsNext, IsTaken, latest, length, length-drop, length-take}
use Rattle.determinize_find.proofs.Common.{List, Match, moved, nat_tests, Nfa, None, none-some, Option, option_map}
use Rattle.determinize_find.proofs.Common.{refl, same_least, slice_range, Some, some_injective, sym, Text, text_of, touches, [], ℕ, ◌+◌, ◌-◌, ◌<◌, ◌∙◌, ◌∷◌, ◌≡◌, ◌≤◌}
use Rattle.ordered_reach.proofs.graph.UniqueOrder.{one_end}
use Rattle.determinize_find.proofs.leftmost.SearchInTurn.{in_text, run_within}
use Rattle.determinize_find.specs.Laws.{EachLeftmostInIsOne, EachLeftmostIsOne, EachMatchesAreApart, EachMatchesAreOne}

one_match : {nfa : Nfa} {text : Text} (m n : Match) → IsLeftmostMatch nfa text m → IsLeftmostMatch nfa text n → m ≡ n
one_match {nfa} {text} m n a b = by_cases (cases_order m.start n.start)
    (λ e. let (s, run, is) = a.accepts in
    let (t, other, at) = rw (← e) at b.accepts in
    let same : a.choices ≡ b.choices = same_least _ _ (a.preferred b.choices n.end n.pattern (t, other, at))
    ((rw (← e) at b.preferred) a.choices m.end m.pattern a.accepts) in
    let end : ◌≡◌ {A = ℕ × ℕ} (m.end, s) (n.end, t) = one_end (choices nfa text) [] (m.start, nfa.start_anchored)
    b.choices (m.end, s) (n.end, t) (rw same at run) other in
    let state : s ≡ t = ap (λ w. w.1) end in
    let pattern : m.pattern ≡ n.pattern = cc (is, at) in
    λ i. record { pattern = pattern i; start = e i; end = (end i).0 })
    (λ c. absurd (by_cases c
    (λ l. b.leftmost m.start l a.choices m.end m.pattern a.accepts)
    (λ l. a.leftmost n.start l b.choices n.end n.pattern b.accepts)))

pub each_leftmost_is_one : EachLeftmostIsOne
each_leftmost_is_one nfa text latest None None a b = refl
each_leftmost_is_one nfa text latest None (Some m) a b = absurd (a m.start b.0 b.1.choices m.end m.pattern b.1.accepts)
each_leftmost_is_one nfa text latest (Some m) None a b = absurd (b m.start a.0 a.1.choices m.end m.pattern a.1.accepts)
each_leftmost_is_one nfa text latest (Some m) (Some n) a b = ap Some (one_match m n a.1 b.1)

pub each_leftmost_in_is_one : EachLeftmostInIsOne
each_leftmost_in_is_one nfa asked found other a b = by_test (is_done asked)
    (λ d. a.done d ∙ sym (b.done d))
    (λ d. let (m, p, e) = a.found d in let (n, q, f) = b.found d in
    e ∙ ap (option_map (moved asked.start)) (each_leftmost_is_one _ _ _ m n p q) ∙ sym f)

one_taken : (nfa : Nfa) (asked : Asked) (before : Option ℕ) (first found other : Option Match)
    → IsTaken nfa asked before first found → IsTaken nfa asked before first other → found ≡ other
one_taken nfa asked before None found other a b = a ∙ sym b
one_taken nfa asked before (Some m) found other a b = by_test (touches before m)
    (λ e. each_leftmost_in_is_one nfa (from asked (asked.start + 1)) found other (a.0 e) (b.0 e))
    (λ e. a.1 e ∙ sym (b.1 e))

one_next : (nfa : Nfa) (asked : Asked) (before : Option ℕ) (found other : Option Match)
    → IsNext nfa asked before found → IsNext nfa asked before other → found ≡ other
one_next nfa asked before found other (first, a, taken) (second, b, is) =
    let e = each_leftmost_in_is_one nfa asked first second a b in
    one_taken nfa asked before second found other (rw e at taken) is

pub each_matches_are_one : EachMatchesAreOne
each_matches_are_one nfa asked before [] [] a b = refl
each_matches_are_one nfa asked before [] (n ∷ ns) a b = absurd (none-some n (one_next nfa asked before _ _ a b.0))
each_matches_are_one nfa asked before (m ∷ ms) [] a b = absurd (none-some m (one_next nfa asked before _ _ b a.0))
each_matches_are_one nfa asked before (m ∷ ms) (n ∷ ns) a b =
    let e = some_injective m n (one_next nfa asked before _ _ a.0 b.0) in
    cc (e, each_matches_are_one nfa (from asked n.end) (Some n.end) ms ns (rw e at a.1) b.1)

pub length-range : (asked : Asked) → asked.end ≤ length asked.haystack
    → length (slice_range asked.haystack asked.start asked.end) ≡ asked.end - asked.start
length-range asked l = simp (length-take, length-drop) (omega arith)

-- where the leftmost match lies
pub record LiesIn (asked : Asked) (m : Match) : Type 0 where
  pub low : asked.start ≤ m.start
  pub order : m.start ≤ m.end
  pub high : m.end ≤ asked.end

pub lies : (nfa : Nfa) (asked : Asked) (m : Match) → asked.end ≤ length asked.haystack → IsLeftmostIn nfa asked (Some m)
    → LiesIn asked m
lies nfa asked m within h =
    let t = in_text h in
    let accepts = t.leftmost.accepts in
    let early : t.match.start ≤ asked.end - asked.start = grind (arith, t.early) in
    let size = length-range asked within in
    let order : t.match.start ≤ t.match.end
    = each_run_reads_forward nfa (text_of false asked) _ nfa.start_anchored _ _ _ accepts in
    let high = run_within nfa (text_of false asked) _ _ _ _ (omega arith) accepts in
    record { low = omega arith; order = omega arith; high = omega arith }

-- where the next match lies, and that it ends later than the one before
pub next_lies : (nfa : Nfa) (asked : Asked) (before : Option ℕ) (m : Match) → asked.end ≤ length asked.haystack
    → ((last : ℕ) → before ≡ Some last → last ≡ asked.start) → IsNext nfa asked before (Some m)
    → LiesIn asked m × ((last : ℕ) → before ≡ Some last → last < m.end)
next_lies nfa asked before m l starts (None, x, taken) = cc
next_lies nfa asked before m l starts (Some n, x, taken) = by_test (touches before n)
    (λ e. let y = lies nfa (from asked (asked.start + 1)) m l (taken.0 e) in (
      record { low = omega (arith, y.low); order = y.order; high = y.high },
      λ last k. omega (arith, starts last k, y.low, y.order),
    ))
    (λ e. let y = lies nfa asked n l x in
    rw (some_injective m n (taken.1 e)) (y, λ last k. grind (arith, nat_tests, starts last k, y.low, y.order)))

pub apart : (nfa : Nfa) (asked : Asked) (before : Option ℕ) (ms : List Match) → asked.end ≤ length asked.haystack
    → ((last : ℕ) → before ≡ Some last → last ≡ asked.start)
    → AreMatches nfa asked before ms → AreApart asked.start before asked.end ms
apart nfa asked before [] l starts h = tt
apart nfa asked before (m ∷ ms) l starts h =
    let (lie, later) = next_lies nfa asked before m l starts h.0 in
    (lie.low, lie.order, lie.high, later, apart nfa (from asked m.end) (Some m.end) ms l (λ last e. cc) h.1)

pub each_matches_are_apart : EachMatchesAreApart
each_matches_are_apart nfa asked ms l h = apart nfa asked None ms l (λ last e. cc) h
