-- What the value of a scan says of the runs so far: whether one that began before is under way, and which match is
-- certain.
-- Main statements: begun_first, each_busy_has_begun, each_idle_is_fresh, fresh, certain_is.
-- Used by: `laws::idle_law` and `certain_law`, `Pieces::is_idle` and `certain_now`.
-- Idea: texts that begin with the same bytes have the same units before the end of these, and at it the assertions
-- that are known are true. The value of a scan with an NFA state is that of a walk over its bytes. The least run to
-- its first state is before the one that passes over all bytes, so it left the prefix earlier, and before each
-- other run did. At an idle place it is that one, so no other run comes there; and where one accepts before, the
-- leftmost match ends there or later. If the first state is a `Match`, the next step lists its pattern and enters
-- no state, so the last match of each walk is the same, and the leftmost match begins with that run. Where a match
-- that ends before begins depends only on what is before its end.
use Rattle.determinize_find.proofs.Common.{AcceptsFrom, add-one, after_at, All, All-append, All-drop, All-nil, ap}
use Rattle.determinize_find.proofs.Common.{append-nil, append_assoc, arith, Assertion, Before, Before-trans, before_at}
use Rattle.determinize_find.proofs.Common.{between, Bool, by_cases, by_option, by_test, byte_before, cases_eq, cases_lt}
use Rattle.determinize_find.proofs.Common.{certain_after, certain_match, chain, choice_cases, choice_later, choices}
use Rattle.determinize_find.proofs.Common.{choices_under, cond, drop, drop-append-le, each_run_reads_forward}
use Rattle.determinize_find.proofs.Common.{EachBusyHasBegun, EachCertainIsPreferred, EachIdleIsFresh, end_of, ended_at}
use Rattle.determinize_find.proofs.Common.{eq-eqb, false, from, HalfMatch, HasPrefix, HasPrefixApart, inl, inr, is_capture, is_match, is_reopened, IsAccepted, IsBeginOf, IsCertain}
use Rattle.determinize_find.proofs.Common.{IsEndScan, IsFresh, IsLeftmostIn, IsLeftmostMatch, IsPath, IsScan, IsSettled}
use Rattle.determinize_find.proofs.Common.{last_match, leads_to, LeftmostFirst, length, length-append, length-drop}
use Rattle.determinize_find.proofs.Common.{length-map, List, map, map-append, Match, moved, ne_eqb, Nfa, None}
use Rattle.determinize_find.proofs.Common.{none-some, none_leaves, Option, option_or, part_read, parted, pass, pass_all}
use Rattle.determinize_find.proofs.Common.{pass_first, pattern_in, pattern_of, patterns_of, patterns_read, preferred}
use Rattle.determinize_find.proofs.Common.{reach, refl, same_least, Scanned, skip, skip_before, slice_get, slice_get-get_or, slice_get_within, Some, some_injective, start_value}
use Rattle.determinize_find.proofs.Common.{stays_out, step, suc, sym, tests_capture, Text, true, true_at, u_not_a}
use Rattle.determinize_find.proofs.Common.{u_not_x, under_later, unshape, whole, working_list, zero, [], ℕ, ◌++◌, ◌+◌, ◌<◌, ◌==◌, ◌∙◌, ◌∷◌, ◌≡◌, ◌≤◌, ◌⊎◌}
use Rattle.ordered_reach.specs.Runs.{IsLeastRun, ListsReached}
use Rattle.determinize_core.proofs.walk.UnitLists.{chain_is_future}
use Rattle.determinize_core.proofs.walk.WalkOfRuns.{each_chain_reaches}
use Rattle.determinize_engine.proofs.Scanning.{last-scanned, settled}
use Rattle.determinize_engine.specs.Private.Later.{last_from}
use Rattle.std.proofs.Math.Nat.{lt_of_not-le, zero-add}
use Rattle.determinize_find.proofs.leftmost.PreferredRun.{each_preferred_is_leftmost, not_before}
use Rattle.determinize_core.proofs.Common.{future, MatchKind, same_decides, state_at, value_after}
use Rattle.determinize_below.proofs.nfas.SoundNfa.{match_in}
use Rattle.determinize_core.proofs.closure.EmptySearch.{reach-none}
use Rattle.determinize_core.proofs.walk.WalkLoops.{stops_at}
use Rattle.determinize_engine.proofs.LastUnits.{last_match-within}
use Rattle.determinize_engine.proofs.Later.{last_from-next, last_from-over}
use Rattle.determinize_find.proofs.streams.Rests.{byte_before-append, of_rest, slice_get-append}
use Rattle.determinize_core.specs.Value.{Value}
use Rattle.determinize_engine.specs.UnitsRead.{units_read}
use Rattle.determinize_find.specs.Idle.{IsIdle}
use Rattle.ordered_reach.proofs.lists.Elements.{Contains_In, In_cases, In_none}
use mathlib.Core.Path.{fun_ext}
use Rattle.determinize_below.proofs.nfas.Edges.{next_of}
use Rattle.determinize_start.proofs.tables.TrueTables.{known_truth}
use Rattle.determinize_below.specs.Reached.{known, known_choices}
use Rattle.determinize_nfa.proofs.runs.SameChoices.{free_more, one_choice, same_choices}
use Rattle.ordered_reach.proofs.graph.PathMaps.{path_agree}

not_less : (a b : ℕ) → (a < b → ⊥) → b ≤ a
not_less a b none = by_cases (cases_lt a b) (λ l. absurd (none l)) (λ l. l)

-- the assertions that are known at a position, and those that are true at the others
abbrev known_there : Nfa → Text → ℕ → ℕ → Assertion → Bool
known_there nfa full m i = cond (i == m) (known nfa (before_at full i)) (true_at nfa full i)

known_is : (nfa : Nfa) (full : Text) (m : ℕ)
    → known_choices nfa full m ≡ choices_under nfa full (known_there nfa full m)
known_is nfa full m = fun_ext (λ p. by_test (p.0 == m) (λ e. rw e refl) (λ e. rw e refl))

module _ (nfa : Nfa) (behind : Option ℕ) (bytes : List ℕ) where
  abbrev cut : ℕ
  cut = length bytes

  -- the bytes, with nothing ahead of them
  abbrev begun : Text
  begun = between behind bytes None

  abbrev there : ℕ → Assertion → Bool
  there = known_there nfa begun cut

  -- the choices of runs over them
  abbrev graph : ℕ × ℕ → List (ℕ × ℕ)
  graph = choices_under nfa begun there

  module _ (more : List ℕ) (ahead : Option ℕ) where
    abbrev full : Text
    full = between behind (bytes ++ more) ahead

    before_same : (i : ℕ) → i ≤ cut → before_at full i ≡ before_at begun i
    before_same zero l = refl
    before_same (suc i) l = slice_get-append bytes more i (omega arith)

    same_before : (p : ℕ × ℕ) → p.0 < cut → graph p ≡ choices nfa full p
    same_before p l = same_choices nfa begun full there (true_at nfa full) p (sym (slice_get-append bytes more p.0 l))
        (rw (
          ne_eqb p.0 cut (λ e. omega arith),
          before_same p.0 (omega arith),
          slice_get-append bytes more p.0 l,
          slice_get-get_or bytes p.0 0 l,
        ))

    -- a run by what is known there is a run over each text
    true_path : (cs : List ℕ) (r : ℕ × ℕ) (s : ℕ) → IsPath graph [] r cs (cut, s)
        → IsPath (choices nfa full) [] r cs (cut, s)
    true_path cs r s p =
        (path_agree graph (choices nfa full) (λ t. t.0 ≤ cut) moves cs [] r (cut, s) (omega arith) p).1
      where
        moves : (p t : ℕ × ℕ) (c : ℕ) → slice_get (graph p) c ≡ Some t → t.0 ≤ cut
            → (p.0 ≤ cut) × (slice_get (choices nfa full p) c ≡ Some t)
        moves p t c e l =
            let low : p.0 ≤ t.0 = under_later nfa begun there p t c e in (
              omega arith,
              by_cases (cases_lt p.0 cut)
                  (λ k. rw (same_before p k) at e)
                  (λ k. let here : p.0 ≡ cut = omega arith in
                  free_more nfa begun full there (true_at nfa full) p t c (omega arith) (λ look y.
                  known_truth nfa (before_at full p.0) (after_at full p.0) look
                  (rw (before_same p.0 (omega arith)) (rw (eq-eqb p.0 cut here) at y))) e),
            )

    -- some state there other than a capture, and a run to it by what is known there
    abbrev Passes : List (ℕ × ℕ) → ℕ × ℕ → Type 0
    Passes held r = (cs : List ℕ) × (s : ℕ) × (is_capture nfa s ≡ false) × IsPath graph held r cs (cut, s)

    -- before the position, and from a capture there, a choice is one by what is known, and does not go past it
    goes_on : (r t : ℕ × ℕ) (c : ℕ) → r.0 ≤ cut → slice_get (choices nfa full r) c ≡ Some t
        → ((cut ≡ r.0) × (is_capture nfa r.1 ≡ false)) ⊎ ((slice_get (graph r) c ≡ Some t) × (t.0 ≤ cut))
    goes_on r t c l e = by_cases (cases_lt r.0 cut)
        (λ k. inr (
          rw (same_before r k) e,
          choice_cases nfa full r t c e (λ z f. omega arith) (λ z f. omega arith),
        ))
        (λ k. by_test (is_capture nfa r.1)
        (λ y. let one : slice_get ((r.0, next_of nfa r.1) ∷ []) c ≡ Some t
        = rw (one_choice nfa full (true_at nfa full) r y) at e in
        let same : t.0 ≡ r.0
        = In_cases t (r.0, next_of nfa r.1) [] (c, one) (λ e. ap (λ w. w.0) e) (In_none t) in
        inr (rw (one_choice nfa begun there r y) one, omega arith))
        (λ y. inl (omega arith, y)))

    -- a run that ends there or later in such a state passes it
    passes : (cs : List ℕ) (held : List (ℕ × ℕ)) (r q : ℕ × ℕ) → r.0 ≤ cut → cut ≤ q.0
        → is_capture nfa q.1 ≡ false → IsPath (choices nfa full) held r cs q → Passes held r
    passes [] held r q l n k p =
        let same = ap (λ w. w.0) p.1 in let here : cut ≡ r.0 = omega arith in
        ([], r.1, rw p.1 at k, (p.0, λ i. (here i, r.1)))
    passes (c ∷ cs) held r q l n k p = by_cases (goes_on r p.1.0 c l p.1.1)
        (λ (here, plain). ([], r.1, plain, (p.0, λ i. (here i, r.1))))
        (λ (e, low). let d = passes cs (r ∷ held) p.1.0 q low n k p.1.2 in
        (c ∷ d.0, d.1, d.2, (p.0, (p.1.0, e, d.3))))

  -- a run that ends before is one over each of these texts
  same_path : (more others : List ℕ) (ahead beyond : Option ℕ) (cs : List ℕ) (r q : ℕ × ℕ) → q.0 < cut
      → IsPath (choices nfa (full more ahead)) [] r cs q → IsPath (choices nfa (full others beyond)) [] r cs q
  same_path more others ahead beyond cs r q l p =
      (path_agree (choices nfa (full more ahead)) (choices nfa (full others beyond)) (λ t. t.0 < cut) moves cs [] r q l
      p).1
    where
      moves : (p t : ℕ × ℕ) (c : ℕ) → slice_get (choices nfa (full more ahead) p) c ≡ Some t → t.0 < cut
          → (p.0 < cut) × (slice_get (choices nfa (full others beyond) p) c ≡ Some t)
      moves p t c e l =
          let low = choice_later nfa (full more ahead) p t c e in
          let before : p.0 < cut = omega arith in
          (before, rw (← same_before others beyond p before, same_before more ahead p before) e)

module _ (nfa : Nfa) (kind : MatchKind) where
  -- a search that is at a value with an NFA state has read all units
  reads_all : (us : List (Option ℕ)) (v : Value) (x : ℕ)
      → slice_get (value_after nfa kind v (units_read (step nfa kind) false v us)).states 0 ≡ Some x
      → value_after nfa kind v (units_read (step nfa kind) false v us) ≡ value_after nfa kind v us
  reads_all [] v x first = refl
  reads_all (u ∷ us) v x first = grind (arith, reads_all us (step nfa kind v u) x)

  -- the value after some units, among those that follow
  future_at : (us vs : List (Option ℕ)) (v : Value)
      → slice_get (future nfa kind v (us ++ vs)) (length us) ≡ Some (value_after nfa kind v us)
  future_at [] [] v = refl
  future_at [] (w ∷ vs) v = refl
  future_at (u ∷ us) vs v = future_at us vs (step nfa kind v u)

module _ {nfa : Nfa} {start : ℕ} {behind : Option ℕ} {bytes : List ℕ} {s : Scanned}
    (is : IsScan nfa LeftmostFirst start behind bytes s) where
  abbrev first : Value
  first = start_value nfa start behind

  -- the last match of each text that begins with the bytes
  pub scanned_whole : (more : List ℕ) (ahead : Option ℕ)
      → last_match (chain nfa LeftmostFirst start (between behind (bytes ++ more) ahead))
      ≡ last_from nfa LeftmostFirst s.read s.last s.state (map Some more ++ ahead ∷ [])
  scanned_whole more ahead =
      rw (chain_is_future, map-append, append_assoc) (last-scanned is (map Some more ++ ahead ∷ []))

  -- which ends there or later, if there is no match so far
  pub ends_later : s.last ≡ None → (more : List ℕ) (ahead : Option ℕ) (h : HalfMatch)
      → last_match (chain nfa LeftmostFirst start (between behind (bytes ++ more) ahead)) ≡ Some h
      → length bytes ≤ h.offset
  ends_later none more ahead h e =
      let last = rw none at (sym (scanned_whole more ahead) ∙ e) in rw (← is.read) (grind (arith, last))

  -- the first state of the value is the first that runs reach where the bytes end
  pub recorded : IsAccepted nfa → (x : ℕ) → slice_get s.state.states 0 ≡ Some x → (xs : List ℕ)
      × ListsReached (graph nfa behind bytes) (is_capture nfa) start (length bytes) xs × (slice_get xs 0 ≡ Some x)
  recorded accepted x e =
      let all : s.state ≡ value_after nfa LeftmostFirst first (map Some bytes)
      = is.state ∙ reads_all nfa LeftmostFirst (map Some bytes) first x (rw (← is.state) e) in
      let item : slice_get (chain nfa LeftmostFirst start (begun nfa behind bytes)) (length bytes) ≡ Some s.state
      = rw (chain_is_future, all, ← length-map bytes Some) (future_at nfa LeftmostFirst (map Some bytes) _ first) in
      let r = (each_chain_reaches nfa accepted LeftmostFirst start (begun nfa behind bytes)).ids (length bytes)
      s.state (omega arith) item in
      let first = slice_get-append s.state.states r.2.0 0 (slice_get_within s.state.states 0 x e) ∙ e in
      (r.0, rw (← known_is) r.1, rw r.2.1 first)

-- no run to a state of a list is before the least run to its first state
pub none_before : {graph : ℕ × ℕ → List (ℕ × ℕ)} {cap : ℕ → Bool} {start i x : ℕ} {xs cs : List ℕ}
    → ListsReached graph cap start i xs → slice_get xs 0 ≡ Some x → IsLeastRun graph (0, start) cs (i, x)
    → (ds : List ℕ) (t : ℕ) → cap t ≡ false → IsPath graph [] (0, start) ds (i, t) → Before ds cs → ⊥
none_before {graph} {cap} {start} {i} {x} {xs} {cs} lists e is ds t c p before =
    let at = Contains_In same_decides xs t ((lists.reached t).1 (c, (ds, p))) in go at.0 at.1
  where
    go : (j : ℕ) → slice_get xs j ≡ Some t → ⊥
    go zero f = let same : x ≡ t = some_injective x t (sym e ∙ f) in not_before (is.least ds (rw same p)) before
    go (suc j) f =
        let r = lists.by_least 0 (suc j) x t (omega arith) e f in
        let one : cs ≡ r.0 = same_least cs r.0 (is.least r.0 r.2.run) (r.2.least cs is.run) in
        not_before (r.3.least ds p) (Before-trans ds cs r.1 before (rw one r.4))

-- a run to a state where the bytes end began before, and no run to any state there began earlier
pub record HasBegunFirst (nfa : Nfa) (behind : Option ℕ) (bytes : List ℕ) (state : ℕ) : Type 0 where
  pub start : ℕ
  pub below : start < length bytes
  pub choices : List ℕ
  pub path : IsPath (graph nfa behind bytes) [] (start, nfa.start_anchored) choices (length bytes, state)
  pub first : (k : ℕ) (cs : List ℕ) (t : ℕ) → k ≤ length bytes → is_capture nfa t ≡ false
      → IsPath (graph nfa behind bytes) [] (k, nfa.start_anchored) cs (length bytes, t) → start ≤ k

module _ {nfa : Nfa} (accepted : IsAccepted nfa) (has : HasPrefix nfa) {behind : Option ℕ} {bytes : List ℕ}
    (small : All (λ b. b < 256) bytes) {s : Scanned}
    (is : IsScan nfa LeftmostFirst nfa.start_unanchored behind bytes s) where
  abbrev u : ℕ
  u = nfa.start_unanchored

  abbrev a : ℕ
  a = nfa.start_anchored

  abbrev end : ℕ
  end = length bytes

  abbrev text : Text
  text = begun nfa behind bytes

  abbrev holds : ℕ → Assertion → Bool
  holds = there nfa behind bytes

  passed : IsPath (graph nfa behind bytes) [] (0, u) (pass end []) (end, u)
  passed = pass_all nfa text holds has small end (omega arith)

  -- a run from the anchored start at a position is one from the unanchored start
  from_start : (k : ℕ) (cs : List ℕ) (t : ℕ) → k ≤ end → IsPath (graph nfa behind bytes) [] (k, a) cs (end, t)
      → IsPath (graph nfa behind bytes) [] (0, u) (skip k cs) (end, t)
  from_start k cs t l p = unshape nfa text holds has small k 0 cs (end, t) (omega arith) (rw zero-add p)

  -- where the bytes end, a run to the first state is the least of those to all states
  pub begun_first : (x : ℕ) → slice_get s.state.states 0 ≡ Some x → ¬ (x ≡ u) → HasBegunFirst nfa behind bytes x
  begun_first x e other =
      let (xs, lists, x_first) = recorded is accepted x e in
      let plain : is_capture nfa u ≡ false = ap tests_capture has.first in
      let (i, u_there) = Contains_In same_decides xs u ((lists.reached u).1 (plain, (pass end [], passed))) in
      let some : 0 < i = lt_of_not-le (λ l. let zero : i ≡ 0 = omega arith in
      other (some_injective x u (sym x_first ∙ rw zero at u_there))) in
      let (cs, _, least, _, _) = lists.by_least 0 i x u some x_first u_there in
      let none = none_before lists x_first least in
      by_cases (parted nfa text holds has small cs 0 (end, x) (omega arith) least.run)
      (λ s. record {
        start = s.over;
        below = lt_of_not-le
            (λ k. none (pass end []) u plain passed (rw s.is (pass_first end s.over 0 s.choices_then k)));
        choices = s.choices_then;
        path = rw zero-add at s.run;
        first = λ k ds t l c p. not_less k s.over (λ j. none (skip k ds) t c (from_start k ds t l p)
            (rw s.is (skip_before k s.over ds (0 ∷ s.choices_then) j)));
      })
      (λ s. absurd (by_cases s.ends
      (λ e. other (ap (λ w. w.1) e.1))
      (λ e. let z : end ≡ 0 + s.over = ap (λ w. w.0) e.1 in
      none (pass end []) u plain passed (rw e.0 (pass_first end s.over 1 [] (omega arith))))))

  -- where the prefix is apart and the scan is idle
  module _ (apart : (t : ℕ) → leads_to has.skip (state_at nfa t) ≡ true → t ≡ u) (idle : IsIdle nfa s)
      (out : ¬ (a ≡ has.skip)) where
    -- the only run to the unanchored start passes over each byte
    one_run : (cs : List ℕ) → IsPath (graph nfa behind bytes) [] (0, u) cs (end, u) → cs ≡ pass end []
    one_run cs p = by_cases (parted nfa text holds has small cs 0 (end, u) (omega arith) p)
        (λ t. absurd ((stays_out nfa text holds has apart t.choices_then (0 + t.over, a) (end, u)
        (u_not_a nfa text holds has, out) t.run).0 refl))
        (λ t. by_cases t.ends
        (λ e. let z : end ≡ 0 + t.over = ap (λ w. w.0) e.1 in let over : t.over ≡ end = omega arith in rw over at e.0)
        (λ e. absurd (u_not_x nfa text holds has (ap (λ w. w.1) e.1))))

    least : IsLeastRun (graph nfa behind bytes) (0, u) (pass end []) (end, u)
    least = record { run = passed; least = λ ds p. inl (sym (one_run ds p)) }

    -- no run that began before goes past the place
    none_past : (more : List ℕ) (ahead : Option ℕ) (k : ℕ) → k < end → (cs : List ℕ) (j y : ℕ)
        → AcceptsFrom nfa (between behind (bytes ++ more) ahead) k a cs j y → end ≤ j → ⊥
    none_past more ahead k l cs j y (q, run, match) h =
        let (ds, t, plain, path) = passes nfa behind bytes more ahead cs [] (k, a) (j, q) (omega arith) h
        (ap tests_capture match) run in
        let (xs, lists, u_first) = recorded is accepted u idle.first in
        none_before lists u_first least (skip k ds) t plain (from_start k ds t (omega arith) path)
        (skip_before k end ds [] l)

    -- and none accepts before it
    none_at : (k : ℕ) → k < end → (cs : List ℕ) (j y : ℕ) → AcceptsFrom nfa text k a cs j y → ⊥
    none_at k l cs j y acc =
        let found = last_match (chain nfa LeftmostFirst u text) in
        let (o, is_first, e) = each_preferred_is_leftmost nfa has text small found
        (preferred nfa LeftmostFirst u text found accepted refl refl) in
        by_option o
        (λ n. (rw n at is_first) k (omega arith) cs j y acc)
        (λ m y_is. let (low, is_left) = rw y_is at is_first in
        by_cases (cases_lt k m.start)
        (λ earlier. is_left.leftmost k earlier cs j y acc)
        (λ later. none_past [] None m.start (omega arith) is_left.choices m.end m.pattern
        (rw append-nil is_left.accepts) (ends_later is idle.none [] None (end_of m) (rw append-nil (rw y_is at e)))))

pub each_busy_has_begun : EachBusyHasBegun
each_busy_has_begun nfa accepted has behind bytes small s is t e other more ahead =
    let b = begun_first accepted has small is t e other in
    let path = true_path nfa behind bytes more ahead b.choices (b.start, nfa.start_anchored) t b.path in
    (b.start, b.below, b.choices, path)

pub each_idle_is_fresh : EachIdleIsFresh
each_idle_is_fresh nfa accepted apart behind bytes small s is idle more ahead k l cs j y acc =
    by_cases (cases_eq nfa.start_anchored apart.prefix.skip)
    (λ same. none_leaves nfa (between behind (bytes ++ more) ahead) _ apart.prefix same k cs (j, acc.0) y acc.1
    (ap pattern_in acc.2))
    (λ out. by_cases (cases_lt j (length bytes))
    (λ h. let path = same_path nfa behind bytes more [] ahead None cs (k, nfa.start_anchored) (j, acc.0) h acc.1 in
    none_at accepted apart.prefix small is apart.apart idle out k l cs j y (acc.0, rw append-nil at path, acc.2))
    (λ h. none_past accepted apart.prefix small is apart.apart idle out more ahead k l cs j y acc h))

-- so no match begins in the bytes of a haystack over which a search is idle
pub fresh : (nfa : Nfa) (xs : List ℕ) (start : ℕ) (s : Scanned) → HasPrefixApart nfa → All (λ b. b < 256) xs
    → start < length xs → IsEndScan nfa (byte_before xs start) (drop start xs) s → IsIdle nfa s
    → IsFresh nfa xs start
fresh nfa xs start s apart small some h idle = record {
  prefix = apart.prefix;
  some = some;
  nothing = λ more few k l. each_idle_is_fresh nfa h.accepted apart (byte_before xs start) (drop start xs)
      (All-drop (λ b. b < 256) start xs small) s h.scan idle more None k (omega (arith, length-drop start xs));
}

-- a match of a pattern that ends at an offset
abbrev half : ℕ → ℕ → HalfMatch
half pattern offset = record { pattern = pattern; offset = offset }

-- the first NFA state is the match, which ends with the bytes
pub record IsFirst (nfa : Nfa) (s : Scanned) (m : HalfMatch) : Type 0 where
  pub state : ℕ
  pub others : List ℕ
  pub states : s.state.states ≡ state ∷ others
  pub match : pattern_of nfa state ≡ Some m.pattern
  pub end : m.offset ≡ s.read

-- where the first state is a match, its pattern is listed and nothing else is read
stops_first : (nfa : Nfa) (xs : List ℕ) (x p : ℕ) → slice_get xs 0 ≡ Some x → pattern_of nfa x ≡ Some p
    → (part_read LeftmostFirst (is_match nfa) xs ≡ [])
    × (patterns_read LeftmostFirst (patterns_of nfa xs) ≡ p ∷ [])
stops_first nfa [] x p e m = absurd (let z : None ≡ Some x = e in cc)
stops_first nfa (y ∷ ys) x p e m = let z : y ≡ x = some_injective y x e in stops_at nfa [] ys y p refl (rw z m)

module _ {nfa : Nfa} {s : Scanned} {m : HalfMatch} (first : IsFirst nfa s m) where
  -- the first state that a step reads is the first of the value
  reads_first : (u : Option ℕ) → slice_get (working_list nfa s.state u) 0 ≡ Some first.state
  unfolding reach
  reads_first u = by_test (is_reopened nfa s.state u)
      (λ r. rw (r, first.states, add-one) refl)
      (λ r. rw (r, first.states) refl)

  step_first : (u : Option ℕ) → ((step nfa LeftmostFirst s.state u).patterns ≡ m.pattern ∷ [])
      × ((step nfa LeftmostFirst s.state u).states ≡ [])
  unfolding step
  step_first u =
      let (none, listed) = stops_first nfa (working_list nfa s.state u) first.state m.pattern (reads_first u)
      first.match in rw (none, listed, reach-none) (refl, refl)

  -- so it is the last match, for any units that follow
  ends_next : (u : Option ℕ) (us : List (Option ℕ))
      → last_from nfa LeftmostFirst s.read s.last s.state (u ∷ us) ≡ Some (half m.pattern s.read)
  ends_next u us =
      let (listed, none) = step_first u in
      last_from-next nfa LeftmostFirst s.read s.last s.state u us
      ∙ ap (λ ps. last_from nfa LeftmostFirst (s.read + 1) (option_or (ended_at s.read ps) s.last)
      (step nfa LeftmostFirst s.state u) us) listed
      ∙ last_from-over nfa LeftmostFirst (s.read + 1) _ (step nfa LeftmostFirst s.state u) us none

  ends_first : (more : List ℕ) (ahead : Option ℕ)
      → last_from nfa LeftmostFirst s.read s.last s.state (map Some more ++ ahead ∷ []) ≡ Some (half m.pattern s.read)
  ends_first [] ahead = ends_next ahead []
  ends_first (b ∷ more) ahead = ends_next (Some b) (map Some more ++ ahead ∷ [])

-- a certain match is the last one, where no NFA state is left, or that of the first one
certain_cases : (nfa : Nfa) (s : Scanned) (m : HalfMatch) → certain_match nfa s ≡ Some m
    → ((s.state.states ≡ []) × (s.last ≡ Some m)) ⊎ IsFirst nfa s m
certain_cases nfa s m e = go s.state.states refl e
  where
    go : (states : List ℕ) → s.state.states ≡ states → certain_after nfa s.read s.last states ≡ Some m
        → ((s.state.states ≡ []) × (s.last ≡ Some m)) ⊎ IsFirst nfa s m
    go [] z f = inl (z, f)
    go (x ∷ xs) z f = by_option (pattern_of nfa x)
        (λ n. absurd (let w : None ≡ Some m = rw n at f in cc))
        (λ p y. let w : half p s.read ≡ m = some_injective (half p s.read) m (rw y at f) in
        inr (record { state = x; others = xs; states = z; match = rw (← w) y; end = rw (← w) refl }))

module _ {nfa : Nfa} {start : ℕ} {behind : Option ℕ} {bytes : List ℕ} {s : Scanned}
    (is : IsScan nfa LeftmostFirst start behind bytes s) (m : HalfMatch) (e : certain_match nfa s ≡ Some m) where
  pub settled_certain : IsSettled nfa LeftmostFirst start behind bytes (Some m)
  settled_certain = by_cases (certain_cases nfa s m e)
      (λ c. rw (← c.1) (settled is c.0))
      (λ first more ahead. let end : s.read ≡ m.offset = sym first.end in
      sym (scanned_whole is more ahead ∙ ends_first first more ahead ∙ ap (λ n. Some (half m.pattern n)) end))

pub each_certain_is_preferred : EachCertainIsPreferred
each_certain_is_preferred nfa accepted start behind bytes s is m e more ahead =
    preferred nfa LeftmostFirst start (between behind (bytes ++ more) ahead) (Some m) accepted refl
    (settled_certain is m e more ahead)

-- where the leftmost match begins that has this end, of each text that begins with the bytes
pub record BeginsThere (nfa : Nfa) (behind : Option ℕ) (bytes : List ℕ) (end : ℕ) : Type 0 where
  pub start : ℕ
  pub below : start < length bytes
  pub is : (more : List ℕ) (m : Match) → IsLeftmostMatch nfa (between behind (bytes ++ more) None) m → m.end ≡ end
      → m.start ≡ start

-- a match that the first NFA state is begins where the first run does that comes to the end
pub first_begins : {nfa : Nfa} → IsAccepted nfa → HasPrefix nfa → {behind : Option ℕ} {bytes : List ℕ} {s : Scanned}
    {h : HalfMatch} → All (λ b. b < 256) bytes → IsScan nfa LeftmostFirst nfa.start_unanchored behind bytes s
    → IsFirst nfa s h → BeginsThere nfa behind bytes (length bytes)
first_begins {nfa} accepted has {behind} {bytes} {s} {h} small is first =
    let begun = begun_first accepted has small is first.state (rw first.states refl)
    (λ e. let z : Some h.pattern ≡ None = sym first.match ∙ rw (e, has.first) refl in cc) in
    record {
      start = begun.start;
      below = begun.below;
      is = λ more m left end.
          let path = true_path nfa behind bytes more None begun.choices (begun.start, nfa.start_anchored) first.state
          begun.path in
          let low = not_less begun.start m.start (λ k. left.leftmost begun.start k begun.choices (length bytes)
          h.pattern (first.state, path, match_in _ h.pattern first.match)) in
          let (s, run, match) = left.accepts in
          let (cs, t, plain, to_end) = passes nfa behind bytes more None left.choices [] (m.start, nfa.start_anchored)
          (m.end, s) (omega (arith, begun.below)) (omega arith) (ap tests_capture match) run in
          omega (arith, low, begun.first m.start cs t (omega (arith, begun.below)) plain to_end);
    }

-- of two texts that begin with the bytes, whose leftmost matches end before the last, that of the second does not begin
-- later
not_later : (nfa : Nfa) (behind : Option ℕ) (bytes more others : List ℕ) (m n : Match) → m.end < length bytes
    → IsLeftmostMatch nfa (between behind (bytes ++ more) None) m
    → IsLeftmostMatch nfa (between behind (bytes ++ others) None) n → n.start ≤ m.start
not_later nfa behind bytes more others m n inside left other = not_less m.start n.start (λ k.
    let (s, path, match) = left.accepts in
    let same = same_path nfa behind bytes more others None None left.choices (m.start, nfa.start_anchored) (m.end, s)
    inside path in other.leftmost m.start k left.choices m.end m.pattern (s, same, match))

-- so they begin at one position
begins_before : (nfa : Nfa) (behind : Option ℕ) (bytes : List ℕ) (m : Match) → m.end < length bytes
    → IsLeftmostMatch nfa (between behind (bytes ++ []) None) m → BeginsThere nfa behind bytes m.end
begins_before nfa behind bytes m inside left = record {
  start = m.start;
  below = omega (arith, each_run_reads_forward nfa _ m.start nfa.start_anchored left.choices _ _ left.accepts);
  is = λ more n other ends.
      let low = not_later nfa behind bytes more [] n m (omega arith) other left in
      let high = not_later nfa behind bytes [] more m n inside left other in omega arith;
}

-- the text from an index on, with more bytes
abbrev text_with : List ℕ → ℕ → List ℕ → Text
text_with xs start more = between (byte_before xs start) (drop start xs ++ more) None

-- its leftmost match, also in the haystack, which has this pattern and end
record IsMatchWith (nfa : Nfa) (xs : List ℕ) (start : ℕ) (more : List ℕ) (h : HalfMatch) : Type 0 where
  match : Match
  left : IsLeftmostMatch nfa (text_with xs start more) match
  in_haystack : IsLeftmostIn nfa (from (whole (xs ++ more)) start) (Some (moved start match))
  pattern : match.pattern ≡ h.pattern
  end : match.end ≡ h.offset

-- a search over the bytes of a haystack from an index on, of which a match is certain
module _ {nfa : Nfa} {xs : List ℕ} {start : ℕ} {s : Scanned} {h : HalfMatch} (within : start ≤ length xs)
    (bytes : All (λ b. b < 256) xs) (scan : IsEndScan nfa (byte_before xs start) (drop start xs) s)
    (certain : certain_match nfa s ≡ Some h) where
  match_with : (more : List ℕ) → All (λ b. b < 256) more → IsMatchWith nfa xs start more h
  match_with more small =
      let p = preferred nfa LeftmostFirst nfa.start_unanchored (text_with xs start more) (Some h) scan.accepted refl
      (settled_certain scan.scan h certain more None) in
      let (o, left, e) = each_preferred_is_leftmost nfa scan.prefix (text_with xs start more)
      (All-append (λ b. b < 256) (drop start xs) more (All-drop (λ b. b < 256) start xs bytes) small) (Some h) p in
      let there = of_rest nfa scan.prefix (xs ++ more) start (simp length-append (omega (arith, within))) o
      (rw (byte_before-append xs more start within, drop-append-le start xs more within) left) in
      by_option o
      (λ n. absurd (none-some h (sym (rw n at e))))
      (λ m y. let found = rw y at e in
      record { match = m; left = (rw y at left).1; in_haystack = rw y at there; pattern = cc; end = cc })

  -- without more bytes
  now : IsMatchWith nfa xs start [] h
  now = match_with [] (All-nil (λ b. b < 256))

  pub certain_is : (begin : ℕ) → begin ≤ start + h.offset → start + h.offset ≤ length xs
      → IsBeginOf nfa xs start (start + h.offset) begin
      → IsCertain nfa xs start record { pattern = h.pattern; start = begin; end = start + h.offset }
  certain_is begin order high at =
      let ends : (h.offset < length (drop start xs)) ⊎ IsFirst nfa s h = by_cases (certain_cases nfa s h certain)
      (λ c. inl (rw (← scan.scan.last, c.1, length-map) at (last_match-within nfa LeftmostFirst
      (start_value nfa nfa.start_unanchored (byte_before xs start)) (map Some (drop start xs)))))
      inr in
      let there : BeginsThere nfa (byte_before xs start) (drop start xs) now.match.end = by_cases ends
      (λ l. begins_before nfa (byte_before xs start) (drop start xs) now.match (omega (arith, now.end)) now.left)
      (λ f. rw (now.end, f.end, scan.scan.read) (first_begins scan.accepted scan.prefix
      (All-drop (λ b. b < 256) start xs bytes) scan.scan f)) in
      let here : start + now.match.start ≡ begin = at (from (whole xs) start) (moved start now.match) record {
        same = refl;
        starts = refl;
        within = omega arith;
        leftmost = rw append-nil at now.in_haystack;
        ends = ap (λ n. start + n) now.end;
      } in
      let one : now.match.start ≡ there.start = there.is [] now.match now.left refl in
      let some : begin < length xs = omega (arith, there.below, within, length-drop start xs) in
      record {
        inside = record { low = omega arith; order = order; high = high; some = some };
        leftmost = λ more small.
            let m = match_with more small in
            let at = ap (λ n. start + n) (there.is more m.match m.left (m.end ∙ sym now.end) ∙ sym one) ∙ here in
            rw (at, m.pattern, m.end) at m.in_haystack;
      }
