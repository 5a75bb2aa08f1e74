-- The patterns that the values of a walk list, and what a search for the next of them passes over.
-- Main statements: listed-over, listed-come, listed-matches, matches-listed.
-- Used by: Marks.
-- Idea: a search for the earliest match passes only values that list nothing, and the value at index i + 1 lists what
-- matches at position i.
use Rattle.determinize_lazy.proofs.Common.{[], Accepts, after_at, All, ap, append-nil, arith, by_cases, by_test, chain}
use Rattle.determinize_lazy.proofs.Common.{Contains, Contains-append_cases, Contains-append_left, Contains-append_right}
use Rattle.determinize_lazy.proofs.Common.{dead, dead_stays, drop, drop-drop, ends_at, false, future, future_is, get_or}
use Rattle.determinize_lazy.proofs.Common.{HalfMatch, HasCome, IfSome, is-search, is_last, IsAccepted, IsFarthestMatch}
use Rattle.determinize_lazy.proofs.Common.{last_match, LeftmostFirst, length, length-tail, List, listed, listed_from}
use Rattle.determinize_lazy.proofs.Common.{listed_over, MatchKind, next_place, Nfa, None, not_none, of_some, Option}
use Rattle.determinize_lazy.proofs.Common.{Place, refl, slice_get, slice_get-get_or, Some, start_value, step, step_over}
use Rattle.determinize_lazy.proofs.Common.{suc, sym, Text, true, units, Value, zero, ℕ, ◌++◌, ◌<◌, ◌∙◌, ◌∷◌, ◌≡◌, ◌≤◌}
use Rattle.std.proofs.lemmas.List.FromFn.{length-map-range_with_len}
use Rattle.determinize_core.proofs.walk.WalkOfRuns.{leftmost_walk, walk_of_all}

-- a value at which a search for the earliest match continues lists nothing
lists_none : (v : Value) → is_last true v ≡ false → v.patterns ≡ []
lists_none v more = grind (arith, more)

module _ (nfa : Nfa) (kind : MatchKind) where
  dead_lists : (us : List (Option ℕ)) → listed nfa kind dead us ≡ []
  dead_lists [] = refl
  dead_lists (u ∷ us) = rw (dead_stays nfa kind u).0 (dead_lists us)

  -- nothing is listed after a value that records no NFA states
  pub listed-over : (v : Value) (us : List (Option ℕ)) → v.states ≡ [] → listed nfa kind v us ≡ v.patterns
  listed-over v [] none = refl
  listed-over v (u ∷ us) none = rw (step_over nfa kind v u none, dead_lists us, append-nil) refl

  -- what the value at an index lists
  listed-at : (us : List (Option ℕ)) (v : Value) (k : ℕ) (w : Value) (x : ℕ)
      → slice_get (future nfa kind v us) k ≡ Some w → Contains w.patterns x → Contains (listed nfa kind v us) x
  listed-at [] v zero w x at c = rw (of_some at) c
  listed-at [] v (suc k) w x at c = not_none (sym at)
  listed-at (u ∷ us) v zero w x at c = Contains-append_left v.patterns _ x (rw (of_some at) c)
  listed-at (u ∷ us) v (suc k) w x at c =
      Contains-append_right v.patterns _ x (listed-at us (step nfa kind v u) k w x at c)

  at-listed : (us : List (Option ℕ)) (v : Value) (x : ℕ) → Contains (listed nfa kind v us) x
      → (k : ℕ) × (w : Value) × (slice_get (future nfa kind v us) k ≡ Some w) × Contains w.patterns x
  at-listed [] v x c = (0, v, refl, c)
  at-listed (u ∷ us) v x c = by_cases (Contains-append_cases v.patterns _ x c) (λ c. (0, v, refl, c))
      (λ later. let (k, w, at, c) = at-listed us (step nfa kind v u) x later in (suc k, w, at, c))

-- a search for the earliest match passes only values that list nothing
stop : (us rest : List (Option ℕ)) (p : Place) → rest ≡ drop p.read us
    → listed p.cache.nfa p.cache.kind p.value rest ≡ listed_from us (ends_at true p rest)
stop us [] p is = rw (← is) refl
stop us (u ∷ rest) p is = by_test (is_last true p.value) (λ over. rw (over, ← is) refl)
    (λ more. rw more (
    ap (λ ps. ps ++ listed p.cache.nfa p.cache.kind (step p.cache.nfa p.cache.kind p.value u) rest)
    (lists_none p.value more)
    ∙ stop us rest (next_place p u) (ap (drop 1) is ∙ drop-drop 1 p.read us)))

pub listed-come : {us : List (Option ℕ)} {p q : Place} → HasCome true us p q → listed_from us p ≡ listed_from us q
listed-come {us} {p} {q} h = stop us (drop p.read us) p refl ∙ ap (listed_from us) (sym h.ends)
    ∙ sym (stop us (drop q.read us) q refl)

module _ (nfa : Nfa) (accepted : IsAccepted nfa) (start : ℕ) (text : Text) where
  -- what is listed matches
  pub listed-matches : (kind : MatchKind) (x : ℕ)
      → Contains (listed_over nfa kind start text) x
      → (cs : List ℕ) × (i : ℕ) × Accepts nfa text start cs i x
  unfolding chain
  listed-matches kind x c = of kind (at-listed nfa kind (units text) (start_value nfa start text.behind) x c)
    where
      of : (kind : MatchKind) → (k : ℕ) × (w : Value)
          × (slice_get (future nfa kind (start_value nfa start text.behind) (units text)) k ≡ Some w)
          × Contains w.patterns x → (cs : List ℕ) × (i : ℕ) × Accepts nfa text start cs i x
      of kind (zero, w, at, c) =
          let first : start_value nfa start text.behind ≡ w = of_some at in
          absurd (omega (arith, (rw (← first) at c).1))
      of All (suc i, w, at, c) =
          let (cs, run) = (((walk_of_all nfa accepted start text).matches i w at).accepted x).0 c in (cs, i, run)
      of LeftmostFirst (suc i, w, at, c) =
          let (cs, run) = (leftmost_walk nfa accepted start text).matches i w at x c in (cs, i, run)

  -- a run accepts within the text
  accepts-within : (cs : List ℕ) (i x : ℕ) → Accepts nfa text start cs i x → i ≤ length text.bytes
  accepts-within cs i x run =
      let s = is-search nfa All start text (last_match (chain nfa All start text)) accepted refl in
      of (last_match (chain nfa All start text)) (s.farthest refl) s.within
    where
      of : (found : Option HalfMatch) → IsFarthestMatch nfa start text found
          → IfSome found (λ m. m.offset ≤ length text.bytes) → i ≤ length text.bytes
      of None none within = absurd (none cs i x run)
      of (Some m) last within = omega (arith, last.1 cs i x run, within)

  -- and under `All` each match is listed
  pub matches-listed : (x : ℕ) → (cs : List ℕ) × (i : ℕ) × Accepts nfa text start cs i x
      → Contains (listed_over nfa All start text) x
  unfolding chain
  matches-listed x (cs, i, run) =
      let first : Value = start_value nfa start text.behind in
      let values : List Value = future nfa All first (units text) in
      let within : suc i < length values = omega (
        arith,
        ap length (future_is nfa All first (units text)),
        length-tail nfa All first (units text),
        accepts-within cs i x run,
        length-map-range_with_len (after_at text) 0 (suc (length text.bytes)),
      ) in
      let at : slice_get values (suc i) ≡ Some (get_or values (suc i) dead)
      = slice_get-get_or values (suc i) dead within in
      listed-at nfa All (units text) first (suc i) (get_or values (suc i) dead) x at
      ((((walk_of_all nfa accepted start text).matches i (get_or values (suc i) dead) at).accepted x).1 (cs, run))
