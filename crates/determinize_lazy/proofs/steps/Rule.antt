-- What the rule keeps, and what is true of a cache after it; and general laws.
-- Main statements: lazy-kept, stepped, empty_is_lazy, lazy-sound.
-- Used by: `compute`, `step`, `with_spans`, `reset`, `next`; the general laws by searches and `determinize_find`, too.
-- Idea: a step leaves the table that the rule keeps or, if it fails, the one before or none.
use Rattle.determinize_lazy.proofs.Common.{All-get_or, All-nil, All-push, ap, AreClassesOf, arith, Bool, by_cases}
use Rattle.determinize_lazy.proofs.Common.{by_test, cache, Cache, Cached, Classes, classes_from, count_after, Cursor}
use Rattle.determinize_lazy.proofs.Common.{cursor_value, dead, Each, empty, empty-is, Err, false, fits, Grows}
use Rattle.determinize_lazy.proofs.Common.{IfOk-weaker, IfSome, inr, is_cached, IsAccepted, IsAt, IsEmpty, IsKept}
use Rattle.determinize_lazy.proofs.Common.{IsKnown, IsLazy, IsReady, IsSound, IsStateOf, IsStepped, IsTable, keep, LazyValue, length, List, list_any, MatchKind, Nfa, not_none, Ok}
use Rattle.determinize_lazy.proofs.Common.{on_err_weaker, on_ok_weaker, OnErr, Option, refl, Result, same, shared_by}
use Rattle.determinize_lazy.proofs.Common.{shares, slot_number, step, step_of, StoredTable, sym, Table, table_of}
use Rattle.determinize_lazy.proofs.Common.{Uncached, Value, viewed, with_transition, with_transition-is, with_value, ℕ, ◌∙◌, ◌≡◌, ◌≤◌}
use Rattle.determinize_lazy.proofs.steps.Sharing.{shared_steps, shares-self}
use Rattle.determinize_lazy.proofs.steps.FewStates.{known-step}
use Rattle.determinize_lazy.proofs.steps.Starts.{starts-stay}

-- what is so of no table, and of one with one more transition, is so of the one that the rule keeps
kept-by : (P : Table → Type 0) (over : Option ℕ → Bool) (limit : ℕ) (t : Table) (v w : Value) → P t → P empty
    → ((t : Table) → P t → P (with_transition over t v w)) → P (keep over limit t v w)
kept-by P over limit t v w here none more = by_test (fits limit t v w) (λ e. rw e (more t here))
    (λ e. rw e (by_test (fits limit empty v w) (λ k. rw k (more empty none)) (λ k. rw k none)))

All-with_value : (P : Value → Type 0) (values : List Value) (v : Value) → Each P values → P v
    → Each P (with_value values v)
All-with_value P values v each one =
    by_test (list_any (same v) values) (λ e. rw e each) (λ e. rw e (All-push P values v each one))

-- after a transition was computed
pub lazy-kept : {A E : Type 0} {nfa : Nfa} {kind : MatchKind} {limit count counted : ℕ}
    {classes : Option Classes} {t t' : StoredTable} {w : Value} {r : Result (Cursor A) E} (v : Value) (u : Option ℕ)
    → IsLazy nfa kind limit count classes t → w ≡ step nfa kind v u
    → IsStateOf nfa v → counted ≤ 18446744073709551615
    → IsKept t (keep (shares (classes_from nfa v classes) u) limit (table_of t) v w) w r t'
    → IsLazy nfa kind limit counted classes t'
lazy-kept {A} {E} {nfa} {kind} {limit} {classes = classes} {t = t} {t' = t'} {w} {r} v u is w_is source small kept =
    let f : Value → Option ℕ → Value = step nfa kind in
    let next : IsStateOf nfa w = rw w_is (known-step nfa is.sound.accepted kind v u source) in
    let over : Option ℕ → Bool = shares (classes_from nfa v classes) u in
    let steps : IsTable f (keep over limit (table_of t) v w) =
    kept-by (IsTable f) over limit (table_of t) v w is.sound.table (empty-is f) (λ x steps.
    with_transition-is f over x v w u (shares-self _ u) steps
    (λ y in_it. w_is ∙ sym (shared_steps is.sound.accepted classes is.sound.classes kind v u y in_it))) in record {
      sound = record {
        accepted = is.sound.accepted;
        table = by r (IsTable f) kept steps is.sound.table (empty-is f);
        small = small;
        classes = is.sound.classes;
      };
      within = by r (λ (x : Table). length x.states ≤ limit) kept (grind arith) is.within (omega arith);
      known = by r (λ (x : Table). Each (IsStateOf nfa) x.states) kept
          (kept-by (λ (x : Table). Each (IsStateOf nfa) x.states) over limit (table_of t) v w is.known
          (All-nil (IsStateOf nfa)) (λ x each. All-with_value (IsStateOf nfa) (with_value x.states v) w
          (All-with_value (IsStateOf nfa) x.states v each source) next)) is.known (All-nil (IsStateOf nfa));
      starts = starts-stay nfa t t' is.starts kept.starts;
    }
  where
    kept_table : Table
    kept_table = keep (shares (classes_from nfa v classes) u) limit (table_of t) v w

    by : (r : Result (Cursor A) E) (P : Table → Type 0) → IsKept t kept_table w r t' → P kept_table → P (table_of t)
        → P empty → P (table_of t')
    by (Ok x) P kept new old none = rw kept.table new
    by (Err x) P kept new old none = by_cases kept.failed (λ e. rw e none) (λ e. rw e old)

known-next : {A : Type 0} {nfa : Nfa} {states : List Value} {v : Value} (next : Cursor A) → IsAt states next v
    → IsStateOf nfa v → IsKnown nfa next
known-next (Cached id) at known = tt
known-next (Uncached state) at known = rw at.value known

-- what is left by a step that is not cached
pub stepped : {A E : Type 0} (old : LazyValue) {t t' : StoredTable} {v : Value} (u : Option ℕ) {r : Result (Cursor A) E}
    → IsAccepted old.nfa → IsStateOf old.nfa v → old.computed ≤ 18446744073709551615
    → is_cached (cache old).table v u ≡ false
    → table_of t ≡ (cache old).table
    → IsKept t (keep (shared_by (cache old) v u) old.limit (cache old).table v (step_of (cache old) v u))
    (step_of (cache old) v u) r t'
    → IsStepped old v u r (record old { states = t'.states; rows = t'.rows; computed = count_after old.computed 1 })
stepped old {v = v} u {r} accepted known small absent table_is kept = record {
  ready = IfOk-weaker r _ _ (λ next at. record {
    cursor = at.cursor_is;
    known = known-next next at (known-step old.nfa accepted old.kind v u known);
  }) kept.at;
  value = IfOk-weaker r _ _ (λ next at. at.value) kept.at;
  after = on_ok_weaker r (λ e. rw (absent, ← e) refl) kept.table;
  failed = on_err_weaker r (λ e. record { table = rw table_is at e; counted = inr (rw absent refl) }) kept.failed;
  grows = record { nfa = refl; kind = refl; limit = refl; classes = refl; computed = grind (arith, small) };
}

-- a cache in which nothing is kept
pub empty_is_lazy : (nfa : Nfa) (kind : MatchKind) (limit computed : ℕ) (classes : Option Classes)
    (stored : StoredTable)
    → IsAccepted nfa → computed ≤ 18446744073709551615 → IfSome classes (λ p. AreClassesOf nfa p) → IsEmpty stored
    → IsLazy nfa kind limit computed classes stored
empty_is_lazy nfa kind limit computed classes stored accepted small are is = record {
  sound = record {
    accepted = accepted;
    table = rw is.table (empty-is (step nfa kind));
    small = small;
    classes = are;
  };
  within = omega (arith, ap (λ (t : Table). length t.states) is.table);
  known = let none = ap (λ (t : Table). t.states) is.table in rw none (All-nil _);
  starts = λ s p slot id of kept. not_none (sym kept ∙ is.starts (slot_number slot));
}

module _ {nfa : Nfa} {kind : MatchKind} {limit count : ℕ} {classes : Option Classes} {t : StoredTable} {x : LazyValue}
    (is : IsLazy nfa kind limit count classes t) (view_is : viewed nfa kind limit count classes t ≡ x) where
  -- what is true of a `Lazy` is true of its cache
  pub lazy-sound : IsSound (cache x)
  lazy-sound = rw (← view_is) is.sound

  -- and a step may be taken from the value of a cursor
  pub lazy-known : {A : Type 0} (at : Cursor A) → IsReady x at → IsStateOf nfa (cursor_value t.states at)
  lazy-known at ready = known at (rw (← view_is) at ready)
    where
      known : {A : Type 0} (at : Cursor A) → IsReady (viewed nfa kind limit count classes t) at
          → IsStateOf nfa (cursor_value t.states at)
      known (Cached id) ready = All-get_or (IsStateOf nfa) _ id dead ready.cursor is.known
      known (Uncached state) ready = ready.known

-- a cache as it is, and one that changes twice
pub grows_none : {c : Cache} → Grows c c
grows_none = record { nfa = refl; kind = refl; limit = refl; classes = refl; computed = omega arith }

pub grows-more : {old now new : Cache} → Grows old now → Grows now new → Grows old new
grows-more g h = record {
  nfa = h.nfa ∙ g.nfa;
  kind = h.kind ∙ g.kind;
  limit = h.limit ∙ g.limit;
  classes = h.classes ∙ g.classes;
  computed = omega (arith, g.computed, h.computed);
}

-- what holds in any case holds of an error
pub of_err : {T E : Type 0} (r : Result T E) {P : Type 0} → P → OnErr r P
of_err (Ok x) p = tt
of_err (Err x) p = p
