-- If there is room for all states of a walk, each of its transitions is cached and computed once.
-- Main statements: has_read, read_err, read_none, searched-in.
-- Used by: the walks and the searches.
-- Idea: each step adds its transition and leaves room for the others; then the same walk finds each transition.
use Rattle.determinize_lazy.proofs.Common.{[], after_step, after_walk, ap, AreClassesOf, arith, Asked, Bool, by_test}
use Rattle.determinize_lazy.proofs.Common.{cache, Cache, classes_from, cond, count_after, false, fits, future}
use Rattle.determinize_lazy.proofs.Common.{future_is, Grows, has_new, HasRead, HasRoom, HasSearched, HasSearchedIn}
use Rattle.determinize_lazy.proofs.Common.{IfOk-from_err, IfSome, is_cached, is_done, IsAccepted, IsCacheAfter}
use Rattle.determinize_lazy.proofs.Common.{IsCutOff, IsErr, IsSound, IsTable, KeepsAll, LazyValue, length, length_with}
use Rattle.determinize_lazy.proofs.Common.{List, list_any, list_any-from_Contains, missing, not_source, on_ok_weaker}
use Rattle.determinize_lazy.proofs.Common.{Option, refl, Result, same, same_laws, shared_by, start_for, start_value}
use Rattle.determinize_lazy.proofs.Common.{step_of, sym, Table, tail, Text, text_of, true, true≢false, units, Value}
use Rattle.determinize_lazy.proofs.Common.{with_step, with_target-new, with_transition-is, with_value, with_values, with_walk, ℕ, ◌+◌, ◌∙◌, ◌∷◌, ◌≡◌, ◌≤◌}
use Rattle.determinize_lazy.proofs.steps.Rule.{grows_none, of_err}
use Rattle.determinize_lazy.proofs.walking.CachedWalks.{cut_off-none, same_steps}
use Rattle.determinize_lazy.proofs.steps.Sharing.{shared_steps, shares-self}

module _ (f : Value → Option ℕ → Value) (shared : Value → Option ℕ → Option ℕ → Bool)
    (self : (v : Value) (u : Option ℕ) → shared v u u ≡ true) where
  -- the transition of a step is cached then, and what was cached still is
  step-cached : (t : Table) (v : Value) (u : Option ℕ) → is_cached (with_step f shared t v u) v u ≡ true
  step-cached t v u = grind (arith, with_target-new (shared v u) t.target v (f v u) u (self v u))

  step-keeps : (t : Table) (v : Value) (u : Option ℕ) (x : Value) (y : Option ℕ) → is_cached t x y ≡ true
      → is_cached (with_step f shared t v u) x y ≡ true
  step-keeps t v u x y h = grind arith

  walk-keeps : (us : List (Option ℕ)) (t : Table) (v x : Value) (y : Option ℕ) → is_cached t x y ≡ true
      → is_cached (with_walk f shared t v us) x y ≡ true
  walk-keeps [] t v x y h = h
  walk-keeps (u ∷ us) t v x y h =
      walk-keeps us (with_step f shared t v u) (f v u) x y (step-keeps t v u x y h)

-- a walk changes nothing if all transitions are cached that it adds to some table
unchanged : (c : Cache) (us : List (Option ℕ)) (t : Table) (v : Value)
    → ((x : Value) (y : Option ℕ) → is_cached (with_walk (step_of c) (shared_by c) t v us) x y ≡ true
    → is_cached c.table x y ≡ true)
    → after_walk c v us ≡ c
unchanged c [] t v h = refl
unchanged c (u ∷ us) t v h =
    let f : Value → Option ℕ → Value = step_of c in
    let shared : Value → Option ℕ → Option ℕ → Bool = shared_by c in
    let self : (x : Value) (y : Option ℕ) → shared x y y ≡ true =
    λ x y. shares-self (classes_from c.nfa x c.classes) y in
    let here = h v u (walk-keeps f shared self us (with_step f shared t v u) (f v u) v u
    (step-cached f shared self t v u)) in
    rw here (unchanged c us (with_step f shared t v u) (f v u) h)

-- with a walk there are no fewer values
longer_after : (vs values : List Value) → length values ≤ length (with_values values vs)
longer_after [] values = omega arith
longer_after (v ∷ vs) values =
    omega (arith, length_with values v, longer_after vs (with_value values v))

-- a value that is there changes nothing
twice : (values : List Value) (v : Value) (vs : List Value)
    → with_values values (v ∷ vs) ≡ with_values (with_value values v) (v ∷ vs)
twice values v vs = rw (list_any-from_Contains same_laws v (with_value values v) (has_new values v)) refl

-- a step for which there is room adds its transition, unless it is cached, and leaves room for the steps after it
record HasStep (c : Cache) (v : Value) (u : Option ℕ) (us : List (Option ℕ)) : Type 0 where
  table : (after_step c v u).table ≡ with_step (step_of c) (shared_by c) c.table v u
  is : IsTable (step_of c) (after_step c v u).table
  room : HasRoom (after_step c v u) (step_of c v u) us

has_step : (c : Cache) (v : Value) (u : Option ℕ) (us : List (Option ℕ)) → IsAccepted c.nfa
    → IfSome c.classes (λ p. AreClassesOf c.nfa p) → IsTable (step_of c) c.table → HasRoom c v (u ∷ us)
    → HasStep c v u us
has_step c v u us accepted are is room =
    let next : Value = step_of c v u in
    let with_source : List Value = with_value c.table.states v in
    let listed = future_is c.nfa c.kind next us in
    let r : length (with_values with_source (future c.nfa c.kind next us)) ≤ c.limit = room in
    by_test (is_cached c.table v u)
    (λ e. let source : list_any (same v) c.table.states ≡ true =
    grind (arith, e, not_source (step_of c) c.table v u is) in
    record { table = rw e refl; is = rw e is; room = rw e (rw source at r) })
    (λ e. let fit : fits c.limit c.table v next ≡ true =
    grind (arith, longer_after (tail c.nfa c.kind next us) (with_value with_source next), rw listed at r) in
    record {
      table = rw (e, fit) refl;
      is = rw (e, fit) (with_transition-is (step_of c) (shared_by c v u) c.table v next u (shares-self _ u) is
          (λ y in_it. sym (shared_steps accepted c.classes are c.kind v u y in_it)));
      room = rw (e, fit, listed) (rw (twice with_source next _) at (rw listed at r));
    })

-- with room for all of its states, a walk adds each of its transitions, and counts each that was missing once
keeps : (us : List (Option ℕ)) (c : Cache) (v : Value) → IsAccepted c.nfa
    → IfSome c.classes (λ p. AreClassesOf c.nfa p) → IsTable (step_of c) c.table
    → c.computed ≤ 18446744073709551615 → HasRoom c v us
    → ((after_walk c v us).table ≡ with_walk (step_of c) (shared_by c) c.table v us)
    × ((after_walk c v us).computed ≡ count_after c.computed (missing (step_of c) (shared_by c) c.table v us))
keeps [] c v accepted are is small room = (refl, grind (arith, small))
keeps (u ∷ us) c v accepted are is small room =
    let s = has_step c v u us accepted are is room in
    let (fits, more) = count (is_cached c.table v u) c.computed small in
    let (table, once) = keeps us (after_step c v u) (step_of c v u) accepted are s.is fits s.room in
    (rw (← s.table) table, once ∙ rw s.table (more _))
  where
    count : (b : Bool) (n : ℕ) → n ≤ 18446744073709551615 → let m = cond b n (count_after n 1) in
        (m ≤ 18446744073709551615) × ((k : ℕ) → count_after m k ≡ count_after n (cond b 0 1 + k))
    count b n small = (grind arith, λ k. grind arith)

-- with room for all of its states, a walk caches all its transitions
keeps_all : {old new : Cache} {v : Value} {us : List (Option ℕ)} → IsSound old → new ≡ after_walk old v us
    → HasRoom old v us → KeepsAll old v us new
keeps_all {old} {new} {v} {us} sound is room =
    let (table, once) = keeps us old v sound.accepted sound.classes sound.table sound.small room in
    rw is record {
      table = table;
      once = once;
      again = unchanged (after_walk old v us) us old.table v
          (λ x y h. rw table (rw ((same_steps us old v).0, (same_steps us old v).1) at h));
    }

-- what a call leaves that reads units
module _ {T E : Type 0} {old new : LazyValue} {v : Value} {us : List (Option ℕ)} {r : Result T E} where
  pub has_read : IsSound (cache old) → IsCacheAfter (cache old) v us r (cache new) → HasRead old v us r new
  has_read sound left = record {
    after = left.after;
    plenty = on_ok_weaker r (λ is. keeps_all sound is) left.after;
    failed = left.failed;
    grows = left.grows;
  }

  -- that fails, also before its first step
  module _ (e : IsErr r) where
    pub read_err : IsCutOff (cache old) v us (cache new) → Grows (cache old) (cache new) → HasRead old v us r new
    read_err cut grows =
        record { after = IfOk-from_err r _ e; plenty = IfOk-from_err r _ e; failed = of_err r cut; grows = grows }

    pub read_none : new ≡ old → HasRead old v us r new
    read_none is = read_err (cut_off-none (ap cache is)) (rw is grows_none)

-- and one that searches an input
pub searched-in : {T E : Type 0} {earliest : Bool} {old new : LazyValue} {asked : Asked} {r : Result T E}
    → is_done asked ≡ false → let text : Text = text_of old.nfa.reverse asked in
    HasSearched earliest old (start_value old.nfa (start_for old.nfa asked.anchored) text.behind) (units text) r new
    → HasSearchedIn earliest old asked r new
searched-in more read =
    record { unchanged = λ done. absurd (true≢false (sym done ∙ more)); read = λ _. read; grows = read.grows }
