-- A step over a cached transition: what a lookup returns is the state that follows.
-- Main statements: stepped_at, absent-at, followed-next.
-- Used by: `step`, `compute`, `follow_bytes`, and searches of what is cached.
-- Idea: each cached transition is a step of the DFA, and the step over it changes nothing.
use Rattle.determinize_lazy.proofs.Common.{[], ap, arith, cache, Cache, Cached, Cursor, cursor_value, dead, false}
use Rattle.determinize_lazy.proofs.Common.{get_or, get_or_from_slice_get, is_cached, is_some, IsCursor, IsFollowed}
use Rattle.determinize_lazy.proofs.Common.{IsSound, IsStepped, IsTable, IsTarget, LazyValue, List, not_source, Ok}
use Rattle.determinize_lazy.proofs.Common.{Option, refl, slice_get, slice_get-get_or, Some, step_of, true, Uncached, Value, ℕ, ◌++◌, ◌+◌, ◌∙◌, ◌∷◌, ◌≡◌}
use Rattle.determinize_lazy.proofs.walking.CachedWalks.{drop-one, walks-on}
use Rattle.determinize_lazy.proofs.steps.Rule.{grows_none}

-- what a step over a cached transition leaves
pub stepped_at : {A E : Type 0} (old : LazyValue) (v : Value) (u : Option ℕ) (id : ℕ) → IsSound (cache old)
    → IsTarget (cache old).table v u (Some id) → IsStepped {A = A} {E = E} old v u (Ok (Cached id)) old
stepped_at old v u id sound target =
    let there : (cache old).table.target v u ≡ Some (get_or old.states id dead) =
    target.0 ∙ slice_get-get_or old.states id dead target.1 in
    let cached : is_cached (cache old).table v u ≡ true = ap is_some there in record {
      ready = record { cursor = target.1; known = tt };
      value = sound.table.steps v u _ there;
      after = rw cached refl;
      failed = tt;
      grows = grows_none;
    }

-- the transition from a cursor is not cached, if none is from its cached state
pub absent-at : {A : Type 0} (c : Cache) (cursor : Cursor A) (u : Option ℕ) → IsTable (step_of c) c.table
    → IsCursor c.table.states cursor
    → ((id : ℕ) → cursor ≡ Cached id → is_cached c.table (cursor_value c.table.states cursor) u ≡ false)
    → is_cached c.table (cursor_value c.table.states cursor) u ≡ false
absent-at c (Cached id) u is at none = none id refl
absent-at c (Uncached state) u is at none = ap is_some (not_source (step_of c) c.table state u is at)

-- what is followed over cached transitions is followed over one more
pub followed-next : {us : List (Option ℕ)} {c : LazyValue} {from start id read next : ℕ} {before done : List Value}
    {u : Option ℕ} {w : Value} → IsSound (cache c) → IsFollowed us c from start before id read done
    → slice_get us read ≡ Some u
    → ((v : Value) → slice_get c.states id ≡ Some v → IsTarget (cache c).table v u (Some next))
    → slice_get c.states next ≡ Some w → IsFollowed us c from start before next (read + 1) (done ++ w ∷ [])
followed-next {us} {c} {id = id} {read} {next} {u = u} {w} sound f here target at =
    let v : Value = get_or c.states id dead in
    let s : IsStepped {A = ℕ} {E = ℕ} c v u (Ok (Cached next)) c =
    stepped_at c v u next sound (target _ (slice_get-get_or c.states id dead f.inside)) in
    let w_is : get_or c.states next dead ≡ w = get_or_from_slice_get c.states next w dead at in record {
      inside = s.ready.cursor;
      further = omega (arith, f.further);
      walking = λ old first walk. rw w_is (walks-on (rw (drop-one us read u here) at f.walking old first walk)
          (rw (← w_is) s.value) s.after grows_none);
    }
