-- How far a search has come, and what it finds and leaves.
use Rattle.std.specs.Prelude.{◌≡◌, ℕ, ◌+◌, ◌≤◌, ◌⊎◌, ◌&&◌, Bool, true, false, Option, Some, None, List, ◌∷◌, []}
use Rattle.std.specs.Prelude.{cond, drop, length, map, slice_get, IfOk, Ok, OnErr, Result}
use Rattle.std.specs.Option.{option_or}
use Rattle.determinize_below.specs.Semantics.{Text}
use Rattle.determinize_below.specs.declared.search.HalfMatch.{HalfMatch}
use Rattle.determinize_core.specs.Chain.{future, units, value_after}
use Rattle.determinize_core.specs.LastMatch.{last_match}
use Rattle.determinize_core.specs.Step.{start_value}
use Rattle.determinize_core.specs.Value.{Value}
use Rattle.determinize_lazy.specs.Cache.{Cache, Grows, IsCutOff, LazyValue, after_step}
use Rattle.determinize_lazy.specs.Cache.{cache, step_of}
use Rattle.determinize_lazy.specs.Private.Steps.{IsCacheAfter, IsReady}
use Rattle.determinize_engine.specs.Scans.{Scanned}
use Rattle.determinize_engine.specs.UnitsRead.{is_last, units_read}
use Rattle.determinize_table.specs.Cursors.{cursor_value}
use Rattle.determinize_table.specs.Tags.{match_of, match_reported, tag_of}
use Rattle.determinize_lazy.specs.declared.search.Position.{Position}
use Rattle.determinize_lazy.specs.declared.cached.CachedPosition.{CachedPosition}
use Rattle.determinize_lazy.specs.declared.cached.Reached.{Reached}
use Rattle.determinize_lazy.specs.declared.cached.Reached.TheVariants.{End, Short}
use Rattle.determinize_table.specs.declared.table.Cursor.{Cursor}
use Rattle.determinize_table.specs.declared.table.Cursor.TheVariants.{Cached}
use Rattle.determinize_table.specs.declared.tag.TheConstants.LastMatch.{NONE}

-- the match that a value reports which is entered after n units
abbrev pub reported : ℕ → Value → Option HalfMatch
reported read v = match_reported read (tag_of v).pattern

-- where a search is: how many units it has read, the value there, the last match of the values so
-- far, and the cache
pub record Place : Type 0 where
  pub read : ℕ
  pub value : Value
  pub last : Option HalfMatch
  pub cache : Cache

-- the place of a position
abbrev pub place : {A : Type 0} → LazyValue → Position A → Place
place c at = record {
  read = at.read;
  value = cursor_value c.states at.cursor;
  last = option_or (reported at.read (cursor_value c.states at.cursor)) (match_of at.last);
  cache = cache c;
}

-- a position at a cached state, with a cursor in place of the id
abbrev pub with_cursor : {A : Type 0} → CachedPosition → Position A
with_cursor at = record { cursor = Cached at.id; read = at.read; last = at.last }

-- its place
abbrev pub cached_place : LazyValue → CachedPosition → Place
cached_place c at = place {A = Unit {0}} c (with_cursor at)

-- the place where a search begins
abbrev pub first_place : Cache → Value → Place
first_place c v = record { read = 0; value = v; last = None; cache = c }

-- a step may be taken from the cursor of a position, and before the first unit there is no match
pub record IsPosition {A : Type 0} (c : LazyValue) (at : Position A) : Type 0 where
  pub ready : IsReady c at.cursor
  pub unmatched : at.read ≡ 0 → match_of at.last ≡ None

-- the same of a position at a cached state
abbrev pub IsCachedPosition : LazyValue → CachedPosition → Type 0
IsCachedPosition c at = IsPosition {A = Unit {0}} c (with_cursor at)

-- the position before the first unit
abbrev pub first_position : {A : Type 0} → Cursor A → Position A
first_position cursor = record { cursor = cursor; read = 0; last = NONE }

-- the place after one more unit
abbrev pub next_place : Place → Option ℕ → Place
next_place p u = record {
  read = p.read + 1;
  value = step_of p.cache p.value u;
  last = option_or (reported (p.read + 1) (step_of p.cache p.value u)) p.last;
  cache = after_step p.cache p.value u;
}

-- a step over a unit from a place to a position
pub record IsNext {A : Type 0} (p : Place) (u : Option ℕ) (c : LazyValue) (at : Position A) : Type 0
  where
    pub position : IsPosition c at
    pub place : place c at ≡ next_place p u
    pub grows : Grows p.cache (cache c)

-- the place at which a search over units ends
abbrev pub ends_at : Bool → Place → List (Option ℕ) → Place
ends_at earliest p [] = p
ends_at earliest p (u ∷ us) =
    cond (is_last earliest p.value) p (ends_at earliest (next_place p u) us)

-- what a search over units leaves if it fails: what a walk over the units that it reads leaves
abbrev pub IsCutOffAt : Bool → Place → List (Option ℕ) → Cache → Type 0
IsCutOffAt earliest p us new =
    IsCutOff p.cache p.value (units_read (step_of p.cache) earliest p.value us) new

-- a search over units has come from one place to another: it ends as a search of the rest does
-- from there, and what that leaves if it fails is what this one leaves
pub record HasCome (earliest : Bool) (us : List (Option ℕ)) (p q : Place) : Type 0 where
  pub ends : ends_at earliest q (drop q.read us) ≡ ends_at earliest p (drop p.read us)
  pub failed : (new : Cache) → IsCutOffAt earliest q (drop q.read us) new
      → IsCutOffAt earliest p (drop p.read us) new
  pub grows : Grows p.cache q.cache

-- what a search over units from a place leaves
abbrev pub IsLeftBy : {T E : Type 0} → Bool → List (Option ℕ) → Place → Result T E → Cache → Type 0
IsLeftBy earliest us p result new = IsCacheAfter p.cache p.value
    (units_read (step_of p.cache) earliest p.value us) result new

-- what it returns and leaves: the last match of what it reads, and the cache
pub record IsOver {E : Type 0} (earliest : Bool) (us : List (Option ℕ)) (p : Place)
    (result : Result (Option HalfMatch) E) (new : Cache) : Type 0 where
  pub last : IfOk result (λ found. found ≡ (ends_at earliest p us).last)
  pub left : IsLeftBy earliest us p result new

-- the same, if it returns the position at which it ends
pub record EndsAt {A E : Type 0} (earliest : Bool) (us : List (Option ℕ)) (p : Place)
    (result : Result (Position A) E) (new : LazyValue) : Type 0 where
  pub position : IfOk result (λ at. IsPosition new at)
  pub place : IfOk result (λ at. place new at ≡ ends_at earliest p us)
  pub failed : OnErr result (IsCutOffAt earliest p us (cache new))
  pub grows : Grows p.cache (cache new)

-- what such a search finds and leaves from an NFA state over a text
abbrev pub IsOverText : {E : Type 0} → Bool → Cache → ℕ → Text → Result (Option HalfMatch) E
    → Cache → Type 0
IsOverText earliest old start text result new = IsOver earliest (units text)
    (first_place old (start_value old.nfa start text.behind)) result new

-- a search from an NFA state over a text that only reads the cache has come to a position, or to
-- none
abbrev pub IsShort : Bool → LazyValue → ℕ → Text → Option CachedPosition → Type 0
IsShort earliest c start text None = Unit {0}
IsShort earliest c start text (Some at) =
    IsCachedPosition c at × (at.read ≤ length text.bytes)
    × HasCome earliest (units text) (first_place (cache c) (start_value c.nfa start text.behind))
    (cached_place c at)

-- and how far it comes, if it may come to its end, too
abbrev pub IsReached : Bool → LazyValue → ℕ → Text → Reached → Type 0
IsReached earliest c start text (End found) =
    IsOverText {E = Unit {0}} earliest (cache c) start text (Ok found) (cache c)
IsReached earliest c start text (Short reached) = IsShort earliest c start text reached

-- units that begin with the bytes of a text
abbrev pub Begins : Text → List (Option ℕ) → Type 0
Begins text us = (i b : ℕ) → slice_get (map Some text.bytes) i ≡ Some (Some b)
    → slice_get us i ≡ Some (Some b)

-- each search at the place whose units begin with them fails there and leaves this, also one that
-- does not end at a match
abbrev pub Fails : Bool → Text → Place → Cache → Type 0
Fails earliest text p new = (e : Bool) (us : List (Option ℕ)) → Begins text us
    → IsCutOffAt (e && earliest) p (drop p.read us) new

-- each search at the place whose units begin with the bytes of the text comes to this position,
-- which is not before the place, and within the text, also one that does not end at a match
pub record GoesTo {A : Type 0} (earliest : Bool) (text : Text) (p : Place) (c : LazyValue)
    (at : Position A) : Type 0 where
  pub position : IsPosition c at
  pub forward : p.read ≤ at.read
  pub within : at.read ≤ length text.bytes
  pub come : (e : Bool) (us : List (Option ℕ)) → Begins text us
      → HasCome (e && earliest) us p (place c at)
  pub grows : Grows p.cache (cache c)

-- the same at a cached state
abbrev pub GoesToCached : Bool → Text → Place → LazyValue → CachedPosition → Type 0
GoesToCached earliest text p c at = GoesTo {A = Unit {0}} earliest text p c (with_cursor at)

-- a search that reads no more of n units: it has read them all, or it ends at the value
abbrev pub HasStopped : Bool → ℕ → Place → Type 0
HasStopped earliest n p = (n ≤ p.read) ⊎ (is_last earliest p.value ≡ true)

-- the search of a piece from a value: the value after what a search reads of it, its last match,
-- and its length
pub record IsPieceRead (old : Cache) (first : Value) (piece : List ℕ) (s : Scanned) : Type 0 where
  pub state : s.state ≡ value_after old.nfa old.kind first
      (units_read (step_of old) false first (map Some piece))
  pub last : s.last ≡ last_match (future old.nfa old.kind first (map Some piece))
  pub read : s.read ≡ length piece
