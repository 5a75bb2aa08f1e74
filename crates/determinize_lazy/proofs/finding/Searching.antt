-- A search, one unit more at a time, and what it finds and leaves.
-- Main statements: come-next, over-at, next-cached, last-is, search-is.
-- Used by: the functions of `cached.rt`, `search.rt` and `scan.rt`.
-- Idea: where a search ends depends only on the place where it is and on the units that are left; and the place where
-- it ends has the last match and the cache of the walk over the units that it reads.
use Rattle.determinize_lazy.proofs.Common.{[], after_walk, ap, arith, Asked, Bool, by_test, Cache, cache, Cached}
use Rattle.determinize_lazy.proofs.Common.{cached_place, CachedPosition, chain, cursor_value, dead, Decides, drop}
use Rattle.determinize_lazy.proofs.Common.{drop_all, ended_at, ends_at, EndsAt, false, first_place, future, GoesTo}
use Rattle.determinize_lazy.proofs.Common.{Grows, HalfMatch, HasCome, HasMatch, HasStopped, inl, inr, is-search}
use Rattle.determinize_lazy.proofs.Common.{is_last, is_last_tag, is_nonempty, is_some, IsAccepted, IsCachedPosition}
use Rattle.determinize_lazy.proofs.Common.{IsCutOffAt, IsFailedStep, IsLeftBy, IsNext, IsOver, IsOverText, IsSearch}
use Rattle.determinize_lazy.proofs.Common.{IsSound, IsStepped, IsTarget, last_from, last_from-first, last_from-next}
use Rattle.determinize_lazy.proofs.Common.{last_from-over, last_match, LazyValue, length, length-map, List, map}
use Rattle.determinize_lazy.proofs.Common.{match-decides, match_of, match_reported, next_place, None, none_left, Ok}
use Rattle.determinize_lazy.proofs.Common.{Option, option_or, Place, place, Position, refl, Result, slice_get, slice_get-get_or, slice_get_within, slice_index_or, Some, start_for}
use Rattle.determinize_lazy.proofs.Common.{start_value, step_of, subst, sym, tag_in, tag_of, Text, text_of, true}
use Rattle.determinize_lazy.proofs.Common.{true≢false, units, units_read, Value, value_after, with_cursor, ℕ, ◌&&◌, ◌+◌, ◌<◌, ◌∙◌, ◌∷◌, ◌≡◌, ◌≤◌}
use Rattle.determinize_lazy.proofs.steps.Rule.{grows-more, grows_none}
use Rattle.determinize_lazy.proofs.walking.CachedWalks.{cut_off-first, cut_off-later, drop-one, left_whole}
use Rattle.determinize_table.specs.declared.tag.LastMatch.{LastMatch}
use Rattle.determinize_lazy.proofs.steps.Cursors.{stepped_at}
use Rattle.determinize_lazy.specs.Private.{GoesToCached}
use Rattle.determinize_table.specs.Looping.{IsLoopOver, IsScanned}
use Rattle.determinize_engine.proofs.Texts.{unit-byte}
use Rattle.std.specs.Prelude.{slice_index, zero, suc, ◌-◌}

-- what the tag of a value says: whether a search ends there
pub tag-last : (earliest : Bool) (bits : ℕ) (v : Value) {test answer : Bool} → tag_in bits ≡ tag_of v
    → test ≡ is_last_tag earliest (tag_in bits) → test ≡ answer → is_last earliest v ≡ answer
tag-last earliest bits v tag told is = grind (arith, tag, told, is)

-- a search that does not end at a value ends there neither if it does not end at a match
pub more-still : (e earliest : Bool) (v : Value) → is_last earliest v ≡ false → is_last (e && earliest) v ≡ false
more-still e earliest v more = grind (arith, more)

-- a value that is entered after n + 1 units reports what it lists
reported-next : (n : ℕ) (patterns : List ℕ) → match_reported (n + 1) (slice_get patterns 0) ≡ ended_at n patterns
reported-next n patterns = grind arith

-- what is so of a start and a text is so of those that are equal to them
pub at-text : (P : ℕ → Text → Type 0) {s s' : ℕ} {t t' : Text} → s ≡ s' → t ≡ t' → P s t → P s' t'
at-text P {s' = s'} {t = t} s_is t_is h = subst (λ (t : Text). P s' t) t_is (subst (λ s. P s t) s_is h)

pub over-text : {E : Type 0} {earliest : Bool} {old : Cache} {s s' : ℕ} {t t' : Text} {r : Result (Option HalfMatch) E}
    {new : Cache} → s ≡ s' → t ≡ t' → IsOverText earliest old s t r new → IsOverText earliest old s' t' r new
over-text {earliest = earliest} {old} {r = r} {new} = at-text (λ s t. IsOverText earliest old s t r new)

-- the cache and the value where a search ends are those after a walk over the units that it reads
pub end-is : (earliest : Bool) (us : List (Option ℕ)) (p : Place)
    → ((ends_at earliest p us).cache
    ≡ after_walk p.cache p.value (units_read (step_of p.cache) earliest p.value us))
    × ((ends_at earliest p us).value
    ≡ value_after p.cache.nfa p.cache.kind p.value (units_read (step_of p.cache) earliest p.value us))
end-is earliest [] p = (refl, refl)
end-is earliest (u ∷ us) p = by_test (is_last earliest p.value) (λ over. rw over (refl, refl))
    (λ more. rw more (end-is earliest us (next_place p u)))

module _ {earliest : Bool} {us : List (Option ℕ)} {p : Place} where
  -- a unit more
  pub come-next : {u : Option ℕ} {q : Place} → slice_get us p.read ≡ Some u → is_last earliest p.value ≡ false
      → q ≡ next_place p u → Grows p.cache q.cache → HasCome earliest us p q
  come-next {u} at more is grows = record {
    ends = rw (is, drop-one us p.read u at, more) refl;
    failed = λ new f. rw (drop-one us p.read u at, more) (cut_off-later (rw is at f));
    grows = grows;
  }

  pub come_none : {q : Place} → q ≡ p → HasCome earliest us p q
  come_none is = rw is record { ends = refl; failed = λ new f. f; grows = grows_none }

  module _ {q : Place} (h : HasCome earliest us p q) where
    pub come_twice : {r : Place} → HasCome earliest us q r → HasCome earliest us p r
    come_twice k = record {
      ends = k.ends ∙ h.ends;
      failed = λ new f. h.failed new (k.failed new f);
      grows = grows-more h.grows k.grows;
    }

    -- what is left if the next step fails
    pub fails-next : {u : Option ℕ} {new : Cache} → slice_get us q.read ≡ Some u → is_last earliest q.value ≡ false
        → IsFailedStep q.cache q.value u new → IsCutOffAt earliest p (drop p.read us) new
    fails-next {u} at more failed = h.failed _ (rw (drop-one us q.read u at, more) (cut_off-first failed))

    -- what a search returns and leaves that ends from there on
    pub over-end : {A D E : Type 0} {at : Position A} {new : LazyValue} {found : Option HalfMatch}
        → EndsAt {E = D} earliest (drop q.read us) q (Ok at) new → found ≡ (place new at).last
        → IsOver {E = E} earliest (drop p.read us) p (Ok found) (cache new)
    over-end e is =
        let end = e.place ∙ h.ends in record {
          last = is ∙ ap (λ (q : Place). q.last) end;
          left = left_whole _ (ap (λ (q : Place). q.cache) end ∙ (end-is earliest (drop p.read us) p).0)
              (grows-more h.grows e.grows);
        }

    -- a search that has stopped
    module _ (stopped : HasStopped earliest (length us) q) where
      pub end-here : ends_at earliest p (drop p.read us) ≡ q
      end-here = sym h.ends ∙ elim stopped [
        | inl none ↦ rw (drop_all q.read us none) refl
        | inr last ↦ stays (drop q.read us) last
      ]
        where
          stays : (us : List (Option ℕ)) → is_last earliest q.value ≡ true → ends_at earliest q us ≡ q
          stays [] last = refl
          stays (u ∷ us) last = rw last refl

      pub left-at : {T E : Type 0} (r : Result T E) → IsLeftBy earliest (drop p.read us) p r q.cache
      left-at r = left_whole r (rw end-here at (end-is earliest (drop p.read us) p).0) h.grows

      pub over-at : {E : Type 0} {found : Option HalfMatch} → found ≡ q.last
          → IsOver {E = E} earliest (drop p.read us) p (Ok found) q.cache
      over-at is = record { last = rw end-here is; left = left-at _ }

-- a search that has stopped, but not at the value, has read all bytes
pub read_all : (earliest : Bool) (n : ℕ) (q : Place) → HasStopped earliest n q → q.read ≤ n
    → is_last earliest q.value ≡ false → q.read ≡ n
read_all earliest n q (inl all) within more = omega (arith, all, within)
read_all earliest n q (inr last) within more = absurd (true≢false (sym last ∙ more))

-- on numbers, without what else is known
pub below_next : (n : ℕ) → n < n + 1
below_next n = omega arith

-- what a search leaves that ends at a position, for each result after that
pub end-left : {A D E T : Type 0} {earliest : Bool} {us : List (Option ℕ)} {p : Place} {at : Position A}
    {new : LazyValue} → EndsAt {E = D} earliest us p (Ok at) new → (r : Result T E)
    → IsLeftBy earliest us p r (cache new)
end-left {earliest = earliest} {us} {p} h r =
    left_whole r (ap (λ (q : Place). q.cache) h.place ∙ (end-is earliest us p).0) h.grows

-- a search that takes a step over a byte, and one that continues twice
module _ {A B : Type 0} {earliest : Bool} {text : Text} {p : Place} {c : LazyValue} {at : Position A}
    (g : GoesTo earliest text p c at) {d : LazyValue} {next : Position B} where
  pub goes-next : {b : ℕ} → slice_get (map Some text.bytes) at.read ≡ Some (Some b)
      → is_last earliest (cursor_value c.states at.cursor) ≡ false → IsNext (place c at) (Some b) d next
      → GoesTo earliest text p d next
  goes-next {b} byte more n =
      let within = rw length-map at (slice_get_within (map Some text.bytes) at.read (Some b) byte) in
      let read_is : next.read ≡ at.read + 1 = ap (λ (p : Place). p.read) n.place in record {
        position = n.position;
        forward = omega (arith, g.forward, read_is);
        within = omega (arith, within, read_is);
        come = λ e us begins.
            come_twice (g.come e us begins) (come-next (begins at.read b byte)
            (more-still e earliest (cursor_value c.states at.cursor) more) n.place n.grows);
        grows = grows-more g.grows n.grows;
      }

  pub goes_twice : GoesTo earliest text (place c at) d next → GoesTo earliest text p d next
  goes_twice h = record {
    position = h.position;
    forward = omega (arith, g.forward, h.forward);
    within = h.within;
    come = λ e us begins. come_twice (g.come e us begins) (h.come e us begins);
    grows = grows-more g.grows h.grows;
  }

-- from what a lookup, the tag and the last match say
pub next-cached : (x : LazyValue) → IsSound (cache x) → (at : CachedPosition) → IsCachedPosition x at → (u : Option ℕ)
    (id : ℕ) → ((v : Value) → slice_get x.states at.id ≡ Some v → IsTarget (cache x).table v u (Some id))
    → (bits : ℕ) → ((v : Value) → slice_get x.states at.id ≡ Some v → tag_in bits ≡ tag_of v)
    → (earliest : Bool) {test : Bool} → test ≡ is_last_tag earliest (tag_in bits) → test ≡ false
    → (last : LastMatch) → ((at.read ≡ 0 → match_of at.last ≡ None)
    → match_of last ≡ option_or (match_reported at.read (tag_in bits).pattern) (match_of at.last))
    → (is_last earliest (cached_place x at).value ≡ false) × IsNext {A = Unit {0}} (cached_place x at) u x
    (with_cursor (record { id = id; read = at.read + 1; last = last }))
next-cached x is at position u id looked bits tagged earliest told more last found =
    let v : Value = slice_index_or x.states at.id dead in
    let there : slice_get x.states at.id ≡ Some v = slice_get-get_or x.states at.id dead position.ready.cursor in
    let s : IsStepped {A = Unit {0}} {E = Unit {0}} x v u (Ok (Cached id)) x =
    stepped_at x v u id is (looked v there) in (
      tag-last earliest bits v (tagged v there) told more,
      record {
        position = record { ready = s.ready; unmatched = λ e. absurd (omega arith) };
        place = let last_is = found position.unmatched in cc (tagged v there, s.value, s.after);
        grows = grows_none;
      },
    )

-- a search that reads nothing
pub goes_none : (x : LazyValue) (earliest : Bool) (text : Text) (at : CachedPosition) → IsCachedPosition x at
    → at.read ≤ length text.bytes → GoesToCached earliest text (cached_place x at) x at
goes_none x earliest text at position within = record {
  position = position;
  forward = omega arith;
  within = within;
  come = λ e us begins. come_none refl;
  grows = grows_none;
}

-- a scan passes bytes over which a state has a transition to itself, at which no search ends
module _ (x : LazyValue) (sound : IsSound (cache x)) (text : Text) (at : CachedPosition)
    (position : IsCachedPosition x at) (within : at.read ≤ length text.bytes) {to : ℕ}
    (s : IsScanned (cache x).table (slice_index_or x.states at.id dead) text.bytes at.read to) where
  abbrev value : Value
  value = slice_index_or x.states at.id dead

  there : slice_get x.states at.id ≡ Some value
  there = slice_get-get_or x.states at.id dead position.ready.cursor

  reports : (n : ℕ) (found : Option HalfMatch) → is_last_tag true (tag_of value) ≡ false
      → found ≡ option_or (match_reported n (tag_of value).pattern) found
  reports n found plain = grind (arith, plain)

  abbrev after : ℕ → CachedPosition
  after n = record { id = at.id; read = at.read + n; last = at.last }

  one-more : (n b : ℕ) → is_last_tag true (tag_of value) ≡ false → IsLoopOver (cache x).table value b
      → IsNext {A = Unit {0}} (cached_place x (after n)) (Some b) x (with_cursor (after (n + 1)))
  one-more n b plain over =
      let step : IsStepped {A = Unit {0}} {E = Unit {0}} x value (Some b) (Ok (Cached at.id)) x =
      stepped_at x value (Some b) at.id sound (over ∙ sym there, position.ready.cursor) in
      let read : at.read + (n + 1) ≡ at.read + n + 1 = omega arith in
      let last = reports (at.read + n) (match_of at.last) plain in record {
        position = record { ready = step.ready; unmatched = λ e. absurd (omega (arith, e)) };
        place = rw read (cc (step.value, step.after, last));
        grows = grows_none;
      }

  goes-by : (earliest : Bool) (n : ℕ) → at.read + n ≤ to
      → GoesToCached earliest text (cached_place x at) x (after n)
  goes-by earliest zero few =
      let none : at.read + 0 ≡ at.read = omega arith in rw none (goes_none x earliest text at position within)
  goes-by earliest (suc n) few =
      let plain = s.plain (omega (arith, few)) in
      let b : ℕ = slice_index text.bytes (at.read + n) in
      let next : n + 1 ≡ suc n = omega arith in
      rw (← next) (goes-next (goes-by earliest n (omega (arith, few)))
      (unit-byte text.bytes (at.read + n) b (omega (arith, few, s.within)) refl)
      (grind (arith, plain)) (one-more n b plain (s.over (at.read + n) (omega arith) (omega (arith, few)))))

  pub goes-scanned : (earliest : Bool)
      → GoesToCached earliest text (cached_place x at) x (record { id = at.id; read = to; last = at.last })
  goes-scanned earliest =
      let whole : at.read + (to - at.read) ≡ to = omega (arith, s.more) in
      rw whole at (goes-by earliest (to - at.read) (omega (arith, s.more)))

-- the last match where a search ends is that of the walk over all units
pub last-is : (us : List (Option ℕ)) (p : Place)
    → (ends_at false p us).last ≡ last_from p.cache.nfa p.cache.kind p.read p.last p.value us
last-is [] p = refl
last-is (u ∷ us) p = by_test (is_last false p.value)
    (λ over. rw over (sym (last_from-over p.cache.nfa p.cache.kind p.read p.last p.value (u ∷ us)
    (none_left p.value.states over))))
    (λ more. rw (
      more,
      last_from-next p.cache.nfa p.cache.kind p.read p.last p.value u us,
      ← reported-next p.read (step_of p.cache p.value u).patterns,
    ) (last-is us (next_place p u)))

-- and one for the earliest match finds one if there is any
some-is : (us : List (Option ℕ)) (p : Place) → (is_nonempty p.value.patterns ≡ true → is_some p.last ≡ true)
    → is_some (ends_at true p us).last ≡ is_some (last_from p.cache.nfa p.cache.kind p.read p.last p.value us)
some-is [] p seen = refl
some-is (u ∷ us) p seen = by_test (is_last true p.value)
    (λ over. rw over (by_test (is_nonempty p.value.patterns)
    (λ some. rw (seen some, found _ p.last (seen some)))
    (λ none. rw (last_from-over p.cache.nfa p.cache.kind p.read p.last p.value (u ∷ us)
    (none_left p.value.states (rw none at over))))))
    (λ more. rw (
      more,
      last_from-next p.cache.nfa p.cache.kind p.read p.last p.value u us,
      ← reported-next p.read (step_of p.cache p.value u).patterns,
    )
    (some-is us (next_place p u) (reports (step_of p.cache p.value u).patterns)))
  where
    found : (o last : Option HalfMatch) → is_some last ≡ true → is_some (option_or o last) ≡ true
    found o last h = grind arith

    reports : (ps : List ℕ) → is_nonempty ps ≡ true
        → is_some (option_or (match_reported (p.read + 1) (slice_get ps 0)) p.last) ≡ true
    reports ps h = grind arith

-- the match that a search from the start finds
pub last-found : (c : Cache) (v : Value) (us : List (Option ℕ))
    → (ends_at false (first_place c v) us).last ≡ last_match (future c.nfa c.kind v us)
last-found c v us = last-is us (first_place c v) ∙ last_from-first c.nfa c.kind v us

-- what a search has found, and where it is, that has come to its end
pub at-end : {c : Cache} {v : Value} {us : List (Option ℕ)} {q : Place} → HasCome false us (first_place c v) q
    → HasStopped false (length us) q
    → (q.last ≡ last_match (future c.nfa c.kind v us))
    × (q.value ≡ value_after c.nfa c.kind v (units_read (step_of c) false v us))
at-end {c} {v} {us} h stopped =
    rw (← end-here h stopped) (last-found c v us, (end-is false us (first_place c v)).1)

pub search-is : (old : Cache) (start : ℕ) (text : Text) {found : Option HalfMatch} → IsAccepted old.nfa
    → found ≡ (ends_at false (first_place old (start_value old.nfa start text.behind)) (units text)).last
    → IsSearch old.nfa old.kind start text found
unfolding chain
search-is old start text {found} accepted is = is-search old.nfa old.kind start text found accepted
    (is ∙ last-found old (start_value old.nfa start text.behind) (units text))

-- some run accepts exactly where the earliest match is found
pub decides : (old : Cache) (asked : Asked) {found : Option HalfMatch} → IsAccepted old.nfa
    → let text : Text = text_of old.nfa.reverse asked in
    let first : Value = start_value old.nfa (start_for old.nfa asked.anchored) text.behind in
    found ≡ (ends_at true (first_place old first) (units text)).last
    → Decides (is_some found) (HasMatch old.nfa asked)
unfolding chain
decides old asked accepted is =
    let text : Text = text_of old.nfa.reverse asked in
    let first : Value = start_value old.nfa (start_for old.nfa asked.anchored) text.behind in
    match-decides old.nfa old.kind asked accepted (ap is_some is
    ∙ some-is (units text) (first_place old first) (λ some. absurd (true≢false (sym some)))
    ∙ ap is_some (last_from-first old.nfa old.kind first (units text)))
