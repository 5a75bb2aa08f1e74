-- Laws of one step, and of closures and the values of a walk by the definition of a step.
-- Main statements: each_reach_goes_on, each_state_has_one_kind, each_future_follows, dead_stays, one_pattern.
-- Used by: `step_law`, `search_law`, `next`, ReturnedWalk, and the crates above.
-- Idea: the definitions compute. A search that lists only captures would visit one of them again.
use Rattle.determinize_core.proofs.Common.{[], accepted_sound, All, ap, arith, Assertion, Bool, by_test, capture_next}
use Rattle.determinize_core.proofs.Common.{chain, cond, dead, drop, edges, ends, eq-eqb, eqb-true, false, false≢true}
use Rattle.determinize_core.proofs.Common.{flat_map, followed, fresh, future, has, have_after, is_capture, IsSound}
use Rattle.determinize_core.proofs.Common.{LeftmostFirst, length, length-take, List, MatchKind, member, nat_eq, Nfa}
use Rattle.determinize_core.proofs.Common.{None, none_held, Option, or_left, reach, refl, same_decides, slice_get, Some}
use Rattle.determinize_core.proofs.Common.{start_value, state_at, step, suc, tables_of, true, units, Value, with_node}
use Rattle.determinize_core.proofs.Common.{without, zero, ℕ, ◌+◌, ◌==◌, ◌∙◌, ◌∷◌, ◌≡◌, ◌≤◌}
use Rattle.ordered_reach.proofs.Cases.{or_false}
use Rattle.determinize_below.proofs.nfas.SoundNfa.{edges_enough, reach-append}
use Rattle.determinize_below.proofs.nfas.Edges.{edges-capture, edges-or-target, length-target}
use Rattle.ordered_reach.proofs.graph.ClosedSets.{IsEnough}
use Rattle.ordered_reach.proofs.lists.NewNodes.{fresh_none, member-fresh}
use Rattle.determinize_below.specs.Captures.{HasNoCaptureCycle}
use Rattle.ordered_reach.proofs.graph.SameSearch.{roots_closed}
use Rattle.determinize_core.specs.Laws.{DeadStays, EachFutureFollows, EachReachGoesOn, EachStateHasOneKind}
use Rattle.determinize_core.specs.Laws.{LeftmostGivesOne, NoNeedNoHave}
use Rattle.determinize_core.proofs.step.Reopening.{unneeded}

pub each_reach_goes_on : EachReachGoesOn
each_reach_goes_on nfa accepted holds roots root =
    reach-append nfa (accepted_sound nfa accepted) holds roots (root ∷ [])

pub each_state_has_one_kind : EachStateHasOneKind
each_state_has_one_kind nfa holds u s = (length-target nfa u s, edges-or-target nfa holds u s)

pub ruleset search_laws = (each_reach_goes_on, each_state_has_one_kind)

drop-future : (nfa : Nfa) (kind : MatchKind) (us : List (Option ℕ)) (v w : Value) (j : ℕ)
    → slice_get (future nfa kind v us) j ≡ Some w → drop j (future nfa kind v us) ≡ future nfa kind w (drop j us)
drop-future nfa kind [] v w zero h = cc
drop-future nfa kind [] v w (suc j) h = absurd (let k : None ≡ Some w = h in cc)
drop-future nfa kind (u ∷ us) v w zero h = cc
drop-future nfa kind (u ∷ us) v w (suc j) h = drop-future nfa kind us (step nfa kind v u) w j h

pub each_future_follows : EachFutureFollows
unfolding chain
each_future_follows nfa kind s text j v h = drop-future nfa kind (units text) (start_value nfa s text.behind) v j h

step_dead : (nfa : Nfa) (kind : MatchKind) (u : Option ℕ) → step nfa kind dead u ≡ dead
unfolding step reach
step_dead nfa All u = rw (unneeded nfa dead u refl) refl
step_dead nfa LeftmostFirst u = rw (unneeded nfa dead u refl) refl

-- a list of captures only
all_capture : (nfa : Nfa) (xs : List ℕ) (x : ℕ) → without (is_capture nfa) xs ≡ [] → member nat_eq xs x ≡ true
    → is_capture nfa x ≡ true
all_capture nfa [] x e m = absurd (false≢true m)
all_capture nfa (y ∷ xs) x e m = grind (arith, same_decides y x, all_capture nfa xs x)

module _ (nfa : Nfa) (none : HasNoCaptureCycle nfa) (holds : Assertion → Bool) (v : ℕ → Bool)
    (captures : (x : ℕ) → v x ≡ true → is_capture nfa x ≡ true)
    (closed : (x y : ℕ) → v x ≡ true → member nat_eq (edges nfa holds x) y ≡ true → v y ≡ true) where
  -- a capture of the set has an edge
  has_edge : (x : ℕ) → v x ≡ true → member nat_eq (edges nfa holds x) (capture_next (state_at nfa x)) ≡ true
  has_edge x m = rw (edges-capture nfa holds x (captures x m)) (or_left _ false (eq-eqb _ _ refl))

  -- all that follow it are in the set
  stays : (x j : ℕ) → v x ≡ true → v (followed nfa j x) ≡ true
  stays x zero m = m
  stays x (suc j) m = closed (followed nfa j x) _ (stays x j m) (has_edge _ (stays x j m))

  -- with fuel, a state is visited again
  no_loop : (k : ℕ) (held : ℕ → Bool) (r : ℕ) → IsEnough nat_eq (edges nfa holds) k held r → v r ≡ true
      → ((h : ℕ) → held h ≡ true → (i : ℕ) × (followed nfa (suc i) h ≡ r)) → ⊥
  no_loop zero held r a m inv = none r (inv r a).0 (λ j l. captures _ (stays r j m)) (inv r a).1
  no_loop (suc k) held r a m inv = by_test (held r)
      (λ e. none r (inv r e).0 (λ j l. captures _ (stays r j m)) (inv r e).1)
      (λ e. no_loop k (with_node nat_eq held r) _ (a e _ (has_edge r m)) (closed r _ m (has_edge r m))
      (λ h w. by_test (nat_eq r h)
      (λ z. rw (← eqb-true r h z) (0, refl))
      (λ z. let l = inv h (rw z at w) in (suc l.0, rw l.1 refl))))

-- a search that lists only captures lists nothing
only_captures : (nfa : Nfa) (sound : IsSound nfa) → HasNoCaptureCycle nfa → (holds : Assertion → Bool) (roots : List ℕ)
    → without (is_capture nfa) (reach nfa holds roots) ≡ [] → reach nfa holds roots ≡ []
unfolding reach
only_captures nfa sound none holds roots e =
    let f : List ℕ = flat_map (ends nat_eq (edges nfa holds) (length nfa.states + 1) none_held) roots in
    let is_closed = roots_closed same_decides (edges nfa holds) (length nfa.states + 1) roots
    (edges_enough nfa sound holds) in
    fresh_none same_decides none_held f (λ x m. absurd (no_loop nfa none holds (member nat_eq f)
    (λ y k. all_capture nfa (fresh nat_eq none_held f) y e (member-fresh same_decides none_held f y ∙ rw k refl))
    (λ y z k l. or_false (member nat_eq f z) (is_closed y z k l))
    (length nfa.states + 1) none_held x (edges_enough nfa sound holds x) m (λ h w. absurd (false≢true w))))

pub dead_stays : DeadStays
unfolding step reach
dead_stays nfa kind u = (
  step_dead nfa kind u,
  (λ v accepted none ps ss.
      rw (only_captures nfa (accepted_sound nfa accepted) none (has (have_after (tables_of nfa) u)) _ ss, ps) refl),
)

pub leftmost_gives_one : LeftmostGivesOne
unfolding step
leftmost_gives_one nfa v u = omega (arith, length-take {A = ℕ})

-- so a value that is such a step has one pattern at most
pub one_pattern : (nfa : Nfa) (kind : MatchKind) (v : Value) (u : Option ℕ) → kind ≡ LeftmostFirst → (next : Value)
    → next ≡ step nfa kind v u → length next.patterns ≤ 1
one_pattern nfa kind v u k next e = rw (e, k) (leftmost_gives_one nfa v u)

pub no_need_no_have : NoNeedNoHave
no_need_no_have nfa v xs h = ap (λ n. cond (n == 0) 0 v.look_have) h
