-- Walks through the cache: the steps done so far, followed by those that are left, are the whole walk.
-- Main statements: walks-on, left_whole, left_err, walked-next, each_walk_computes_few.
-- Used by: `walk_on`, `next`, searches and Plenty.
-- Idea: what a walk leaves depends only on the cache and the value where it is, and on the units that are left.
use Rattle.determinize_lazy.proofs.Common.{[], add-one, after_step, after_walk, ap, append_assoc, arith, Bool, Cache}
use Rattle.determinize_lazy.proofs.Common.{chain, cond, count_after, drop, drop_more, EachWalkComputesFew, Err, future}
use Rattle.determinize_lazy.proofs.Common.{future_is, get_or_from_slice_get, Grows, IfOk-from_err, inl, inr, is_cached}
use Rattle.determinize_lazy.proofs.Common.{IsCacheAfter, IsCutOff, IsErr, IsFailedStep, IsWalkedTo, IsWalking, length}
use Rattle.determinize_lazy.proofs.Common.{List, MatchKind, Nfa, not_none, of_some, Ok, Option, refl, Result, shared_by}
use Rattle.determinize_lazy.proofs.Common.{slice_get, slice_get_within, Some, start_value, step, step_of, suc, sym}
use Rattle.determinize_lazy.proofs.Common.{take, take_all, Text, units, Value, zero, ℕ, ◌++◌, ◌+◌, ◌∙◌, ◌∷◌, ◌≡◌, ◌≤◌}
use Rattle.determinize_lazy.proofs.steps.Rule.{grows-more, grows_none, of_err}

-- the steps stay, and which of them are shared
pub same_steps : (us : List (Option ℕ)) (c : Cache) (v : Value)
    → (step_of (after_walk c v us) ≡ step_of c) × (shared_by (after_walk c v us) ≡ shared_by c)
same_steps [] c v = (refl, refl)
same_steps (u ∷ us) c v = same_steps us (after_step c v u) (step_of c v u)

-- the part of a list from an index on
pub drop-one : {K : Type 0} (xs : List K) (i : ℕ) (x : K) → slice_get xs i ≡ Some x → drop i xs ≡ x ∷ drop (i + 1) xs
drop-one xs i x at = rw (drop_more xs i x (slice_get_within xs i x at), get_or_from_slice_get xs i x x at)

module _ {old : Cache} {v : Value} {us : List (Option ℕ)} {new : Cache} where
  -- what a walk leaves that fails before its first step, and after its last
  pub cut_off-none : new ≡ old → IsCutOff old v us new
  cut_off-none is = record { steps = 0; table = inr (rw is); counted = inl (rw is) }

  pub cut_off-whole : new ≡ after_walk old v us → IsCutOff old v us new
  cut_off-whole is = let all : take (length us) us ≡ us = take_all (length us) us (omega arith) in
      record { steps = length us; table = inr (rw (is, all)); counted = inl (rw (is, all)) }

  -- one that fails in its first step, and after it
  pub cut_off-first : {u : Option ℕ} → IsFailedStep old v u new → IsCutOff old v (u ∷ us) new
  cut_off-first failed = record { steps = 0; table = failed.table; counted = failed.counted }

  pub cut_off-later : {u : Option ℕ} → IsCutOff (after_step old v u) (step_of old v u) us new
      → IsCutOff old v (u ∷ us) new
  cut_off-later f = record {
    steps = suc f.steps;
    table = f.table;
    counted = rw (add-one (suc f.steps)) (rw (add-one f.steps) at f.counted);
  }

-- what a call leaves that reads all units, that fails, and that fails before its first step
module _ {T E : Type 0} {old new : Cache} {v : Value} {us : List (Option ℕ)} where
  pub left_whole : (r : Result T E) → new ≡ after_walk old v us → Grows old new → IsCacheAfter old v us r new
  left_whole (Ok x) is grows = record { after = is; failed = tt; grows = grows }
  left_whole (Err x) is grows = record { after = tt; failed = cut_off-whole is; grows = grows }

  module _ {r : Result T E} (e : IsErr r) where
    pub left_err : IsCutOff old v us new → Grows old new → IsCacheAfter old v us r new
    left_err cut grows = record { after = IfOk-from_err r _ e; failed = of_err r cut; grows = grows }

    pub left_none : new ≡ old → IsCacheAfter old v us r new
    left_none is = left_err (cut_off-none is) (rw is grows_none)

-- a walk takes a step
pub walks-on : {old : Cache} {first : Value} {us : List (Option ℕ)} {done : List Value} {now : Cache} {v : Value}
    {u : Option ℕ} {rest : List (Option ℕ)} {w : Value} {new : Cache} → IsWalking old first us done now v (u ∷ rest)
    → w ≡ step_of now v u → new ≡ after_step now v u → Grows now new
    → IsWalking old first us (done ++ w ∷ []) new w rest
walks-on {done = done} {now} {v} {u} {rest} {w} walk w_is new_is grows = rw (w_is, new_is) record {
  values = let is = future_is now.nfa now.kind (step_of now v u) rest in rw (append_assoc, is) (rw is at walk.values);
  after = walk.after;
  failed = λ x f. walk.failed x (cut_off-later f);
  grows = grows-more walk.grows (rw new_is at grows);
}

-- a walker that takes a step is at the next value
module _ (nfa : Nfa) (kind : MatchKind) where
  future-next : (us : List (Option ℕ)) (v : Value) (k : ℕ) (w : Value) (u : Option ℕ)
      → slice_get (future nfa kind v us) k ≡ Some w → slice_get us k ≡ Some u
      → slice_get (future nfa kind v us) (suc k) ≡ Some (step nfa kind w u)
  future-next [] v k w u at here = not_none (sym here)
  future-next (x ∷ us) v zero w u at here =
      rw (future_is nfa kind (step nfa kind v x) us, of_some at, of_some here) refl
  future-next (x ∷ us) v (suc k) w u at here = future-next us (step nfa kind v x) k w u at here

  module _ (start : ℕ) (text : Text) where
    pub walked-none : {v : Value} → v ≡ start_value nfa start text.behind → IsWalkedTo nfa kind start text 0 v
    unfolding chain
    walked-none is = ap (λ vs. slice_get vs 0) (future_is nfa kind (start_value nfa start text.behind) (units text))
        ∙ ap Some (sym is)

    pub walked-next : (k : ℕ) {v w : Value} {u : Option ℕ} → IsWalkedTo nfa kind start text k v
        → slice_get (units text) k ≡ Some u → w ≡ step nfa kind v u → IsWalkedTo nfa kind start text (k + 1) w
    unfolding chain
    walked-next k at here is =
        rw (add-one k, is) (future-next (units text) (start_value nfa start text.behind) k _ _ at here)

-- a step computes at most one transition
counted : (b : Bool) (n : ℕ) → n ≤ 18446744073709551615 → let m = cond b n (count_after n 1) in
    (n ≤ m) × (m ≤ suc n) × (m ≤ 18446744073709551615)
counted b n small = (grind arith, grind arith, grind arith)

pub each_walk_computes_few : EachWalkComputesFew
each_walk_computes_few c v [] small = (omega arith, omega arith)
each_walk_computes_few c v (u ∷ us) small =
    let one = counted (is_cached c.table v u) c.computed small in
    let rest = each_walk_computes_few (after_step c v u) (step_of c v u) us one.2 in
    (omega (arith, one.0, rest.0), omega (arith, one.1, rest.1))

-- the steps of a walker
pub ruleset walked_steps = (cut_off-first, cut_off-whole, walked-none, walked-next)
