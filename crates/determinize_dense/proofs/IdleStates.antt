-- States that give nothing on a unit, no pattern and no target, do not change a step.
-- Main statements: step_same, idle-push.
-- Used by: Building, `none_gives`.
-- Idea: what is read of a list is what is read of it without them.
use Rattle.determinize_dense.proofs.Common.{arith, before, before-without, Bool, distinct, filter-append}
use Rattle.determinize_dense.proofs.Common.{flat_map-without, get_or, gives_nothing, is_match, LeftmostFirst, length}
use Rattle.determinize_dense.proofs.Common.{List, MatchKind, Nfa, none_held, Option, patterns_of, refl, roots_of}
use Rattle.determinize_dense.proofs.Common.{same_decides, step, take, take_more, true, Value, without, [], ℕ, ◌+◌, ◌<◌}
use Rattle.determinize_dense.proofs.Common.{◌≡◌}
use Rattle.determinize_core.proofs.Common.{All}
use Rattle.determinize_core.proofs.step.Reopening.{unneeded}
use Rattle.ordered_reach.proofs.lists.NewNodes.{filter-fresh}

module _ (nfa : Nfa) (u : Option ℕ) where
  -- the patterns of a list
  patterns-without : (xs : List ℕ)
      → patterns_of nfa (distinct (without (gives_nothing nfa u) xs)) ≡ patterns_of nfa (distinct xs)
  patterns-without xs = rw (← filter-fresh same_decides (gives_nothing nfa u) none_held xs)
      (flat_map-without _ (gives_nothing nfa u) (distinct xs) (λ s e. grind arith))

  -- its targets, as far as they are read
  roots-without : (kind : MatchKind) (xs : List ℕ)
      → roots_of nfa kind u (distinct (without (gives_nothing nfa u) xs)) ≡ roots_of nfa kind u (distinct xs)
  roots-without All xs = rw (← filter-fresh same_decides (gives_nothing nfa u) none_held xs)
      (flat_map-without _ (gives_nothing nfa u) (distinct xs) (λ s e. grind arith))
  roots-without LeftmostFirst xs = rw (
    ← filter-fresh same_decides (gives_nothing nfa u) none_held xs,
    before-without (is_match nfa) (gives_nothing nfa u) (distinct xs) (λ s m. rw m refl),
  ) (flat_map-without _ (gives_nothing nfa u) (before (is_match nfa) (distinct xs)) (λ s e. grind arith))

-- steps from values that test no assertion, and whose other states are the same
pub step_same : (nfa : Nfa) (kind : MatchKind) (u : Option ℕ) (v w : Value) → v.look_need ≡ 0 → w.look_need ≡ 0
    → without (gives_nothing nfa u) v.states ≡ without (gives_nothing nfa u) w.states
    → step nfa kind v u ≡ step nfa kind w u
unfolding step
step_same nfa kind u v w none_v none_w same =
    let patterns : patterns_of nfa (distinct v.states) ≡ patterns_of nfa (distinct w.states) =
    rw (← patterns-without nfa u v.states, ← patterns-without nfa u w.states, same) refl in
    let roots : roots_of nfa kind u (distinct v.states) ≡ roots_of nfa kind u (distinct w.states) =
    rw (← roots-without nfa u kind v.states, ← roots-without nfa u kind w.states, same) refl in
    rw (unneeded nfa v u none_v, unneeded nfa w u none_w, patterns, roots) refl

-- a list of such states, and one more
pub idle-push : (idle : ℕ → Bool) (ids : List ℕ) (i id : ℕ) → i < length ids → without idle (take i ids) ≡ []
    → id ≡ get_or ids i id → idle id ≡ true → without idle (take (i + 1) ids) ≡ []
idle-push idle ids i id inside none at is = rw (take_more ids i id inside, filter-append, none, ← at, is) refl
