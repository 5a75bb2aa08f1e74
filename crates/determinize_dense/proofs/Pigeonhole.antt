-- At most m numbers are the values of a function into the numbers below m that are all distinct; and how many values
-- are reached: one number, and fewer than it are not all.
-- Main statements: pigeonhole, each_count_is_one.
-- Used by: Least, Ordering, Splitting, `build` and the law of the number of states.
-- Idea: a list of distinct elements that are all in another list is not longer than that.
use Rattle.determinize_dense.proofs.Common.{arith, Contains, eq-eqb, eqb-true, IsDistinct, IsDistinct-from_AllPairs}
use Rattle.determinize_dense.proofs.Common.{length, length-map-range_with_len, List, map, range_with_len, same}
use Rattle.determinize_dense.proofs.Common.{same_laws, slice_index_or, Value, ℕ, ◌<◌, ◌≡◌, ◌≤◌}
use Rattle.std.proofs.lemmas.List.FromFn.{get_or-map-range_with_len}
use Rattle.std.proofs.lemmas.Map.Steps.{length-le_from_distinct_below}
use Rattle.std.proofs.lemmas.Map.Views.{Contains-from_any}
use Rattle.determinize_engine.specs.States.{EachApart}
use Rattle.determinize_dense.specs.Dfa.{EachCountIsOne}
use Rattle.determinize_state.specs.Equality.{Decides-same}
use Rattle.ordered_reach.proofs.lists.Pairs.{pairs_from}
use Rattle.std.proofs.lemmas.Map.Made.{is_member-Decides, length-le_from_is_member}

module _ (n m : ℕ) (f : ℕ → ℕ) where
  abbrev values : List ℕ
  values = map f (range_with_len 0 n)

  size : length values ≡ n
  size = length-map-range_with_len f 0 n

  value : (i d : ℕ) → i < n → slice_index_or values i d ≡ f i
  value i d l = get_or-map-range_with_len f 0 n i i d l (omega arith)

  pub pigeonhole : ((i : ℕ) → i < n → f i < m) → ((i j : ℕ) → i < n → j < n → f i ≡ f j → i ≡ j) → n ≤ m
  pigeonhole into one = rw size at (length-le_from_distinct_below values m
      (IsDistinct-from_AllPairs (λ a b. (eqb-true a b, eq-eqb a b)) values
      (λ i j d l k e. grind (arith, size, value, one i j)))
      (λ q t. let c = Contains-from_any eqb-true q values t in grind (arith, size, value c.0 q)))

distinct : (vs : List Value) → EachApart vs → IsDistinct same vs
distinct vs apart = IsDistinct-from_AllPairs Decides-same vs (pairs_from (λ v w. v ≡ w → ⊥) vs (λ p q v w l a b e.
    omega (arith, apart p q v a (rw e b))))

pub no_longer : (vs ws : List Value) → EachApart vs → ((v : Value) → Contains vs v → Contains ws v)
    → length vs ≤ length ws
no_longer vs ws apart there = length-le_from_is_member same_laws vs ws (distinct vs apart)
    (λ v h. (is_member-Decides Decides-same ws v).1 (there v ((is_member-Decides Decides-same vs v).0 h)))

pub each_count_is_one : EachCountIsOne
each_count_is_one nfa kind n m a = (
  λ b.
      let up = no_longer a.0 b.0 a.1 (λ v h. (b.3 v).1 ((a.3 v).0 h)) in
      let down = no_longer b.0 a.0 b.1 (λ v h. (a.3 v).1 ((b.3 v).0 h)) in omega arith,
  λ b. let down = no_longer b.0 a.0 b.1 (λ v h. (a.3 v).1 (b.3 v h)) in omega arith,
)
