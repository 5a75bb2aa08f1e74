-- How many states a reversed NFA has.
-- Main statements: count-arc, length-states, most, room_arc, room, over the record IsOver.
-- Used by: Validation, and `add_node`, `add_nodes` and `reversed` of the module `reversal`.
-- Idea: each reached state adds the number that `reads_in` counts, and each state is reached once.
use Rattle.determinize_nfa.proofs.Common.{Arc, BuildError, Dense, Fail, Free, ID_LIMIT, IsDistinct, IsTooLarge, List}
use Rattle.determinize_nfa.proofs.Common.{Look, Match, Nfa, Node, Range, Some, Sparse, Test, Transition, Turned, Union}
use Rattle.determinize_nfa.proofs.Common.{[], added, ap, arcs_of, arith, by_cases, eq-eqb, false, false≢true, gathered}
use Rattle.determinize_nfa.proofs.Common.{get_or, get_or-set_other, inl, inr, length, length-append, length-map}
use Rattle.determinize_nfa.proofs.Common.{length-replicate, length-set, map, most_states, nat_eq, none_turned, range_to}
use Rattle.determinize_nfa.proofs.Common.{refl, replicate, reversed, runs, set, slice_get, sources, state_at, states_of}
use Rattle.determinize_nfa.proofs.Common.{suc, sym, total, turned_over, with_arc, with_arcs, with_end, with_reversed}
use Rattle.determinize_nfa.proofs.Common.{with_all_reversed, zero, ℕ, ◌++◌, ◌+◌, ◌<◌, ◌∙◌, ◌∷◌, ◌≡◌, ◌≤◌}
use Rattle.std.specs.List.{AllByRecursion, sum_by}
use Rattle.std.proofs.lemmas.List.Sums.{sum_by-cons}
use Rattle.determinize_nfa.proofs.kinds.TableRuns.{length-runs}
use Rattle.determinize_nfa.specs.Reversal.{reads_in}
use Rattle.std.proofs.lemmas.Map.Keys.{IsDistinct-head, IsDistinct-tail}
use Rattle.determinize_nfa.proofs.prefixes.Parts.{state_is}
use Rattle.determinize_nfa.specs.Private.Turning.{IsTurnedOver}

-- there is one list for each state
pub count-arc : (s : ℕ) (arc : Arc) (h : Turned) → length (with_arc h s arc).into ≡ length h.into
count-arc s (Range r) h = length-set h.into r.next (sources h r.next ++ (length h.into + 2 + length h.rest) ∷ [])
count-arc s (Test look next) h = length-set h.into next (sources h next ++ (length h.into + 2 + length h.rest) ∷ [])
count-arc s (Free next) h = length-set h.into next (sources h next ++ s ∷ [])

pub count-arcs : (s : ℕ) (arcs : List Arc) (h : Turned) → length (with_arcs h s arcs).into ≡ length h.into
count-arcs s [] h = refl
count-arcs s (arc ∷ arcs) h = count-arcs s arcs (with_arc h s arc) ∙ count-arc s arc h

count-end : (s : ℕ) (node : Node) (h : Turned) → length (with_end h s node).into ≡ length h.into
count-end s (Match pattern) h = refl
count-end s node h = refl

count-node : (s : ℕ) (node : Node) (h : Turned) → length (with_reversed h s node).into ≡ length h.into
count-node s node h = count-end s node (with_arcs h s (arcs_of node)) ∙ count-arcs s (arcs_of node) h

pub count-none : (nfa : Nfa)
    → length (added (none_turned (length nfa.states)) nfa.start_anchored (length nfa.states)).into ≡ length nfa.states
count-none nfa = length-set (replicate (length nfa.states) []) nfa.start_anchored _
    ∙ length-replicate (length nfa.states) []

-- how many states a transition adds
abbrev reads : Arc → ℕ
reads (Free next) = 0
reads a = 1

total_arc : (s : ℕ) (a : Arc) (h : Turned) → total (with_arc h s a) ≡ total h + reads a
total_arc s (Range r) h = omega (arith, count-arc s (Range r) h, length-append h.rest (range_to s r ∷ []))
total_arc s (Test look next) h =
    omega (arith, count-arc s (Test look next) h, length-append h.rest (Look (reversed look) s ∷ []))
total_arc s (Free next) h = omega (arith, count-arc s (Free next) h)

total_arcs : (s : ℕ) (arcs : List Arc) (h : Turned) → total (with_arcs h s arcs) ≡ total h + sum_by reads arcs
total_arcs s [] h = omega arith
total_arcs s (a ∷ arcs) h = omega (arith, total_arcs s arcs (with_arc h s a), total_arc s a h, sum_by-cons reads a arcs)

total_end : (s : ℕ) (node : Node) (h : Turned) → total (with_end h s node) ≡ total h
total_end s (Match pattern) h = refl
total_end s node h = refl

reads_ranges : (rs : List Transition) → sum_by reads (map Range rs) ≡ length rs
reads_ranges [] = refl
reads_ranges (r ∷ rs) = omega (arith, reads_ranges rs, sum_by-cons reads (Range r) (map Range rs))

reads_frees : (ids : List ℕ) → sum_by reads (map Free ids) ≡ 0
reads_frees [] = refl
reads_frees (id ∷ ids) = omega (arith, reads_frees ids, sum_by-cons reads (Free id) (map Free ids))

reads_arcs : (node : Node) → sum_by reads (arcs_of node) ≡ reads_in node
reads_arcs (Sparse rs) = reads_ranges rs
reads_arcs (Dense ids) = reads_ranges (runs 0 0 ids) ∙ length-runs ids 0 0
reads_arcs (Union ids) = reads_frees ids
reads_arcs s = refl

total_nodes : (nfa : Nfa) (ss : List ℕ) (h : Turned)
    → total (with_all_reversed nfa h ss) ≡ total h + sum_by (λ s. reads_in (get_or nfa.states s Fail)) ss
total_nodes nfa [] h = omega arith
total_nodes nfa (s ∷ ss) h =
    let node = state_at nfa s in
    omega (
      arith,
      total_arcs s (arcs_of node) h,
      total_end s node (with_arcs h s (arcs_of node)),
      reads_arcs node,
      total_nodes nfa ss (with_reversed h s node),
      sum_by-cons (λ s. reads_in (get_or nfa.states s Fail)) s ss,
    )

-- a sum over distinct places of a list is at most that over the list
module _ (f : Node → ℕ) (none : f Fail ≡ 0) where
  sum_by-set : (xs : List Node) (s : ℕ) → f (get_or xs s Fail) + sum_by f (set xs s Fail) ≡ sum_by f xs
  sum_by-set [] s = omega (arith, none)
  sum_by-set (x ∷ xs) zero = omega (arith, sum_by-cons f x xs, sum_by-cons f Fail xs, none)
  sum_by-set (x ∷ xs) (suc s) = omega (arith, sum_by-cons f x xs, sum_by-cons f x (set xs s Fail), sum_by-set xs s)

  sum_by-same : (ss : List ℕ) (s : ℕ) (xs : List Node) → AllByRecursion (λ t. nat_eq s t ≡ false) ss
      → sum_by (λ t. f (get_or (set xs s Fail) t Fail)) ss ≡ sum_by (λ t. f (get_or xs t Fail)) ss
  sum_by-same [] s xs d = refl
  sum_by-same (t ∷ ss) s xs d =
      let e : f (get_or (set xs s Fail) t Fail) ≡ f (get_or xs t Fail)
      = ap f (get_or-set_other xs s t Fail Fail (λ z. false≢true (sym d.0 ∙ eq-eqb s t (sym z)))) in
      omega (
        arith,
        sum_by-cons (λ t. f (get_or (set xs s Fail) t Fail)) t ss,
        sum_by-cons (λ t. f (get_or xs t Fail)) t ss,
        e,
        sum_by-same ss s xs d.1,
      )

  sum_by-places : (ss : List ℕ) (xs : List Node) → IsDistinct nat_eq ss
      → sum_by (λ t. f (get_or xs t Fail)) ss ≤ sum_by f xs
  sum_by-places [] xs d = omega arith
  sum_by-places (s ∷ ss) xs d =
      omega (
        arith,
        sum_by-cons (λ t. f (get_or xs t Fail)) s ss,
        sum_by-set xs s,
        sum_by-same ss s xs (IsDistinct-head nat_eq s ss d),
        sum_by-places ss (set xs s Fail) (IsDistinct-tail nat_eq s ss d),
      )

-- there is a state for each range and each assertion of the states of the list, and no other
pub total_turned : (nfa : Nfa) (met : List ℕ) → IsDistinct nat_eq met → total (turned_over nfa met) ≤ most_states nfa
total_turned nfa met d =
    omega (
      arith,
      total_nodes nfa met (added (none_turned (length nfa.states)) nfa.start_anchored (length nfa.states)),
      count-none nfa,
      sum_by-places reads_in refl met nfa.states d,
    )

-- the number of states of a reversed NFA
pub length-states : (h : Turned) → length (states_of h) ≡ total h
length-states h =
    omega (arith, length-append (map gathered h.into) (Match 0 ∷ Union h.ends ∷ h.rest), length-map h.into gathered)

pub most : (nfa : Nfa) (h : Turned) (over : IsTurnedOver nfa h) → length (states_of h) ≤ most_states nfa
most nfa h over =
    let e : total (turned_over nfa over.met) ≡ total h = ap total over.is in
    omega (arith, length-states h, e, total_turned nfa over.met over.distinct)

-- there is room for the next transition of a state
pub room_arc : (s : ℕ) (node : Node) (a : Arc) (left arcs : List Arc) (old h : Turned)
    → with_arcs old s (arcs_of node) ≡ with_arcs h s left → left ≡ a ∷ arcs
    → total (with_arc h s a) ≤ total (with_reversed old s node)
room_arc s node a left arcs old h w e =
    let b : total (with_arcs old s (arcs_of node)) ≡ total (with_arcs (with_arc h s a) s arcs) = ap total (rw e at w) in
    omega (arith, b, total_arcs s arcs (with_arc h s a), total_end s node (with_arcs old s (arcs_of node)))

-- the states of a list, one by one: those that are left
pub record IsOver (nfa : Nfa) (whole h : Turned) (left : List ℕ) : Type 0 where
  pub count : length h.into ≡ length nfa.states
  pub rest : whole ≡ with_all_reversed nfa h left

pub over_more : (nfa : Nfa) (whole h : Turned) (s : ℕ) (all left : List ℕ) (node : Node) → IsOver nfa whole h all
    → all ≡ s ∷ left → slice_get nfa.states s ≡ Some node → IsOver nfa whole (with_reversed h s node) left
over_more nfa whole h s all left node o e n = record {
  count = count-node s node h ∙ o.count;
  rest = rw (e, state_is nfa s node n) at o.rest;
}

-- and for the states that are left
pub room : (nfa : Nfa) (met left : List ℕ) (h : Turned) → IsDistinct nat_eq met
    → IsOver nfa (turned_over nfa met) h left → total h ≤ most_states nfa
room nfa met left h d o =
    let e : total (turned_over nfa met) ≡ total (with_all_reversed nfa h left) = ap total o.rest in
    omega (arith, e, total_nodes nfa left h, total_turned nfa met d)

pub larger : (m n : ℕ) (e : BuildError) → m ≤ n → IsTooLarge m e → IsTooLarge n e
larger m n e l f = by_cases f inl (λ k. let j : ID_LIMIT < m = k.1 in inr (k.0, omega arith))
