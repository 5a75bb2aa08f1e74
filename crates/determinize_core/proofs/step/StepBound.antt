-- A step makes few tries.
-- Main statements: tries_are_few.
-- Used by: `tries_law`, StepParts.
-- Idea: each of two closures tries each state and each epsilon transition at most once.
use Rattle.determinize_core.proofs.Common.{[], accepted_sound, arith, Assertion, Bool, by_test, distinct_states}
use Rattle.determinize_core.proofs.Common.{edge_count, edges, edges_in_all, has, have_after, is_match, is_reopened}
use Rattle.determinize_core.proofs.Common.{IsAccepted, IsSound, joined, length, List, MatchKind, member, nat_eq, Nfa}
use Rattle.determinize_core.proofs.Common.{none_held, opened_by, Option, part_read, reach, same_decides, tables_of}
use Rattle.determinize_core.proofs.Common.{target, targets, tries, tries_again, tries_of, true, Value, working_list, ℕ}
use Rattle.determinize_core.proofs.Common.{◌+◌, ◌<◌, ◌∷◌, ◌≡◌, ◌≤◌}
use Rattle.determinize_below.proofs.nfas.SoundNfa.{ends_within_states, length-reach}
use Rattle.ordered_reach.proofs.graph.FiniteGraphs.{below_member, fresh_below, length-fresh_below}
use Rattle.determinize_below.proofs.nfas.Edges.{length-edges, length-target}
use Rattle.ordered_reach.specs.Reach.{nodes_below}
use Rattle.ordered_reach.proofs.graph.SearchBound.{tries_bound}
use Rattle.ordered_reach.proofs.lists.Pieces.{length-before_le, length-flat_map_le}
use Rattle.determinize_core.specs.Laws.{TriesAreFew}
use Rattle.determinize_core.proofs.step.Resolving.{targets_resolve}

length-read : (kind : MatchKind) (p : ℕ → Bool) (xs : List ℕ) → length (part_read kind p xs) ≤ length xs
length-read kind p xs = grind (arith, length-before_le p xs)

-- a set of all assertions gives the most edges
fewer_edges : (nfa : Nfa) (holds : Assertion → Bool) (xs : List ℕ)
    → edge_count (edges nfa holds) xs ≤ edge_count (edges nfa (λ l. true)) xs
fewer_edges nfa holds [] = omega arith
fewer_edges nfa holds (x ∷ xs) = omega (arith, length-edges nfa holds x, fewer_edges nfa holds xs)

module _ (nfa : Nfa) (sound : IsSound nfa) (holds : Assertion → Bool) (roots : List ℕ)
    (inside : (r : ℕ) → member nat_eq roots r ≡ true → r < length nfa.states) where
  tries_of-bound : tries_of nfa holds roots ≤ length roots + edges_in_all nfa
  unfolding reach
  tries_of-bound =
      let n : ℕ = length nfa.states in omega (
        arith,
        tries_bound same_decides (edges nfa holds) (nodes_below n) (n + 1) [] roots
            (λ x m. below_member n x (ends_within_states nfa sound holds (n + 1) none_held roots inside x m)),
        fewer_edges nfa holds (nodes_below n),
      )

module _ (nfa : Nfa) (accepted : IsAccepted nfa) (v : Value) (u : Option ℕ)
    (inside : (s : ℕ) → member nat_eq v.states s ≡ true → s < length nfa.states) where
  few : length (distinct_states v) ≤ length nfa.states
  few = length-fresh_below (length nfa.states) v.states inside

  working_few : length (working_list nfa v u) ≤ length nfa.states
  working_few = by_test (is_reopened nfa v u)
      (λ e. rw e (length-reach nfa (accepted_sound nfa accepted) _ (distinct_states v)
      (fresh_below (length nfa.states) v.states inside)))
      (λ e. rw e few)

  reopened_few : tries_again nfa v u ≤ length nfa.states + edges_in_all nfa
  reopened_few = by_test (is_reopened nfa v u)
      (λ e. rw e (omega (
        arith,
        few,
        tries_of-bound nfa (accepted_sound nfa accepted) (joined (has v.look_have) (opened_by nfa v u))
            (distinct_states v) (fresh_below (length nfa.states) v.states inside),
      )))
      (λ e. rw e (omega arith))

pub tries_are_few : TriesAreFew
unfolding tries
tries_are_few nfa accepted kind v u inside =
    let read : List ℕ = part_read kind (is_match nfa) (working_list nfa v u) in
    omega (
      arith,
      reopened_few nfa accepted v u inside,
      working_few nfa accepted v u inside,
      tries_of-bound nfa (accepted_sound nfa accepted) (has (have_after (tables_of nfa) u)) (targets nfa kind v u)
          (targets_resolve nfa accepted kind v u),
      length-flat_map_le (target nfa u) read (length-target nfa u),
      length-read kind (is_match nfa) (working_list nfa v u),
    )
