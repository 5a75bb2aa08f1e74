-- The values of a chain record what the walk over positions records.
-- Main statements: value_at, recorded_by, reopened_by, states_at_is, patterns_at_is, chain_is.
-- Used by: WalkOfRuns, ReturnedWalk.
-- Idea: induction over the positions, with WorkingLists for one step.
use Rattle.determinize_core.proofs.Common.{[], add-one, after_at, ap, arith, before_at, begun, Bool, byte_edges, chain}
use Rattle.determinize_core.proofs.Common.{flat_map, future, get_or, get_or_from_slice_get, is_capture, is_match}
use Rattle.determinize_core.proofs.Common.{is_nonempty, IsAccepted, IsTested, known_edges, length, List, map, MatchKind}
use Rattle.determinize_core.proofs.Common.{member, nat_eq, nat_tests, Nfa, None, not, Option, part_read, patterns_of}
use Rattle.determinize_core.proofs.Common.{patterns_read, range_with_len, recorded, refl, same_decides, slice_get}
use Rattle.determinize_core.proofs.Common.{slice_get-get_or, slice_get_past, slice_get_within, Some, start_value, step}
use Rattle.determinize_core.proofs.Common.{suc, tables_of, target, Text, true, true_edges, truth, Value, without}
use Rattle.determinize_core.proofs.Common.{working_list, zero, ℕ, ◌+◌, ◌<◌, ◌∷◌, ◌≡◌, ◌≤◌}
use Rattle.determinize_below.proofs.nfas.SoundNfa.{accepted_sound}
use Rattle.determinize_below.proofs.nfas.Edges.{edges-same, match-capture, patterns-without, target-capture, target-end}
use Rattle.determinize_below.proofs.looks.LookSets.{has-empty}
use Rattle.ordered_reach.proofs.lists.NewNodes.{member-filter}
use Rattle.ordered_reach.proofs.lists.Pieces.{before-without, flat_map-without, flat_map_none}
use Rattle.determinize_below.specs.Edges.{reach}
use Rattle.determinize_below.specs.Look.{has}
use Rattle.determinize_below.specs.Reached.{known}
use Rattle.determinize_below.specs.declared.look.Look.{Look as Assertion}
use Rattle.determinize_start.specs.LookTables.{from_word_after, from_word_at_start, half_crlf_after, half_crlf_at_start}
use Rattle.determinize_start.specs.LookTables.{have_after, have_at_start}
use Rattle.determinize_start.proofs.kinds.StartKinds.{from_word-same, half_crlf-same}
use Rattle.determinize_start.proofs.tables.TrueTables.{have_after_known, start_known}
use Rattle.determinize_core.proofs.step.WorkingLists.{fuel, IsEntered, listing, reach_is, working_is}
use Rattle.std.proofs.lemmas.List.FromFn.{get_or-map-range_with_len, length-map-range_with_len}
use Rattle.ordered_reach.proofs.runs.CutLists as levels

nonempty_member : (xs : List ℕ) (s : ℕ) → member nat_eq xs s ≡ true → is_nonempty xs ≡ true
nonempty_member xs s m = grind arith

-- captures do not change the targets of what is read of a list
targets-without : (nfa : Nfa) (kind : MatchKind) (u : Option ℕ) (xs : List ℕ)
    → flat_map (target nfa u) (part_read kind (is_match nfa) (without (is_capture nfa) xs))
    ≡ flat_map (target nfa u) (part_read kind (is_match nfa) xs)
targets-without nfa kind u xs =
    grind (arith, before-without, flat_map-without, target-capture nfa u, match-capture nfa)

-- what the walk over positions records
abbrev pub recorded_by : Nfa → MatchKind → ℕ → Text → ℕ → List ℕ
recorded_by nfa kind s text k =
    levels.recorded_by nat_eq (known_edges nfa text) (true_edges nfa text) (byte_edges nfa text) (is_capture nfa)
    (part_read kind (is_match nfa)) (fuel nfa (length text.bytes)) s k

-- the reopened search at a position
abbrev pub reopened_by : Nfa → MatchKind → ℕ → Text → ℕ → List ℕ
reopened_by nfa kind s text k =
    listing nfa (length text.bytes) (truth nfa (before_at text k) (after_at text k)) (recorded_by nfa kind s text k)

-- the closure under a set that has, of the assertions of the NFA, those that are known
recorded_entered : (nfa : Nfa) (accepted : IsAccepted nfa) (m : ℕ) (b : Option ℕ) (w h : Bool) (have : ℕ)
    (ps roots : List ℕ) → ((l : Assertion) → IsTested nfa l → has have l ≡ known nfa b l)
    → ((s : ℕ) → member nat_eq (reach nfa (has have) roots) s ≡ true
    → (w ≡ from_word_after (tables_of nfa) b) × (h ≡ half_crlf_after (tables_of nfa) b))
    → IsEntered nfa m b (recorded nfa (begun w h have ps) (reach nfa (has have) roots)) roots
recorded_entered nfa accepted m b w h have ps roots k f = record {
  states = rw (reach_is nfa (accepted_sound nfa accepted) m, edges-same nfa (has have) (known nfa b) k);
  need = refl;
  have = λ a n l q. grind (arith, nat_tests, has-empty a, k l q);
  flags = λ s i. f s (member-filter same_decides (λ x. not (is_capture nfa x)) (reach nfa (has have) roots) s i);
}

module _ (nfa : Nfa) (kind : MatchKind) (s : ℕ) (text : Text) where
  -- the value at each place
  abbrev pub value_at : ℕ → Value
  value_at zero = start_value nfa s text.behind
  value_at (suc k) = step nfa kind (value_at k) (after_at text k)

  -- the roots of its search
  abbrev roots_at : ℕ → List ℕ
  roots_at zero = s ∷ []
  roots_at (suc k) =
      flat_map (byte_edges nfa text k)
      (part_read kind (is_match nfa) (working_list nfa (value_at k) (after_at text k)))

  values_from : (n k : ℕ) → future nfa kind (value_at k) (map (after_at text) (range_with_len k n))
      ≡ map value_at (range_with_len k (suc n))
  values_from zero k = refl
  values_from (suc n) k = rw (add-one k) (ap (λ vs. value_at k ∷ vs) (values_from n (suc k)))

  pub chain_is : chain nfa kind s text ≡ map value_at (range_with_len 0 (suc (suc (length text.bytes))))
  unfolding chain
  chain_is = values_from (suc (length text.bytes)) 0

  pub length-chain : length (chain nfa kind s text) ≡ length text.bytes + 2
  length-chain = rw (chain_is, length-map-range_with_len) (omega arith)

  -- an item of a chain is the value of its place
  pub chain_item : (j : ℕ) (v : Value) → slice_get (chain nfa kind s text) j ≡ Some v
      → (j < length text.bytes + 2) × (value_at j ≡ v)
  chain_item j v h = grind (
    arith,
    slice_get_within _ j v h,
    length-chain,
    rw chain_is at (get_or_from_slice_get _ j v v h),
    get_or-map-range_with_len value_at 0 (suc (suc (length text.bytes))) j j v,
  )

  -- no state is recorded after EOI
  pub states_last : text.ahead ≡ None → (value_at (suc (length text.bytes))).states ≡ []
  unfolding step reach
  states_last e =
      grind (arith, e, slice_get_past text.bytes (length text.bytes), flat_map_none (target nfa None), target-end nfa)

  module _ (accepted : IsAccepted nfa) where
    entered_at : (k : ℕ) → k ≤ length text.bytes
        → IsEntered nfa (length text.bytes) (before_at text k) (value_at k) (roots_at k)
    unfolding step
    entered_at zero l = recorded_entered nfa accepted (length text.bytes) text.behind
        (from_word_at_start (tables_of nfa) text.behind) (half_crlf_at_start (tables_of nfa) text.behind)
        (have_at_start (tables_of nfa) text.behind) [] (s ∷ []) (start_known nfa accepted text.behind)
        (λ x i. (from_word-same (tables_of nfa) text.behind, half_crlf-same (tables_of nfa) text.behind))
    entered_at (suc k) l = rw (slice_get-get_or text.bytes k 0 l)
        (recorded_entered nfa accepted (length text.bytes) _ _ _ (have_after (tables_of nfa) _) _ _
        (have_after_known nfa accepted (get_or text.bytes k 0)) (λ s i. rw (nonempty_member _ s i) (refl, refl)))

    -- captures aside, the working list is the reopened search at the position
    working_at : (k : ℕ) → k ≤ length text.bytes → (value_at k).states ≡ recorded_by nfa kind s text k
        → without (is_capture nfa) (working_list nfa (value_at k) (after_at text k))
        ≡ without (is_capture nfa) (reopened_by nfa kind s text k)
    working_at k l e = rw (← e) (working_is nfa accepted (length text.bytes) (before_at text k) (after_at text k)
        (value_at k) (roots_at k) (entered_at k l))

    pub states_at_is : (k : ℕ) → k ≤ length text.bytes → (value_at k).states ≡ recorded_by nfa kind s text k
    states_at_is zero l = (entered_at 0 l).states
    states_at_is (suc k) l =
        let e = working_at k (omega arith) (states_at_is k (omega arith)) in
        let same = targets-without nfa kind (slice_get text.bytes k) in
        rw ((entered_at (suc k) l).states, ← same, e, same)

    -- the patterns of a value are those of what was reached at the position before its unit
    pub patterns_at_is : (k : ℕ) → k ≤ length text.bytes
        → (value_at (suc k)).patterns ≡ patterns_read kind (patterns_of nfa (reopened_by nfa kind s text k))
    unfolding step
    patterns_at_is k l = grind (arith, patterns-without nfa, working_at k l (states_at_is k l))
