-- The values of a chain against whole runs: the theorem.
-- Main statements: walk_of_all, leftmost_walk, each_chain_reaches, walk_laws.
-- Used by: ReturnedWalk, Farthest, `walk_law`, and searches.
-- Idea: an NFA over a text is an automaton over numbers, so Automata applies.
use Rattle.determinize_core.proofs.Common.{[], Accepts, add-one, after_at, All, arith, before_at, byte_edges, chain}
use Rattle.determinize_core.proofs.Common.{choices, Contains, ended_at, flat_map-append, HalfMatch, is_capture}
use Rattle.determinize_core.proofs.Common.{is_match, IsAccepted, IsBeginning, IsLeftmostWalk, IsPreferredMatch}
use Rattle.determinize_core.proofs.Common.{IsWalkOfAll, known_edges, last_ended, last_match, LeftmostFirst, length}
use Rattle.determinize_core.proofs.Common.{List, lists_of, ListsAccepted, map, Match, MatchKind, Nfa, None, Option}
use Rattle.determinize_core.proofs.Common.{pattern_of, patterns_of, placed, range_with_len, refl, same_decides}
use Rattle.determinize_core.proofs.Common.{slice_get, slice_get_past, Some, state_at, suc, sym, take, Text, true}
use Rattle.determinize_core.proofs.Common.{true_edges, true≢false, truth, unwrap_or, Value, zero, ℕ, ◌+◌, ◌∙◌, ◌∷◌, ◌≡◌}
use Rattle.determinize_core.proofs.Common.{◌≤◌}
use Rattle.determinize_below.proofs.nfas.SoundNfa.{accepted_sound}
use Rattle.ordered_reach.proofs.lists.Elements.{Contains_In, In_append_left, In_Contains, In_take_one}
use Rattle.determinize_below.proofs.nfas.Edges.{edges-capture, edges-more, match-capture, next_of, patterns-without}
use Rattle.determinize_below.proofs.nfas.Edges.{target-capture, target-end}
use Rattle.determinize_start.proofs.tables.TrueTables.{known_truth}
use Rattle.ordered_reach.proofs.lists.Pieces.{map-option_or}
use Rattle.std.specs.List.{find}
use Rattle.std.specs.Option.{option_map}
use Rattle.determinize_below.specs.Reached.{known}
use Rattle.ordered_reach.proofs.lists.Prefixes.{Beginning-ordered}
use Rattle.ordered_reach.proofs.runs.CutLists.{last_accepting}
use Rattle.ordered_reach.proofs.runs.MostPreferred.{IsMostPreferred}
use Rattle.ordered_reach.proofs.runs.Automata.{IsTrueWalk, true_walk}
use Rattle.determinize_core.specs.Laws.{EachChainReaches}
use Rattle.determinize_core.proofs.walk.ValueWalks.{all_listed, FindsLeftmost, leftmost_listed, ListsAll}
use Rattle.determinize_core.specs.WalkStates.{IsPartKept}
use Rattle.determinize_core.proofs.walk.AcceptedPatterns.{lists_accepted, matches_at}
use Rattle.determinize_core.proofs.walk.WalkValues.{chain_is, chain_item, length-chain, patterns_at_is, recorded_by}
use Rattle.determinize_core.proofs.walk.WalkValues.{reopened_by, states_at_is, states_last, value_at}

module _ (nfa : Nfa) where
  -- a position as the end of a match, with the pattern of the state there
  abbrev pub named : ℕ × ℕ → HalfMatch
  named q = record { pattern = unwrap_or (pattern_of nfa q.1) 0; offset = q.0 }

  -- a state that matches
  match_at : (s : ℕ) → is_match nfa s ≡ true → state_at nfa s ≡ Match (unwrap_or (pattern_of nfa s) 0)
  match_at s e = grind arith

  first-named : (k : ℕ) (xs : List ℕ) → ended_at k (take 1 (patterns_of nfa xs))
      ≡ option_map named (option_map (placed k) (find (is_match nfa) xs))
  first-named k [] = refl
  first-named k (z ∷ xs) = grind (arith, first-named k xs)

  last_named : (value : ℕ → Value) (lists : ℕ → List ℕ) (d k : ℕ)
      → ((j : ℕ) → j ≤ k + d → (value (suc j)).patterns ≡ take 1 (patterns_of nfa (lists j)))
      → last_ended k (map value (range_with_len (suc k) (suc d)))
      ≡ option_map named (last_accepting lists (is_match nfa) d k)
  last_named value lists zero k h = rw (h k (omega arith)) (first-named k (lists k))
  last_named value lists (suc d) k h =
      let later = last_named value lists d (suc k) (λ j l. h j (omega arith)) in
      rw (add-one (suc k), later, h k (omega arith), first-named k (lists k)) (sym (map-option_or named _ _))

module _ (nfa : Nfa) (accepted : IsAccepted nfa) (start : ℕ) (text : Text) where
  walk : IsTrueWalk (length nfa.states) (length text.bytes) (known_edges nfa text) (true_edges nfa text)
      (byte_edges nfa text) (is_capture nfa) (is_match nfa) start
  walk = true_walk _ _ _ _ _ _ _ (next_of nfa) start (record {
    within = λ i. (accepted_sound nfa accepted).resolves (truth nfa (before_at text i) (after_at text i));
    fewer = λ i s x. edges-more nfa (known nfa (before_at text i)) (truth nfa (before_at text i) (after_at text i)) s x
        (known_truth nfa (before_at text i) (after_at text i));
    ends = λ i s l. rw (slice_get_past text.bytes i l) (target-end nfa s);
    cap_known = λ i. edges-capture nfa (known nfa (before_at text i));
    cap_eps = λ i. edges-capture nfa (truth nfa (before_at text i) (after_at text i));
    cap_bytes = λ i. target-capture nfa (slice_get text.bytes i);
    cap_acc = match-capture nfa;
  })

  -- the patterns of what runs reach
  listed_at : (i : ℕ) → ListsAccepted nfa text start i (patterns_of nfa (reopened_by nfa All start text i))
  listed_at i = rw patterns-without at
      (lists_accepted nfa (accepted_sound nfa accepted) text start i _ (walk.reached i))

  pub walk_of_all : ListsAll nfa start text (chain nfa All start text)
  walk_of_all = record {
    count = length-chain nfa All start text;
    matches = λ i v h. let r = chain_item nfa All start text (suc i) v h in
        rw (← r.1, patterns_at_is nfa All start text accepted i (omega (arith, r.0))) (listed_at i);
  }

  -- the last accepting state of the cut lists
  abbrev last_cut : Option (ℕ × ℕ)
  last_cut = last_accepting (reopened_by nfa LeftmostFirst start text) (is_match nfa) (length text.bytes) 0

  last_match_is : last_match (chain nfa LeftmostFirst start text) ≡ option_map (named nfa) last_cut
  last_match_is = rw chain_is (last_named nfa (value_at nfa LeftmostFirst start text)
      (reopened_by nfa LeftmostFirst start text) (length text.bytes) 0
      (λ j l. patterns_at_is nfa LeftmostFirst start text accepted j (omega arith)))

  preferred_of : (o : Option (ℕ × ℕ)) → last_cut ≡ o → IsPreferredMatch nfa start text (option_map (named nfa) o)
  preferred_of None e =
      λ cs i pattern a. true≢false (sym (matches_at nfa a.0 pattern a.2) ∙ walk.none e cs (i, a.0) a.1)
  preferred_of (Some q) e =
      let h : IsMostPreferred (choices nfa text) (0, start) (λ r. is_match nfa r.1) q = walk.preferred q e in (
        h.choices,
        record {
          accepts = (q.1, h.run, match_at nfa q.1 h.accepted);
          preferred = λ ds j other a. h.preferred ds (j, a.0) a.1 (matches_at nfa a.0 other a.2);
        },
      )

  -- the first pattern of a cut list is accepted by some run
  first_accepted : (i x : ℕ) → Contains (take 1 (patterns_of nfa (reopened_by nfa LeftmostFirst start text i))) x
      → (cs : List ℕ) × Accepts nfa text start cs i x
  first_accepted i x c =
      let b : IsBeginning (reopened_by nfa LeftmostFirst start text i) (reopened_by nfa All start text i) =
      Beginning-ordered same_decides _ _ _ _ _ (walk.cut_begins i) in
      ((listed_at i).accepted x).0 (In_Contains same_decides _ x (rw (b.1, flat_map-append)
      (In_append_left x _ (patterns_of nfa b.0) (In_take_one _ x (Contains_In same_decides _ x c)))))

  pub leftmost_walk : FindsLeftmost nfa start text (chain nfa LeftmostFirst start text)
  leftmost_walk = record {
    found = rw last_match_is (preferred_of last_cut refl);
    matches = λ i v h x c. let r = chain_item nfa LeftmostFirst start text (suc i) v h in
        let p = patterns_at_is nfa LeftmostFirst start text accepted i (omega (arith, r.0)) in
        first_accepted i x (rw (← r.1, p) at c);
  }

  pub chain_of_all : IsWalkOfAll nfa start text (lists_of (chain nfa All start text))
  chain_of_all = all_listed nfa start text _ walk_of_all

  pub chain_leftmost : IsLeftmostWalk nfa start text (lists_of (chain nfa LeftmostFirst start text))
  chain_leftmost = leftmost_listed nfa start text _ leftmost_walk

  -- what is recorded at a position is the list that runs reach there, or a prefix of it
  part_kept : (kind : MatchKind) (i : ℕ) → IsPartKept kind (recorded_by nfa kind start text i)
      (recorded_by nfa All start text i)
  part_kept All i = refl
  part_kept LeftmostFirst i = walk.cut_begins i

pub each_chain_reaches : EachChainReaches
each_chain_reaches nfa accepted kind start text = record {
  ids = λ i v l h. let is = states_at_is nfa kind start text accepted i l in (
    recorded_by nfa All start text i,
    (walk nfa accepted start text).recorded_reached i,
    rw (← (chain_item nfa kind start text i v h).1, is) (part_kept nfa accepted start text kind i),
  );
  last = λ e v h. rw (← (chain_item nfa kind start text (suc (length text.bytes)) v h).1)
      (states_last nfa kind start text e);
}

pub chain-first : (nfa : Nfa) (kind : MatchKind) (start : ℕ) (text : Text)
    → slice_get (lists_of (chain nfa kind start text)) 0 ≡ Some []
unfolding chain
chain-first nfa kind start text = refl

-- all that a walk promises of its values
pub ruleset walk_laws = (chain_of_all, chain_leftmost, length-chain, chain-first, each_chain_reaches)
