-- The states of each value of a walk are states of the NFA.
-- Main statements: start_resolves, targets_resolve, targets_within, step_resolves, is-start_of.
-- Used by: ReturnedWalk, StepBound, `start_state_of`, `transition`, and the cache.
-- Idea: edges and targets of a valid NFA go to its states.
use Rattle.determinize_core.proofs.Common.{[], accepted_sound, All-from_member, AllResolve, ap, arith, Assertion, begun}
use Rattle.determinize_core.proofs.Common.{Bool, eqb-true, has, have_after, is_capture, is_match, IsAccepted}
use Rattle.determinize_core.proofs.Common.{length, List, MatchKind, member, nat_eq, Nfa, not, Option, part_read, reach}
use Rattle.determinize_core.proofs.Common.{recorded, same_decides, start_value, step, sym, tables_of, target, targets}
use Rattle.determinize_core.proofs.Common.{true, Value, without, working_list, ℕ, ◌<◌, ◌∷◌, ◌≡◌}
use Rattle.determinize_below.proofs.nfas.SoundNfa.{reach_within, target_within}
use Rattle.ordered_reach.proofs.lists.NewNodes.{flat_map-member, member-filter}
use Rattle.std.proofs.Common.{All as Each}
use Rattle.ordered_reach.proofs.Cases.{or_false}
use Rattle.determinize_core.specs.Step.{IsStartOf}
use Rattle.determinize_start.specs.LookTables.{from_word_at_start, half_crlf_at_start, have_at_start, start_from_word}
use Rattle.determinize_start.specs.LookTables.{start_half_crlf, start_have}
use Rattle.determinize_start.specs.declared.start.Start.{Start as Kind}

module _ (nfa : Nfa) (accepted : IsAccepted nfa) where
  entered_resolve : (holds : Assertion → Bool) (roots : List ℕ)
      → ((r : ℕ) → member nat_eq roots r ≡ true → r < length nfa.states)
      → AllResolve nfa (without (is_capture nfa) (reach nfa holds roots))
  entered_resolve holds roots h =
      All-from_member same_decides (λ id. id < length nfa.states) _ (λ x m.
      reach_within nfa (accepted_sound nfa accepted) holds roots h x
      (member-filter same_decides (λ y. not (is_capture nfa y)) (reach nfa holds roots) x m))

  -- the states that one state reaches
  pub closure_resolves : (holds : Assertion → Bool) (s : ℕ) → s < length nfa.states
      → Each (λ id. id < length nfa.states) (without (is_capture nfa) (reach nfa holds (s ∷ [])))
  closure_resolves holds s l = entered_resolve holds (s ∷ [])
      (λ r k. let e : s ≡ r = eqb-true s r (or_false (nat_eq s r) k) in omega arith)

  -- the value before the first unit, of a search that starts in a state of the NFA
  pub start_resolves : (s : ℕ) (p : Option ℕ) → s < length nfa.states
      → Each (λ id. id < length nfa.states) (start_value nfa s p).states
  start_resolves s p l = closure_resolves (has (have_at_start (tables_of nfa) p)) s l

  -- the targets that a step enters
  pub targets_resolve : (kind : MatchKind) (v : Value) (u : Option ℕ) (r : ℕ)
      → member nat_eq (targets nfa kind v u) r ≡ true → r < length nfa.states
  targets_resolve kind v u r m =
      flat_map-member same_decides (target nfa u) (part_read kind (is_match nfa) (working_list nfa v u)) r m
      (λ s l z. target_within nfa accepted u s r z)

  pub targets_within : (kind : MatchKind) (v : Value) (u : Option ℕ) → AllResolve nfa (targets nfa kind v u)
  targets_within kind v u = All-from_member same_decides (λ id. id < length nfa.states) _ (targets_resolve kind v u)

  -- the value after a unit
  pub step_resolves : (kind : MatchKind) (v : Value) (u : Option ℕ)
      → Each (λ id. id < length nfa.states) (step nfa kind v u).states
  unfolding step
  step_resolves kind v u =
      entered_resolve (has (have_after (tables_of nfa) u)) (targets nfa kind v u) (targets_resolve kind v u)

-- the value before the first unit for a kind of start
abbrev pub kind_value : Nfa → ℕ → Kind → Value
kind_value nfa s k = recorded nfa (begun (start_from_word (tables_of nfa) k) (start_half_crlf (tables_of nfa) k)
    (start_have (tables_of nfa) k) []) (reach nfa (has (start_have (tables_of nfa) k)) (s ∷ []))

-- it is that for each byte of the kind
pub is-start_of : (nfa : Nfa) (s : ℕ) (k : Kind) → IsStartOf nfa s k (kind_value nfa s k)
unfolding have_at_start from_word_at_start half_crlf_at_start
is-start_of nfa s k p e = ap (λ k. kind_value nfa s k) (sym e)
