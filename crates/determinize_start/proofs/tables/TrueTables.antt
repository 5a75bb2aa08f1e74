-- The look-behind of a valid NFA, for the assertions that its states test.
-- Main statements: known_truth, opened_truth, have_after_known.
-- Used by: the steps and the walk of `determinize_core`.
-- Idea: sets need to agree on the assertions of the NFA only.
use Rattle.determinize_start.proofs.Common.{has, Option, Some, true, ℕ, ◌≡◌, Nfa, known-holds, tables_of, opened, have_after, from_word_after, half_crlf_after, have_at_start}
use Rattle.std.proofs.Common.{◌||◌}
use Rattle.determinize_below.specs.Edges.{IsTested}
use Rattle.determinize_below.specs.Positions.{truth}
use Rattle.determinize_below.specs.Nfa.{IsAccepted}
use Rattle.determinize_below.specs.Reached.{known}
use Rattle.determinize_below.specs.declared.look.Look.{Look as Assertion}
use Rattle.determinize_below.proofs.nfas.TestedLooks.{Decides-look_set_any}
use Rattle.determinize_start.proofs.kinds.StartKinds.{has-have_at_start}
use Rattle.determinize_start.proofs.tables.StepTables.{has-have_after, IsFlagged-after, known_or_opened_any}

-- an assertion satisfied by the look-behind holds before any unit
pub known_truth : (nfa : Nfa) (p q : Option ℕ) (look : Assertion) → known nfa p look ≡ true → truth nfa p q look ≡ true
unfolding known
known_truth nfa p q look h = known-holds nfa.reverse nfa.terminator p q look h

module _ (nfa : Nfa) (accepted : IsAccepted nfa) where
  -- an assertion that some state tests is in the set of all
  tested_in : (look : Assertion) → IsTested nfa look → has nfa.look_set_any look ≡ true
  tested_in look h = (Decides-look_set_any nfa accepted look).1 h

  -- an assertion holds if and only if the look-behind or the unit satisfies it
  pub opened_truth : (p q : Option ℕ) (look : Assertion) → IsTested nfa look
      → (known nfa p look || opened (tables_of nfa) (from_word_after (tables_of nfa) p)
      (half_crlf_after (tables_of nfa) p) q look) ≡ truth nfa p q look
  unfolding known
  opened_truth p q look tested =
      known_or_opened_any (tables_of nfa) p _ _ q look (IsFlagged-after (tables_of nfa) p) (tested_in look tested)

  -- look-have after a byte
  pub have_after_known : (b : ℕ) (look : Assertion) → IsTested nfa look
      → has (have_after (tables_of nfa) (Some b)) look ≡ known nfa (Some b) look
  unfolding known
  have_after_known b look tested = has-have_after (tables_of nfa) b look (tested_in look tested)

  -- look-have at a start
  pub start_known : (p : Option ℕ) (look : Assertion) → IsTested nfa look
      → has (have_at_start (tables_of nfa) p) look ≡ known nfa p look
  unfolding known
  start_known p look tested = has-have_at_start (tables_of nfa) p look (tested_in look tested)
