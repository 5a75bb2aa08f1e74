-- One step from a value to the next, over a unit.
use Rattle.std.specs.Prelude.{◌≡◌, ℕ, Bool, not, cond, Option, List, [], ◌∷◌, nat_eq, take}
use mathlib.Core.Bool.{◌&&◌}
use Rattle.std.specs.List.{flat_map, list_any}
use Rattle.determinize_below.specs.declared.look.Look.{Look as Assertion}
use Rattle.determinize_below.specs.declared.search.MatchKind.{MatchKind}
use Rattle.determinize_below.specs.declared.search.MatchKind.TheVariants.{All, LeftmostFirst}
use Rattle.determinize_below.specs.Look.{has, each_look}
use Rattle.determinize_below.specs.Semantics.{Nfa}
use Rattle.determinize_below.specs.Edges.{target, is_match, patterns_of, reach}
use Rattle.ordered_reach.specs.Reach.{fresh, joined, none_held}
use Rattle.ordered_reach.specs.Runs.{before}
use Rattle.determinize_start.specs.LookTables.{tables_of, start_have, start_from_word, start_half_crlf, opened, have_after, from_word_after, half_crlf_after, have_at_start, from_word_at_start, half_crlf_at_start}
use Rattle.determinize_start.specs.StartKinds.{start_kind_of}
use Rattle.determinize_start.specs.declared.start.Start.{Start as Kind}
use Rattle.determinize_state.specs.Recording.{recorded}
use Rattle.determinize_state.specs.Value.{Value, is_nonempty, with_flags, with_looks}

-- a value without NFA states
abbrev pub begun : Bool → Bool → ℕ → List ℕ → Value
begun from_word half_crlf have patterns = record {
  from_word = from_word;
  half_crlf = half_crlf;
  look_have = have;
  look_need = 0;
  patterns = patterns;
  states = [];
}

-- the value with the look-behind of a start kind
abbrev pub with_start : Nfa → Kind → Value → Value
with_start nfa kind v =
    with_flags
    (with_looks v (start_have (tables_of nfa) kind))
    (start_from_word (tables_of nfa) kind)
    (start_half_crlf (tables_of nfa) kind)

-- the value before the first unit, for an NFA state to start from and an optional look-behind byte
abbrev pub start_value : Nfa → ℕ → Option ℕ → Value
start_value nfa s p =
    recorded nfa (begun (from_word_at_start (tables_of nfa) p)
    (half_crlf_at_start (tables_of nfa) p) (have_at_start (tables_of nfa) p) [])
    (reach nfa (has (have_at_start (tables_of nfa) p)) (s ∷ []))

-- the value is that before the first unit for each look-behind byte of this kind
abbrev pub IsStartOf : Nfa → ℕ → Kind → Value → Type 0
IsStartOf nfa s kind v = (p : Option ℕ) → start_kind_of nfa.terminator p ≡ kind
    → v ≡ start_value nfa s p

-- whether some assertion that was found to hold is in look-need and not in look-have
abbrev pub is_redone : (Assertion → Bool) → ℕ → ℕ → Bool
is_redone found have need = list_any (λ l. found l && has need l && not (has have l)) each_look

-- the assertions that the unit satisfies for the value
abbrev pub opened_by : Nfa → Value → Option ℕ → Assertion → Bool
opened_by nfa v u = opened (tables_of nfa) v.from_word v.half_crlf u

-- whether some of them is in look-need and not in look-have
abbrev pub is_reopened : Nfa → Value → Option ℕ → Bool
is_reopened nfa v u = is_redone (opened_by nfa v u) v.look_have v.look_need

-- the states of the value, each once
abbrev pub distinct_states : Value → List ℕ
distinct_states v = fresh nat_eq none_held v.states

-- the list that the step reads: the recorded states, or their closure under all assertions that
-- hold
abbrev pub working_list : Nfa → Value → Option ℕ → List ℕ
working_list nfa v u =
    cond (is_reopened nfa v u)
    (reach nfa (joined (has v.look_have) (opened_by nfa v u)) (distinct_states v))
    (distinct_states v)

-- the part of it whose targets are entered: all of it, or under `LeftmostFirst` the states before
-- the first match
abbrev pub part_read : MatchKind → (ℕ → Bool) → List ℕ → List ℕ
part_read All accepts xs = xs
part_read LeftmostFirst accepts xs = before accepts xs

-- the patterns that are listed: all of them, or under `LeftmostFirst` the first
abbrev pub patterns_read : MatchKind → List ℕ → List ℕ
patterns_read All ps = ps
patterns_read LeftmostFirst ps = take 1 ps

-- the value after a unit, given the patterns found and the states entered; flags are set only if
-- some state is entered
abbrev pub left_by : Nfa → Option ℕ → List ℕ → List ℕ → Value
left_by nfa u patterns entered =
    recorded nfa
    (begun (is_nonempty entered && from_word_after (tables_of nfa) u)
    (is_nonempty entered && half_crlf_after (tables_of nfa) u)
    (have_after (tables_of nfa) u) patterns)
    entered

-- the targets on the unit of the states that are read
abbrev pub targets : Nfa → MatchKind → Value → Option ℕ → List ℕ
targets nfa kind v u =
    flat_map (target nfa u) (part_read kind (is_match nfa) (working_list nfa v u))

-- the value after the unit
unfoldable pub step : Nfa → MatchKind → Value → Option ℕ → Value
step nfa kind v u =
    left_by nfa u
    (patterns_read kind (patterns_of nfa (working_list nfa v u)))
    (reach nfa (has (have_after (tables_of nfa) u)) (targets nfa kind v u))
