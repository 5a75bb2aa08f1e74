-- The working list of a step: whether the closure is reopened, and the first pass over the list.
use Rattle.std.specs.Prelude.{◌≡◌, ℕ, ◌++◌, Bool, true, not, Option, None, Some, List, [], ◌∷◌, if◌then◌else◌, nat_eq}
use Rattle.determinize_state.specs.Value.{Value, is_nonempty}
use Rattle.determinize_below.specs.Members.{has_id}
use mathlib.Core.Bool.{◌||◌}
use Rattle.std.specs.List.{flat_map}
use Rattle.determinize_below.specs.Look.{has}
use Rattle.determinize_below.specs.declared.search.MatchKind.{MatchKind}
use Rattle.determinize_below.specs.Edges.{is_match, patterns_of, target}
use Rattle.determinize_below.specs.Semantics.{Nfa}
use Rattle.ordered_reach.specs.Reach.{fresh, joined, none_held}
use Rattle.determinize_core.specs.Step.{is_reopened, opened_by, part_read, patterns_read}
use Rattle.determinize_core.specs.Private.Changes.{with_patterns}
use Rattle.determinize_core.specs.declared.determinize.reading.Reading.{Reading}
use Rattle.determinize_core.specs.declared.determinize.reading.Reading.TheVariants.{Nothing, Target, Match}

-- the unit reopens the closure, under the assertions of the set
pub record IsReopened (nfa : Nfa) (v : Value) (u : Option ℕ) (set : ℕ) : Type 0 where
  pub reopened : is_reopened nfa v u ≡ true
  pub set_is : has set ≡ joined (has v.look_have) (opened_by nfa v u)

-- the byte of a unit, or for each EOI 256, which is in no range of bytes
abbrev pub byte_or_256 : Option ℕ → ℕ
byte_or_256 None = 256
byte_or_256 (Some byte) = byte

-- the items of a list, each once
abbrev pub distinct : List ℕ → List ℕ
distinct xs = fresh nat_eq none_held xs

-- the targets on the unit of the states of a list, as far as they are read
abbrev pub roots_of : Nfa → MatchKind → Option ℕ → List ℕ → List ℕ
roots_of nfa kind u working = flat_map (target nfa u) (part_read kind (is_match nfa) working)

-- whether a state has no pattern, and no target on the unit
abbrev pub gives_nothing : Nfa → Option ℕ → ℕ → Bool
gives_nothing nfa u s = not (is_match nfa s || is_nonempty (target nfa u s))

-- what reading a state adds to the kept states: the state, if it is new and gives something
abbrev pub gained : Nfa → Option ℕ → List ℕ → ℕ → List ℕ
gained nfa u kept s = if gives_nothing nfa u s || has_id kept s then [] else s ∷ []

-- what is found in a state, by its pattern and its target
abbrev pub found_in : Option ℕ → Option ℕ → Reading
found_in (Some pattern) target = Match pattern
found_in None (Some target) = Target target
found_in None None = Nothing

-- a state was read: the kept states, the targets and the builder have gained what it gives
pub record IsStateRead (nfa : Nfa) (u : Option ℕ) (id : ℕ)
    (kept kept_after targets targets_after : List ℕ) (value next : Value) : Type 0 where
  pub kept_are : kept_after ≡ kept ++ gained nfa u kept id
  pub targets_are : targets_after ≡ targets ++ flat_map (target nfa u) (gained nfa u kept id)
  pub value_is : next ≡ with_patterns value
      (value.patterns ++ patterns_of nfa (gained nfa u kept id))

-- a list was read: the builder has its patterns, and the targets are its roots
pub record IsListRead (nfa : Nfa) (kind : MatchKind) (u : Option ℕ) (working : List ℕ)
    (value next : Value) (targets : List ℕ) : Type 0 where
  pub value_is : next ≡ with_patterns value (patterns_read kind (patterns_of nfa working))
  pub targets_are : targets ≡ roots_of nfa kind u working
