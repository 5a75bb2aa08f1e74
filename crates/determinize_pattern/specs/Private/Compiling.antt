-- What the calls of the compiler add to a builder: statements on each NFA that has its states.
use Rattle.std.specs.Prelude.{◌≡◌, ◌+◌, ◌<◌, ◌≤◌, ◌⊎◌, ℕ, Contains, List, Some, [], false, length, slice_get, slice_index, slice_index_or}
use Rattle.std.specs.List.{flat_map}
use Rattle.determinize_below.specs.Semantics.{Fail, Match, Nfa, Node, Text, Union, state_at}
use Rattle.determinize_nfa.specs.Builder.{BuilderValue}
use Rattle.determinize_pattern.specs.LeftmostOf.{all_ends}
use Rattle.determinize_pattern.specs.Meaning.{Re, ends}
use Rattle.determinize_pattern.specs.Private.Entries.{EachFinds, Finds, IsEntry}

-- the NFA has the states of the builder, except for unions without alternates: such a union is the
-- state of a loop whose alternates are set later
pub record Continues (b : BuilderValue) (nfa : Nfa) : Type 0 where
  pub states : (q : ℕ) → q < length b.states → (slice_index_or b.states q Fail ≡ Union [] → ⊥)
      → state_at nfa q ≡ slice_index_or b.states q Fail
  pub terminator : nfa.terminator ≡ b.terminator
  pub forward : nfa.reverse ≡ false

-- the new builder has the states of the old one
pub record Extends (old new : BuilderValue) : Type 0 where
  pub longer : length old.states ≤ length new.states
  pub kept : (q : ℕ) → q < length old.states
      → slice_index_or new.states q Fail ≡ slice_index_or old.states q Fail
  pub terminator : new.terminator ≡ old.terminator

-- the new builder has the states of the old one, and this one with the id
pub record HasNode (old new : BuilderValue) (node : Node) (id : ℕ) : Type 0 where
  pub extends : Extends old new
  pub node_is : slice_get new.states id ≡ Some node

-- for each state that was added, one of what was left was spent
abbrev pub Paid : BuilderValue → ℕ → BuilderValue → ℕ → Type 0
Paid old before new after = length new.states + after ≤ length old.states + before

-- entry k, from `first` on, begins the pattern, which continues at id 0 if it has read a byte, and
-- at id k if not
pub record IsCompiled (first : ℕ) (old new : BuilderValue) (re : Re) (ids entries : List ℕ)
    : Type 0 where
  pub extends : Extends old new
  pub len : length entries ≡ length ids
  pub each : (nfa : Nfa) → Continues new nfa → (text : Text) → (k : ℕ) → first ≤ k
      → k < length ids → IsEntry nfa text re (slice_index ids 0) (slice_index ids k)
      (slice_index entries k)

-- what was added is in front of any pattern that was compiled before, of which the entries from
-- `behind` on were wanted
abbrev pub Precedes : ℕ → ℕ → BuilderValue → BuilderValue → (Re → Re) → List ℕ → List ℕ → Type 0
Precedes behind first mid new front ids entries = (old : BuilderValue) (re : Re) (targets : List ℕ)
    → 0 < length targets → IsCompiled behind old mid re targets ids
    → IsCompiled first old new (front re) targets entries

-- the state begins the pattern, which continues at `next` whether or not it has read a byte
pub record IsBegun (old new : BuilderValue) (re : Re) (next s : ℕ) : Type 0 where
  pub extends : Extends old new
  pub entry : (nfa : Nfa) → Continues new nfa → (text : Text)
      → IsEntry nfa text re next next s

-- each entry from `first` on is a new state
pub record AddsEach (first : ℕ) (old new : BuilderValue) (ids entries : List ℕ)
    (node : ℕ → Node) : Type 0 where
  pub extends : Extends old new
  pub len : length entries ≡ length ids
  pub each : (nfa : Nfa) → Continues new nfa → (k : ℕ) → first ≤ k → k < length ids
      → state_at nfa (slice_index entries k) ≡ node k

-- each match of the pattern reads a byte
abbrev pub AlwaysReads : Re → Type 0
AlwaysReads re = (t : ℕ) (text : Text) (i j : ℕ) → Contains (ends t text re i) j → i < j

-- the state fails, or each match of the pattern reads a byte
pub record IsUnread (old new : BuilderValue) (re : Re) (id : ℕ) : Type 0 where
  pub extends : Extends old new
  pub fails : AlwaysReads re
      ⊎ ((nfa : Nfa) → Continues new nfa → state_at nfa id ≡ Fail)

-- the later entries are wanted, and the first of them fails where nothing was read
pub record FailsUnread (b : BuilderValue) (first : ℕ) (ids : List ℕ) : Type 0 where
  pub later : 0 < first
  pub some : 1 < length ids
  pub fails : slice_get b.states (slice_index ids 1) ≡ Some Fail

-- each of these states is the `Match` of its number
pub record AddsMatches (old new : BuilderValue) (ids : List ℕ) : Type 0 where
  pub extends : Extends old new
  pub patterns : new.patterns ≡ length ids
  pub each : (nfa : Nfa) → Continues new nfa → (n : ℕ) → n < length ids
      → state_at nfa (slice_index ids n) ≡ Match n

-- from the state begin the patterns, each before the `Match` state of its number
pub record BeginsAll (old new : BuilderValue) (matches : List ℕ) (res : List Re)
    (s : ℕ) : Type 0 where
  pub extends : Extends old new
  pub finds : (nfa : Nfa) → Continues new nfa
      → ((n : ℕ) → n < length matches → state_at nfa (slice_index matches n) ≡ Match n)
      → (text : Text) (k : ℕ) → Finds nfa text s k (all_ends nfa.terminator text 0 res k)

-- from the state the runs find all patterns
abbrev pub FindsAll : BuilderValue → List Re → ℕ → Type 0
FindsAll b res s = (nfa : Nfa) → Continues b nfa → (text : Text) (k : ℕ)
    → Finds nfa text s k (all_ends nfa.terminator text 0 res k)

-- the state finds what these find, one after the other
pub record IsJoined (old new : BuilderValue) (starts : List ℕ) (s : ℕ) : Type 0 where
  pub extends : Extends old new
  pub finds : (nfa : Nfa) → Continues new nfa → (text : Text) (i : ℕ)
      → (found : List (List (ℕ × ℕ))) → EachFinds nfa text i starts found
      → Finds nfa text s i (flat_map (λ xs. xs) found)
