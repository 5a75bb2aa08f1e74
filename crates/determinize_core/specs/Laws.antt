-- Laws of steps and of walks.
use Rattle.std.specs.Prelude.{◌≡◌, ℕ, suc, ◌+◌, ◌*◌, ◌<◌, ◌≤◌, ◌⊎◌, Bool, true, Option, None, Some, List, [], ◌∷◌, ◌++◌, length, map, nat_eq, option_map, slice_get}
use Rattle.std.specs.Option.{option_or}
use Rattle.determinize_below.specs.Captures.{HasNoCaptureCycle}
use Rattle.determinize_below.specs.Edges.{edges, target, reach, reach_past}
use Rattle.determinize_below.specs.Semantics.{state_at, Nfa, Capture, Accepts, IsPreferredRun, Text, between}
use Rattle.determinize_below.specs.Nfa.{IsAccepted}
use Rattle.determinize_below.specs.Positions.{IsRun}
use Rattle.determinize_below.specs.Reached.{IsKnownReached, IsReached}
use Rattle.ordered_reach.specs.Reach.{member}
use Rattle.determinize_below.specs.declared.look.Look.{Look as Assertion}
use Rattle.determinize_below.specs.declared.search.HalfMatch.{HalfMatch}
use Rattle.determinize_below.specs.declared.search.MatchKind.{MatchKind}
use Rattle.determinize_below.specs.declared.search.MatchKind.TheVariants.{All, LeftmostFirst}
use Rattle.determinize_core.specs.Chain.{FollowsItself, chain, future, units, value_after}
use Rattle.determinize_core.specs.Step.{step}
use Rattle.determinize_state.specs.Recording.{with_states}
use Rattle.determinize_core.specs.Tries.{tries, edges_in_all}
use Rattle.determinize_state.specs.Value.{Value, dead}
use Rattle.determinize_core.specs.LastMatch.{lists_of, IsFarthestMatch, ended_at, last_match}
use Rattle.determinize_core.specs.Walk.{ListsAccepted, IsWalkOfAll, IsLeftmostWalk}
use Rattle.determinize_core.specs.WalkStates.{RecordsReached}

-- the theorem: for every valid NFA, the walk over each text lists all matches under `All`, and
-- finds the most preferred one under `LeftmostFirst`
abbrev pub EachChainIsTrue : Type 0
EachChainIsTrue = (nfa : Nfa) → IsAccepted nfa → (start : ℕ) (text : Text)
    → IsWalkOfAll nfa start text (lists_of (chain nfa All start text))
    × IsLeftmostWalk nfa start text (lists_of (chain nfa LeftmostFirst start text))

-- each walk has a list before the first unit, which is empty, and one after each unit
abbrev pub EachChainHasItsLists : Type 0
EachChainHasItsLists = (nfa : Nfa) (kind : MatchKind) (start : ℕ) (text : Text)
    → (length (chain nfa kind start text) ≡ length text.bytes + 2)
    × (slice_get (lists_of (chain nfa kind start text)) 0 ≡ Some [])

-- and each of its values but the last records the NFA states that runs reach
abbrev pub EachChainReaches : Type 0
EachChainReaches = (nfa : Nfa) → IsAccepted nfa → (kind : MatchKind) (start : ℕ) (text : Text)
    → RecordsReached nfa kind start text (chain nfa kind start text)

-- with a byte ahead, the values are all but the last of those over the text with this byte at its
-- end
abbrev pub EachByteAheadIsNext : Type 0
EachByteAheadIsNext = (nfa : Nfa) (kind : MatchKind) (start : ℕ) (behind : Option ℕ)
    (bytes : List ℕ) (byte : ℕ) (ahead : Option ℕ)
    → (last : Value) × (chain nfa kind start (between behind (bytes ++ byte ∷ []) ahead)
    ≡ chain nfa kind start (between behind bytes (Some byte)) ++ last ∷ [])

-- runs determine one list of patterns, one most preferred match, and one list of the states
-- reached, under the look-behind and under the assertions that hold
abbrev pub EachAnswerIsOne : Type 0
EachAnswerIsOne = (nfa : Nfa) (text : Text) (start : ℕ)
    → ((i : ℕ) (xs ys : List ℕ) → ListsAccepted nfa text start i xs
    → ListsAccepted nfa text start i ys → xs ≡ ys)
    × ((i j x y : ℕ) (cs ds : List ℕ) → IsPreferredRun nfa text start cs i x
    → IsPreferredRun nfa text start ds j y → (i ≡ j) × (x ≡ y))
    × ((i : ℕ) (xs ys : List ℕ) → IsKnownReached nfa text start i xs
    → IsKnownReached nfa text start i ys → xs ≡ ys)
    × ((i : ℕ) (xs ys : List ℕ) → IsReached nfa text start i xs → IsReached nfa text start i ys
    → xs ≡ ys)

-- for a valid NFA, the closure of one more root adds the states that it reaches past those reached
-- before
abbrev pub EachReachGoesOn : Type 0
EachReachGoesOn = (nfa : Nfa) → IsAccepted nfa
    → (holds : Assertion → Bool) (roots : List ℕ) (root : ℕ)
    → reach nfa holds (roots ++ root ∷ []) ≡ reach nfa holds roots
    ++ reach_past nfa holds (reach nfa holds roots) (root ∷ [])

-- a state has epsilon edges, or at most one transition on a unit, not both
abbrev pub EachStateHasOneKind : Type 0
EachStateHasOneKind = (nfa : Nfa) (holds : Assertion → Bool) (u : Option ℕ) (s : ℕ)
    → (length (target nfa u s) ≤ 1) × ((edges nfa holds s ≡ []) ⊎ (target nfa u s ≡ []))

-- no state has a transition on EOI
abbrev pub NothingLeadsOverTheEnd : Type 0
NothingLeadsOverTheEnd = (nfa : Nfa) (s : ℕ) → target nfa None s ≡ []

-- from each of its values on, a walk is what follows from that value
abbrev pub EachFutureFollows : Type 0
EachFutureFollows = (nfa : Nfa) (kind : MatchKind) (s : ℕ) (text : Text)
    → FollowsItself nfa kind text (chain nfa kind s text)

-- the dead value stays; and if no cycle of a valid NFA consists of captures only, a step that gives
-- no pattern and no NFA state gives the dead value
abbrev pub DeadStays : Type 0
DeadStays = (nfa : Nfa) (kind : MatchKind) (u : Option ℕ)
    → (step nfa kind dead u ≡ dead)
    × ((v : Value) → IsAccepted nfa → HasNoCaptureCycle nfa → (step nfa kind v u).patterns ≡ []
    → (step nfa kind v u).states ≡ [] → step nfa kind v u ≡ dead)

-- a value to which states were recorded has an empty look-have if its look-need is empty
abbrev pub NoNeedNoHave : Type 0
NoNeedNoHave = (nfa : Nfa) (v : Value) (xs : List ℕ) → (with_states nfa v xs).look_need ≡ 0
    → (with_states nfa v xs).look_have ≡ 0

-- under `LeftmostFirst` a step gives at most one pattern
abbrev pub LeftmostGivesOne : Type 0
LeftmostGivesOne = (nfa : Nfa) (v : Value) (u : Option ℕ)
    → length (step nfa LeftmostFirst v u).patterns ≤ 1

-- a step from a value whose ids are in range makes at most two tries for each state and each
-- epsilon edge
abbrev pub TriesAreFew : Type 0
TriesAreFew = (nfa : Nfa) → IsAccepted nfa → (kind : MatchKind) (v : Value) (u : Option ℕ)
    → ((s : ℕ) → member nat_eq v.states s ≡ true → s < length nfa.states)
    → tries nfa kind v u ≤ 2 * (length nfa.states + edges_in_all nfa)

-- for every valid NFA, the last match of a walk under `All` is the farthest match
abbrev pub EachLastIsFarthest : Type 0
EachLastIsFarthest = (nfa : Nfa) → IsAccepted nfa → (start : ℕ) (text : Text)
    → IsFarthestMatch nfa start text (last_match (chain nfa All start text))

-- each run over a text ends at a position of it, accepting or not
abbrev pub NoRunLeavesTheText : Type 0
NoRunLeavesTheText = (nfa : Nfa) (start : ℕ) (text : Text) (cs : List ℕ) (i : ℕ)
    → ((s : ℕ) → IsRun nfa text start cs (i, s) → i ≤ length text.bytes)
    × ((pattern : ℕ) → Accepts nfa text start cs i pattern → i ≤ length text.bytes)

-- the units of a text are its bytes in order, and then the byte ahead or the end of input
abbrev pub EachUnitIsAByte : Type 0
EachUnitIsAByte = (text : Text) → units text ≡ map Some text.bytes ++ text.ahead ∷ []

-- the match, one position later
abbrev pub one_later : HalfMatch → HalfMatch
one_later m = record m { offset = suc m.offset }

-- the last match over a first unit and others: that over the others from the next value, one
-- position later; or else that of the next value, at position 0
abbrev pub EachFirstUnitUnrolls : Type 0
EachFirstUnitUnrolls = (nfa : Nfa) (kind : MatchKind) (v : Value)
    → (u : Option ℕ) (us : List (Option ℕ))
    → last_match (future nfa kind v (u ∷ us))
    ≡ option_or (option_map one_later (last_match (future nfa kind (step nfa kind v u) us)))
    (ended_at 0 (step nfa kind v u).patterns)

-- the last match over some units and one more: that of the value after all of them, at the position
-- before the last unit; or else that over the units without it
abbrev pub EachLastUnitUnrolls : Type 0
EachLastUnitUnrolls = (nfa : Nfa) (kind : MatchKind) (v : Value)
    → (us : List (Option ℕ)) (u : Option ℕ)
    → (value_after nfa kind v (us ++ u ∷ []) ≡ step nfa kind (value_after nfa kind v us) u)
    × (last_match (future nfa kind v (us ++ u ∷ []))
    ≡ option_or (ended_at (length us) (value_after nfa kind v (us ++ u ∷ [])).patterns)
    (last_match (future nfa kind v us)))

-- the next state of each capture has a greater id than the capture
abbrev pub CapturesAscend : Nfa → Type 0
CapturesAscend nfa = (s next : ℕ) → state_at nfa s ≡ Capture next → s < next

-- then no cycle consists of captures only
abbrev pub AscendingCapturesHaveNoCycle : Type 0
AscendingCapturesHaveNoCycle = (nfa : Nfa) → CapturesAscend nfa → HasNoCaptureCycle nfa
