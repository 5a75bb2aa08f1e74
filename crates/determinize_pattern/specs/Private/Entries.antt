-- What the states of an NFA find, and the states at which a pattern begins.
use Rattle.std.specs.List.{flat_map}
use Rattle.std.specs.Option.{option_to_list}
use Rattle.std.specs.Prelude.{ℕ, Bool, Contains, List, [], ◌∷◌, cond, map, nat_lt, option_map}
use Rattle.determinize_below.specs.Edges.{pattern_of}
use Rattle.determinize_below.specs.Semantics.{Nfa, Text, choices}
use Rattle.determinize_below.specs.declared.nfa.transitions.Transition.{Transition}
use Rattle.determinize_pattern.specs.Meaning.{Re, ends}
use Rattle.ordered_reach.specs.Walks.{ListsLabels}

-- the pattern and the position, if the state is a `Match`
abbrev pub matched : Nfa → ℕ × ℕ → List (ℕ × ℕ)
matched nfa q = option_to_list (option_map (λ pattern. (pattern, q.0)) (pattern_of nfa q.1))

-- the runs from the state at the position end, and these are the patterns and the ends of those
-- that accept, most preferred first
abbrev pub Finds : Nfa → Text → ℕ → ℕ → List (ℕ × ℕ) → Type 0
Finds nfa text s i xs = ListsLabels (choices nfa text) (matched nfa) (i, s) xs

-- where a run continues that went from i to j
abbrev pub target_of_end : ℕ → ℕ → ℕ → ℕ → ℕ
target_of_end i j moved stayed = cond (nat_lt i j) moved stayed

-- from the state a run matches the pattern, and then continues at `moved` if the pattern has read a
-- byte, and at `stayed` if not
abbrev pub IsEntry : Nfa → Text → Re → ℕ → ℕ → ℕ → Type 0
IsEntry nfa text re moved stayed s = (i : ℕ) (zs : ℕ → List (ℕ × ℕ))
    → ((j : ℕ) → Contains (ends nfa.terminator text re i) j
    → Finds nfa text (target_of_end i j moved stayed) j (zs j))
    → Finds nfa text s i (flat_map zs (ends nfa.terminator text re i))

-- the alternates of the state of a loop, or of another choice
abbrev pub in_order : Bool → ℕ → ℕ → List ℕ
in_order first_wins first second =
    cond first_wins (first ∷ second ∷ []) (second ∷ first ∷ [])

-- the ranges, each with this target
abbrev pub leading : ℕ → List (ℕ × ℕ) → List Transition
leading next ranges = map (λ r. record { start = r.0; end = r.1; next = next }) ranges

-- from the position, each of these states finds the list at its place
abbrev pub EachFinds : Nfa → Text → ℕ → List ℕ → List (List (ℕ × ℕ)) → Type 0
EachFinds nfa text i [] [] = Unit {0}
EachFinds nfa text i (s ∷ ss) (xs ∷ xss) = Finds nfa text s i xs × EachFinds nfa text i ss xss
EachFinds nfa text i _ _ = ⊥
