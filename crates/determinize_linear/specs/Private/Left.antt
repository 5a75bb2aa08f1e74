-- What a search may still follow: the choices of the pairs that are not marked.
use Rattle.std.specs.Prelude.{◌+◌, ◌||◌, ℕ, Bool, List, [], ◌∷◌, cond, length, map, nat_lt}
use Rattle.std.specs.List.{flat_map}
use Rattle.determinize_below.specs.Semantics.{Nfa, Text, choices}
use Rattle.determinize_core.specs.Tries.{edges_in_all}
use Rattle.determinize_linear.specs.Private.Marks.{is_marked}
use Rattle.ordered_reach.specs.Reach.{nodes_below}
use Rattle.ordered_reach.specs.Runs.{placed}

-- the pairs of a position of a text and a state
abbrev pub pairs_in : Nfa → Text → List (ℕ × ℕ)
pairs_in nfa text = flat_map (λ i. map (placed i) (nodes_below (length nfa.states)))
    (nodes_below (length text.bytes + 1))

-- the number of choices of the pairs of a list that are not in a set
abbrev pub count_choices : Nfa → Text → (ℕ × ℕ → Bool) → List (ℕ × ℕ) → ℕ
count_choices nfa text held [] = 0
count_choices nfa text held (p ∷ ps) = cond (held p) (count_choices nfa text held ps)
    (length (choices nfa text p) + count_choices nfa text held ps)

-- those of the pairs from a position on that are not marked
abbrev pub left : Nfa → Text → ℕ → List (List Bool) → ℕ
left nfa text k rows =
    count_choices nfa text (λ p. nat_lt p.0 k || is_marked rows p) (pairs_in nfa text)

-- the most choices at a position
abbrev pub most_choices : Nfa → ℕ
most_choices nfa = length nfa.states + edges_in_all nfa
