-- The state of a depth-first search with a stack.
use Rattle.std.specs.Prelude.{◌+◌, ◌++◌, Bool, List, length, ℕ}
use Rattle.ordered_reach.specs.Reach.{member, ordered, edge_count}

-- the final set of the search, given the nodes visited so far and the pending ones
abbrev pub closure : {N : Type 0} → (N → N → Bool) → (N → List N) → ℕ → List N → List N → List N
closure eq edges n met pending = met ++ ordered eq edges n (member eq met) pending

-- the number of nodes that the search has still to pop
abbrev pub search_tries : {N : Type 0} → (N → N → Bool) → (N → List N) → ℕ → List N → List N → ℕ
search_tries eq edges n met pending =
    length pending + edge_count edges (ordered eq edges n (member eq met) pending)
