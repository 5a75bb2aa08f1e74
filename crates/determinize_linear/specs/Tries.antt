-- The most tries that the searches for all matches take.
use Rattle.std.specs.Prelude.{◌*◌, ◌+◌, ℕ, length}
use Rattle.determinize_below.specs.Semantics.{Nfa}
use Rattle.determinize_core.specs.Tries.{edges_in_all}
use Rattle.determinize_dense.specs.Table.{Table}

-- three for each state and each epsilon transition of the NFA, and three more, for each byte and
-- two more
abbrev pub most_tries : Nfa → ℕ → ℕ
most_tries nfa count = 3 * (length nfa.states + edges_in_all nfa + 1) * (count + 2)

-- of a DFA: one for each row, and four more, for each byte and two more
abbrev pub most_steps : Table → ℕ → ℕ
most_steps d count = (length d.patterns + 4) * (count + 2)
