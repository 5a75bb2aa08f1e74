use Rattle.determinize_dense.proofs.Common.{Bool, byte_of, get_or_from_slice_get, gives_nothing, is_nonempty}
use Rattle.determinize_dense.proofs.Common.{is_some, Nfa, Option, refl, rules, slice_get, Some, ℕ, ◌≡◌}
use Rattle.determinize_core.proofs.Common.{Node, option_to_list, state_at}
use Rattle.determinize_below.specs.Edges.{pattern_in}
use Rattle.determinize_below.specs.Semantics.{target_of}
use mathlib.Core.Bool.{not, not-not, ◌||◌}
use Rattle.determinize_dense.proofs.build.gives.Goals as goal

-- whether a node matches or has a target
abbrev node_gives : Option ℕ → Node → Bool
node_gives u n = is_some (pattern_in n) || is_nonempty (option_to_list (target_of u n))

-- only the node of the id counts
by-node : (nfa : Nfa) (u : Option ℕ) (s : ℕ) (n : Node) {b : Bool} → slice_get nfa.states s ≡ Some n
    → b ≡ node_gives u n → b ≡ not (gives_nothing nfa u s)
by-node nfa u s n got is =
    let at : state_at nfa s ≡ n = search (rules, get_or_from_slice_get) in rw (at, not-not _) is

pub returns-in-Match : goal.returns-in-Match
returns-in-Match g c = by-node c.args.nfa.now (byte_of c.args.unit) c.args.id _
    (rw c.in-Match.is at c.state.ensures.state) refl
