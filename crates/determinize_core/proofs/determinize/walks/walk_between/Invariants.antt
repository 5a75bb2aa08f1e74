use Rattle.determinize_core.proofs.Common.{[], AllResolve, between, chain, dead, drop, future, get_or, length, map, Some}
use Rattle.determinize_core.proofs.Common.{take, ◌+◌, ◌++◌, ◌∷◌, ◌≡◌}
use Rattle.determinize_core.proofs.determinize.walks.walk_between.Given as goal

abbrev pub invariant-loop-index : goal.invariant-loop-index
invariant-loop-index g l = record {
  count : length l.states.items ≡ l.index + 1;
  whole : take l.index l.states.items ++ future l.nfa l.fn.match_kind (get_or l.states.items l.index dead)
      (map Some (drop l.index l.text) ++ l.fn.look_ahead ∷ [])
      ≡ chain l.nfa l.fn.match_kind l.fn.start (between l.fn.look_behind l.text l.fn.look_ahead);
  resolve : AllResolve l.nfa (get_or l.states.items l.index dead).states;
}
