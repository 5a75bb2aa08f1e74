use Rattle.determinize_lazy.proofs.{cache, false, first_place, HasCome, IsMarking, IsPosition, length, listed_from, listed_over, place, start_value, units, ◌+◌, ◌-◌, ◌≤◌}
use Rattle.determinize_lazy.proofs.lazy.LazyDfa.mark_text.Given as goal

abbrev pub invariant-loop-at : goal.invariant-loop-at
invariant-loop-at g l = record {
  position : IsPosition l.self l.at;
  within : l.at.read ≤ length l.text.bytes + 1;
  marking : IsMarking l.fn.found (listed_over l.fn.self.nfa l.fn.self.kind l.fn.start l.text) l.found
      (listed_from (units l.text) (place l.self l.at));
  come : HasCome false (units l.text)
      (first_place (cache l.fn.self) (start_value l.fn.self.nfa l.fn.start l.text.behind)) (place l.self l.at);
}

abbrev pub decreases-loop-at : goal.decreases-loop-at
decreases-loop-at g l = length l.text.bytes + 2 - l.at.read
