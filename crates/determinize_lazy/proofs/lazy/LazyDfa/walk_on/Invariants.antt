use Rattle.determinize_lazy.proofs.{cache, cursor_value, drop, IsReady, IsWalking, length, units, ◌+◌, ◌-◌}
use Rattle.determinize_lazy.proofs.lazy.LazyDfa.walk_on.Given as goal

abbrev pub invariant-loop-read : goal.invariant-loop-read
invariant-loop-read g l = record {
  walking : IsWalking (cache l.fn.self) (cursor_value l.fn.self.states l.fn.first) (units l.text) l.states.items
      (cache l.self) (cursor_value l.self.states l.cursor) (drop l.read (units l.text));
  ready : IsReady l.self l.cursor;
}

abbrev pub decreases-loop-read : goal.decreases-loop-read
decreases-loop-read g l = length l.text.bytes + 1 - l.read
