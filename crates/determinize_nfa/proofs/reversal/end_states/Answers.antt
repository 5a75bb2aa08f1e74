use Rattle.determinize_nfa.proofs.Common.{List, append_assoc, map-append, node_of, on_ok_weaker, ◌++◌, ◌≡◌}
use Rattle.std.proofs.Common.{Err, Ok, Result}
use Rattle.std.specs.Prelude.{OnOk, if◌then◌else◌, is_ok}
use Rattle.determinize_nfa.proofs.reversal.end_states.Goals as goal

on_items : {T E X : Type 0} (r : Result T E) (now more was : List X) → now ≡ (if is_ok r then more else was)
    → OnOk r (now ≡ more)
on_items (Ok x) now more was e = e
on_items (Err x) now more was e = tt

pub returns : goal.returns
returns g c = on_ok_weaker c.append.result
    (λ (all : c.append.new.self.items ≡ c.push_state-2.new.states.items ++ c.args.rest.now.items). rw (
      all,
      map-append node_of c.push_state-2.new.states.items c.args.rest.now.items,
      c.in_ok-push_state-2.ensures.nodes,
      c.in_ok-push_state.ensures.nodes,
    ) (simp append_assoc))
    (on_items c.append.result _ _ _ c.append.ensures.items)
