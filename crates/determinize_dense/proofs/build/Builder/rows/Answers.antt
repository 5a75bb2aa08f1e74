use Rattle.determinize_dense.proofs.Common.{AreStarts, length, length-map, lists_of, map, refl, rules}
use Rattle.determinize_dense.proofs.Common.{Stays, ◌≡◌}
use Rattle.determinize_dense.proofs.Building.{more-before, err-as, starts-stay, stays-more}
use Rattle.determinize_dense.proofs.Simulation.{has_states, is_dfa}
use Rattle.determinize_start.specs.declared.start.TheConstants.StartSlot.{COUNT}
use Rattle.determinize_dense.proofs.build.Builder.rows.Goals.{In_ok-fill, In_ok-patterns}
use Rattle.determinize_dense.proofs.build.Builder.rows.Goals as goal

-- the starts are found, and then all rows
filled : (g : _) (c : In_ok-fill g) → Stays c.args.self c.fill.new.self
filled g c = stays-more c.in_ok-starts.ensures.stays c.in_ok-fill.ensures.stays

starts-are : (g : _) (c : In_ok-fill g)
    → AreStarts c.fill.new.self.nfa c.fill.new.self.values COUNT c.in_ok-starts.starts
starts-are g c = rw (filled g c).nfa (starts-stay c.in_ok-fill.ensures.stays c.in_ok-starts.ensures.starts)

pub returns-in_err-starts-clause-many : goal.returns-in_err-starts-clause-many
returns-in_err-starts-clause-many g c = λ same.
    c.in_err-starts.ensures.many (err-as same (search rules))

pub returns-in_err-fill-clause-many : goal.returns-in_err-fill-clause-many
returns-in_err-fill-clause-many g c = λ same.
    more-before c.in_ok-starts.ensures.stays (c.in_err-fill.ensures.many (err-as same (search rules)))

lists-are : (g : _) (c : In_ok-patterns g)
    → map (λ list. list.items) c.in_ok-patterns.patterns.items ≡ lists_of c.self-2.inside.states
lists-are g c = rw c.as_slice.ensures at c.in_ok-patterns.ensures

pub invariant_of-result : goal.invariant_of-result
invariant_of-result g c =
    let at = goal.at.invariant_of-result g c in
    rw (lists-are g at.In_ok-patterns)
    (is_dfa _ c.self-2.invariant (rw (← c.self-2.view_is) at c.in_ok-fill.ensures.whole) c.in_ok-starts.starts
    (rw (← c.self-2.view_is) at (starts-are g at.In_ok-fill)))

pub returns-clause-built : goal.returns-clause-built
returns-clause-built g c =
    let at = goal.at.returns-clause-built g c in
    let stays = filled g at.In_ok-fill in
    let count : length (map (λ list. list.items) c.in_ok-patterns.patterns.items) ≡ length c.fill.new.self.values =
    rw (← c.self-2.view_is, lists-are g at.In_ok-patterns, length-map) refl in
    record {
      nfa = rw (← stays.nfa, ← c.self-2.view_is) refl;
      kind = rw (← stays.kind, ← c.self-2.view_is) refl;
      states = rw (count, ← stays.nfa, ← stays.kind) (has_states c.fill.new.self
          (rw (← c.self-2.view_is) c.self-2.invariant) c.in_ok-fill.ensures.whole c.in_ok-starts.starts
          (starts-are g at.In_ok-fill));
      few = rw (count, ← stays.limit, ← c.self-2.view_is) c.self-2.invariant.few;
    }
