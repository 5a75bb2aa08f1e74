use Rattle.determinize_lazy.proofs.{starts-set, sym, ◌∙◌}
use Rattle.determinize_lazy.proofs.lazy.LazyDfa.find_start.Goals as goal

pub invariant_of-self : goal.invariant_of-self
invariant_of-self g c =
    let state_is = rw (← c.in_ok-state.ensures.unchanged, ← c.self.view_is) at c.in_ok-state.ensures.value in
    let number_is = rw c.nfa.ensures at (sym c.in-Some-start_number.is ∙ c.start_number.ensures.value) in
    rw c.set_start.ensures record {
      sound = c.self.invariant.sound;
      within = c.self.invariant.within;
      known = c.self.invariant.known;
      starts = starts-set _ c.self.inside.table _ _ _ _ c.self.invariant.starts number_is
          (rw state_is at c.in-Some.ensures);
    }
