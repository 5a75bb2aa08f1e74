use Rattle.determinize_lazy.proofs.{empty_is_lazy}
use Rattle.determinize_lazy.proofs.lazy.LazyDfa.reset.Goals as goal

pub invariant_of-self : goal.invariant_of-self
invariant_of-self g c = empty_is_lazy _ _ _ _ _ _ c.self.invariant.sound.accepted c.self.invariant.sound.small
    c.self.invariant.sound.classes c.new.ensures
