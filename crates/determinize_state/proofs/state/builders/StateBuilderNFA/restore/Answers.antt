use Rattle.determinize_state.proofs.building.RestoredMarks.{cut_back, grown_back}
use Rattle.determinize_state.proofs.state.builders.StateBuilderNFA.restore.Goals as goal

pub invariant_of-self : goal.invariant_of-self
invariant_of-self g c =
    rw c.truncate.ensures.items
    (cut_back c.requires.0 _ _ c.args.mark c.self.invariant.is c.self.view_is c.requires.1 c.requires.2).0

pub returns : goal.returns
returns g c v m grown =
    let cut = cut_back v _ _ c.args.mark c.self.invariant.is c.self.view_is m grown in
    rw (c.put_look_need.ensures, c.put_look_have.ensures, c.truncate.ensures.items, cut.1)
    (grown_back v _ c.args.mark m grown)
