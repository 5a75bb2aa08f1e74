use Rattle.determinize_below.proofs.Common.{ap, arith, length, Nfa, node_of, ◌<◌, length-map}
use Rattle.determinize_below.proofs.nfas.StateChecks.{slice_get-map_read}
use Rattle.determinize_below.proofs.nfas.SoundNfa.{each_passes}
use Rattle.determinize_below.proofs.nfa.NFA.state.Goals as goal

pub returns : goal.returns
returns g c =
    let count = ap (λ (n : Nfa). length n.states) c.self.view_is in
    let within : c.as_usize.result < length c.self.inside.states.items =
    omega (arith, c.requires, c.as_usize.ensures.value, count, length-map c.self.inside.states.items node_of) in
    let there = slice_get-map_read node_of _ _ _ within c.index.ensures in
    let passed = each_passes _ c.self.invariant _ _ there in
    record {
      state = rw (← c.self.view_is, ← c.as_usize.ensures.value) there;
      ascends = passed.ascends;
      whole = passed.whole;
      accepted = rw c.self.view_is at c.self.invariant;
    }
