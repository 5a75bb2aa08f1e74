use Rattle.std.proofs.Common.{◌∙◌, ap, refl, sym}
use Rattle.determinize_core.specs.LastMatch.{last_match}
use Rattle.determinize_core.proofs.walk.ValueWalks.{last_is}
use Rattle.determinize_uses.proofs.walk.preferred.Goals as goal

-- the slice has the states of the walk
pub returns-clause-none : goal.returns-clause-none
returns-clause-none g c none =
    (c.in_ok-states.ensures.leftmost_first refl).none
    (sym (last_is c.in_ok-states.states.items) ∙ sym (ap last_match c.as_slice.ensures.value)
    ∙ sym c.last_match-found.ensures ∙ none)
