use Rattle.determinize_core.proofs.Common.{[], arith, refl, rules, ◌++◌, ◌∙◌, ◌∷◌, ◌≡◌}
use Rattle.determinize_engine.proofs.Places.{interned-push}
use Rattle.std.proofs.lemmas.Grind.{common_steps}
use Rattle.std.proofs.lemmas.Result.{err_from_is_err_and}
use Rattle.determinize_engine.proofs.state_table.StateTable.intern.Goals as goal

pub invariant_of-self-in-Ok : goal.invariant_of-self-in-Ok
invariant_of-self-in-Ok g c =
    let key : c.in_ok-key.key ≡ c.args.state = search rules in
    let more : c.push.new.self.items ≡ c.self.inside.states.items ++ c.args.state ∷ [] = search rules in
    rw more (interned-push c.args.state c.self.invariant (rw c.self.view_is c.requires) (search rules) (search rules)
    (λ q. rw key at (c.in-Ok.ensures.updates.0 q)))

-- the state that was pushed is popped
back : (g : _) (c : goal.After-from g) → c.pop.new.self.items ≡ c.self.inside.states.items
back g c = grind (arith, common_steps)

pub invariant_of-self-in-Err : goal.invariant_of-self-in-Err
invariant_of-self-in-Err g c = rw (back g c, c.in-Err.ensures.err) c.self.invariant

pub invariant_of-self : goal.invariant_of-self
invariant_of-self g c = rw c.in_err-push.ensures.items c.self.invariant

pub returns-in-Ok-clause-limit : goal.returns-in-Ok-clause-limit
returns-in-Ok-clause-limit g c =
    omega (arith, c.self.invariant.few, c.if-index-eq-MAX_STATES.false, c.len-index.ensures)

pub returns-in-Ok-clause-states : goal.returns-in-Ok-clause-states
returns-in-Ok-clause-states g c = rw (← c.self.view_is) c.in_ok-push.ensures.items

pub returns-in-Err : goal.returns-in-Err
returns-in-Err g c = record { index = tt; limit = tt; states = tt; err = back g c ∙ c.self.view_is }

pub returns-in_err-push : goal.returns-in_err-push
returns-in_err-push g c =
    let (e, is, _) = err_from_is_err_and c.from_residual-in_err-push.result c.from_residual-in_err-push.ensures.1 in
    rw is record { index = tt; limit = tt; states = tt; err = rw c.in_err-push.ensures.items c.self.view_is }

pub returns-in_err-key : goal.returns-in_err-key
returns-in_err-key g c =
    let (e, is, _) = err_from_is_err_and c.from_residual.result c.from_residual.ensures.1 in
    rw is record { index = tt; limit = tt; states = tt; err = refl }

pub returns-in-Ok-clause-index : goal.returns-in-Ok-clause-index
returns-in-Ok-clause-index g c = rw (← c.self.view_is) (omega (arith, c.len-index.ensures))
