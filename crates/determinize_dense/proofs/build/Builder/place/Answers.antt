use Rattle.determinize_dense.proofs.Common.{arith, get_last, IsReachedValue, refl, rules, same_is, [], ◌++◌, ◌∷◌, ◌≡◌}
use Rattle.determinize_dense.proofs.Building.{building-value, one_too_many, out-of-memory, stays-same, stays-value}
use Rattle.determinize_dense.proofs.build.Builder.place.Goals.{In_default, In_ok-intern}
use Rattle.determinize_dense.proofs.build.Builder.place.Goals as goal

reached : (g : _) (c : In_default g)
    → IsReachedValue (g.R.AsNfa.nfa c.self.inside.nfa) c.self.inside.match_kind c.args.state.now
reached g c = rw (← c.self.view_is) at c.requires.reached

-- the table has it behind the others
grown : (g : _) (c : In_ok-intern g) → c.intern.new.self ≡ c.self.inside.states ++ c.args.state.now ∷ []
grown g c = let copy : c.in_ok-found.found ≡ c.args.state.now = search rules in rw copy at c.in_ok-intern.ensures.states

pub returns-then-eq-clause-at : goal.returns-then-eq-clause-at
returns-then-eq-clause-at g c =
    let found = same_is c.get.result.now c.args.state.now (rw (← c.eq.ensures) c.if-eq.true) in
    rw (← c.self.view_is, ← found) c.get.ensures

pub returns-then-eq-clause-stays : goal.returns-then-eq-clause-stays
returns-then-eq-clause-stays g c = stays-same c.args.self.now

pub returns-in-Some-clause-at : goal.returns-in-Some-clause-at
returns-in-Some-clause-at g c = rw (← c.self.view_is) c.in-Some.ensures.index

pub returns-in-Some-clause-stays : goal.returns-in-Some-clause-stays
returns-in-Some-clause-stays g c = stays-same c.args.self.now

pub returns-then-len-self-clause-many : goal.returns-then-len-self-clause-many
returns-then-len-self-clause-many g c = λ _.
    let d = (goal.at.returns-then-len-self-clause-many g c).In_default in
    rw (← c.self.view_is) (one_too_many _ c.self.invariant c.args.state.now c.in_default.ensures.index (reached g d)
    (rw c.len.ensures.value at c.if-len-self.true))

pub invariant_of-self-2 : goal.invariant_of-self-2
invariant_of-self-2 g c =
    let at = goal.at.invariant_of-self-2 g c in
    let few = c.self.invariant.few in
    rw (grown g at.In_ok-intern) (building-value _ c.self.invariant c.args.state.now c.in_default.ensures.index
    (reached g at.In_default) (rw (← c.self.view_is) at c.requires.resolve)
    (grind (arith, few, c.len.ensures.value, c.if-len-self.false)))

pub returns-clause-at : goal.returns-clause-at
returns-clause-at g c =
    let d = (goal.at.returns-clause-at g c).In_ok-intern in
    rw (grown g d, c.in_ok-intern.ensures.index) (get_last c.self.inside.states c.args.state.now)

pub returns-clause-stays : goal.returns-clause-stays
returns-clause-stays g c =
    let at = goal.at.returns-clause-stays g c in
    rw (← c.self.view_is, grown g at.In_ok-intern)
    (stays-value _ c.self.invariant c.args.state.now c.in_default.ensures.index (reached g at.In_default))

pub get-requires : goal.get-requires
get-requires g c = rw (← c.self.view_is) at c.requires.likely

pub returns-clause-next : goal.returns-clause-next
returns-clause-next g c = rw (← c.self.view_is) refl

pub returns-in_err-found-clause-many : goal.returns-in_err-found-clause-many
returns-in_err-found-clause-many g c = out-of-memory c.from_residual.ensures.1

pub returns-in_err-intern-clause-many : goal.returns-in_err-intern-clause-many
returns-in_err-intern-clause-many g c = out-of-memory c.from_residual-in_err-intern.ensures.1

pub returns-in_err-intern-clause-next : goal.returns-in_err-intern-clause-next
returns-in_err-intern-clause-next g c = rw (← c.self.view_is) refl

pub intern-requires : goal.intern-requires
intern-requires g c =
    let copy : c.in_ok-found.found ≡ c.args.state.now = search rules in rw copy c.in_default.ensures.index

pub invariant_of-self : goal.invariant_of-self
invariant_of-self g c = rw c.in_err-intern.ensures.err c.self.invariant
