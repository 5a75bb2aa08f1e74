use Rattle.determinize_core.proofs.Common.{[], arith, begun, has, reach_past, refl, tries_left, tries_of, ◌++◌}
use Rattle.determinize_core.proofs.Common.{◌∙◌, ◌≡◌}
use Rattle.determinize_start.specs.LookTables.{LookBehindValue}
use Rattle.determinize_core.proofs.step.StepParts.{have_left, recorded_is_closure, tries_are}
use Rattle.determinize_core.proofs.determinize.transition.enter.Given.{Over}
use Rattle.determinize_core.proofs.determinize.transition.enter.Goals.{After-set_flags}
use Rattle.determinize_core.proofs.determinize.transition.enter.Goals as goal

-- equal look-behinds have equal assertions
same_looks : {t b : LookBehindValue} → t ≡ b → t.looks ≡ b.looks
same_looks e = rw e refl

-- the builder with the flags
flagged : (g : Over) (c : After-set_flags g) → c.set_flags.new.builder
    ≡ begun c.args.look_behind.from_word c.args.look_behind.half_crlf 0 c.args.builder.now.patterns
flagged g c = rw (c.set_flags.ensures, c.requires.unrecorded) refl

-- the set is empty
held : (g : Over) (c : After-set_flags g) → c.clear.new.self.ids ≡ []
held g c = rw c.clear.ensures refl

-- the tries of the search, which starts from an empty set
tried : (g : Over) (c : After-set_flags g) (t : LookBehindValue) → t ≡ c.args.look_behind
    → tries_left c.args.nfa.now (has t.looks) c.clear.new.self.ids (c.args.first.now ++ c.args.stack.now.items)
    ≡ tries_of c.args.nfa.now (has c.args.look_behind.looks) (c.args.first.now ++ c.args.stack.now.items)
tried g c t e = tries_are c.args.nfa.now _ _ (same_looks e) _ _ (held g c)

pub returns-in_err-explore-clause-bounded : goal.returns-in_err-explore-clause-bounded
returns-in_err-explore-clause-bounded g c =
    let w = (goal.at.returns-in_err-explore-clause-bounded g c).After-set_flags in
    λ h. omega (arith, tried g w _ c.look_behind.view_is, c.explore.ensures.bounded h)

pub set_look_have-requires : goal.set_look_have-requires
set_look_have-requires g c =
    let w = (goal.at.set_look_have-requires g c).After-set_flags in
    have_left c.args.nfa.now c.set_flags.new.builder c.explore.new.recorder
    (reach_past c.args.nfa.now (has c.look_behind.inside.looks) c.clear.new.self.ids
    (c.args.first.now ++ c.args.stack.now.items))
    c.in_ok-explore.ensures.recorded ∙ rw (flagged g w) refl

pub returns-clause-ok : goal.returns-clause-ok
returns-clause-ok g c =
    let w = (goal.at.returns-clause-ok g c).After-set_flags in
    c.set_look_have.ensures
    ∙ recorded_is_closure c.args.nfa.now _ _ (same_looks c.look_behind.view_is) _
    (c.args.first.now ++ c.args.stack.now.items) (held g w) _ _ c.args.look_behind.from_word
    c.args.look_behind.half_crlf c.args.builder.now.patterns (flagged g w) c.in_ok-explore.ensures.recorded

pub returns-clause-counted : goal.returns-clause-counted
returns-clause-counted g c =
    let w = (goal.at.returns-clause-counted g c).After-set_flags in
    λ h. omega (arith, tried g w _ c.look_behind.view_is, c.in_ok-explore.ensures.counted h)

pub returns-clause-bounded : goal.returns-clause-bounded
returns-clause-bounded g c =
    let w = (goal.at.returns-clause-bounded g c).After-set_flags in
    λ h. omega (arith, tried g w _ c.look_behind.view_is, c.explore.ensures.bounded h)
