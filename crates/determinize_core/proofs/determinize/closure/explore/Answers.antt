use Rattle.determinize_core.proofs.Common.{accepted_sound, arith, has, inl, inr, refl, sym, ◌++◌, ◌∙◌, ◌≡◌}
use Rattle.std.proofs.Common.{reverse}
use Rattle.std.proofs.lemmas.List.{reverse-reverse}
use Rattle.determinize_core.proofs.closure.ClosureSteps.{so_far-ended, so_far-part, so_far-start, so_far-stopped}
use Rattle.determinize_core.proofs.closure.ClosureSteps.{so_far-tried, so_far-turn, tries-turn}
use Rattle.determinize_core.proofs.determinize.closure.explore.Goals as goal

pub loop-id-init : goal.loop-id-init
loop-id-init g c =
    let same : c.args.first.now ++ reverse c.reverse.new.self.items ≡ c.args.first.now ++ c.args.stack.now.items =
    rw (c.reverse.ensures.items, reverse-reverse) in
    record { so_far = so_far-start same c.requires.resolve; capacity = refl; resolve = inl (sym same) }

pub take_turn-requires-clause-resolve : goal.take_turn-requires-clause-resolve
take_turn-requires-clause-resolve g c =
    (rw c.in-Some.ensures.some at c.loop-id.invariant.so_far.below) 0 0 (omega arith)

pub loop-id-preserved : goal.loop-id-preserved
loop-id-preserved g c = record {
  so_far = so_far-turn c.loop-id.invariant.so_far (accepted_sound c.args.nfa.now c.requires.accepted) c.in-Some.id
      c.in-Some.ensures.some c.in_ok-current.ensures.ids
      (rw c.rest_of-others.ensures at c.in_ok-current.ensures.pending) c.in_ok-current.ensures.recorded
      c.in_ok-current.ensures.counted;
  capacity = c.in_ok-current.ensures.capacity ∙ c.loop-id.invariant.capacity;
  resolve = inr c.in_ok-current.ensures.resolve;
}

pub loop-id-smaller : goal.loop-id-smaller
loop-id-smaller g c = omega (
  arith,
  tries-turn c.args.nfa.now (accepted_sound c.args.nfa.now c.requires.accepted) (has c.args.look_have) _ c.in-Some.id
      c.in-Some.ensures.some c.in_ok-current.ensures.ids
      (rw c.rest_of-others.ensures at c.in_ok-current.ensures.pending),
)

pub returns-in_err-current-clause-part : goal.returns-in_err-current-clause-part
returns-in_err-current-clause-part g c =
    so_far-stopped c.loop-id.invariant.so_far (accepted_sound c.args.nfa.now c.requires.accepted) c.in-Some.id
    c.in-Some.ensures.some _ _ refl c.in_err-current.ensures.ids
    (c.in_err-current.ensures.capacity ∙ c.loop-id.invariant.capacity)

pub returns-in_err-current-clause-resolve : goal.returns-in_err-current-clause-resolve
returns-in_err-current-clause-resolve g c = inr c.in_err-current.ensures.resolve

pub returns-in_err-current-clause-bounded : goal.returns-in_err-current-clause-bounded
returns-in_err-current-clause-bounded g c =
    so_far-tried c.loop-id.invariant.so_far (accepted_sound c.args.nfa.now c.requires.accepted) c.in-Some.id
    c.in-Some.ensures.some c.in_err-current.ensures.counted

pub returns : goal.returns
returns g c =
    let ended = so_far-ended c.loop-id.invariant.so_far c.in_default.ensures.none in record {
      ids = ended.ids;
      part = so_far-part c.loop-id.invariant.so_far _ _ refl refl c.loop-id.invariant.capacity;
      resolve = rw c.in_default.ensures.none at c.loop-id.invariant.resolve;
      recorded = ended.recorded;
      counted = ended.counted;
      bounded = λ h. omega (arith, ended.counted h);
      stack = c.in_default.ensures.empty;
    }
