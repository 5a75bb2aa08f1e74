use Rattle.determinize_dense.proofs.Common.{arith, dead, MAX_STATES, min, rules, [], ◌∷◌, ◌≡◌}
use Rattle.determinize_dense.proofs.Building.{building-first, more-than-none}
use Rattle.determinize_dense.proofs.build.Builder.new.Goals as goal

pub returns-then-limit-eq0-clause-many : goal.returns-then-limit-eq0-clause-many
returns-then-limit-eq0-clause-many g c = λ _.
    more-than-none (g.R.AsNfa.nfa c.args.nfa) c.args.match_kind (rw c.min-limit.ensures at c.if-limit-eq0.true)

pub invariant_of-result : goal.invariant_of-result
invariant_of-result g c =
    let least : c.min-limit.result ≡ min c.args.limit MAX_STATES = c.min-limit.ensures in
    let states : c.intern.new.self ≡ dead ∷ [] = search rules in
    rw (c.in_ok-next.ensures.items, states)
    (building-first (g.R.AsNfa.nfa c.args.nfa) c.args.match_kind c.byte_classes-classes.result c.min-limit.result
    (rw c.nfa.ensures at c.byte_classes-classes.ensures.accepted)
    (rw c.nfa.ensures at c.byte_classes-classes.ensures.classes) c.alphabet_len.ensures.sound
    (grind (arith, c.if-limit-eq0.false)) (grind (arith, least)))
