use Rattle.std.proofs.Common.{◌≡◌, ◌*◌, ◌-◌, ◌<◌, ◌≤◌, arith, rules}
use Rattle.determinize_pattern.proofs.characters.Written.{Between, alike_more, before_all, before_more, before_same, byte_exactly, pushed, rest_exactly, rest_small}
use Rattle.determinize_pattern.specs.Private.Characters.{IsNumberOf, numbers_of}
use Rattle.determinize_pattern.proofs.utf8.+push_numbers.Goals.{then-not-is_empty+in_ok-branch+in_ok-push, then-count-gt0+in_ok-push_numbers+in_ok-branch-2, else-count-gt0, else-not-is_empty}
use Rattle.determinize_pattern.proofs.utf8.+push_numbers.Goals as goal

pub push_numbers-requires : goal.push_numbers-requires
push_numbers-requires t c = (
  omega (arith, c.if-count-gt0.true),
  (
    omega (arith, c.requires.count),
    λ v e. rest_small c.args.count c.args.runs.now c.in_ok-rest.rest.items
        (c.loop-digit.digit * numbers_of c.args.count) c.if-count-gt0.true c.in_ok-rest.ensures.part v
        (rw c.deref-then-count-gt0.ensures.value at e),
  ),
)

pub loop-digit-preserved : goal.loop-digit-preserved
loop-digit-preserved t c =
    let lead = c.args.lead in
    let count = c.args.count in
    let runs = c.args.runs.now in
    let rest = c.in_ok-rest.rest.items in
    let digit = c.loop-digit.digit in
    let past = c.in_ok-past.past in
    let some : digit < past = omega (arith, c.in_ok-past.ensures.within.0) in
    let order : digit ≤ past = omega (arith, some) in
    let alike = alike_more count runs rest digit past c.in_ok-rest.ensures.part
    (rw c.deref.ensures.value at c.in_ok-past.ensures.alike) in (
      elim c.if-not-is_empty.branch [
        | then-not-is_empty+in_ok-branch+in_ok-push w ↦
            rw w.branches-is (before_more lead count runs digit past _ _ _ order c.loop-digit.invariant.0
            (pushed (IsNumberOf lead count (Between count runs digit past)) _ _ w.if-count-gt0.branch'
            w.in_ok-push.ensures.items
            (elim w.if-count-gt0.branch [
              | then-count-gt0+in_ok-push_numbers+in_ok-branch-2 v ↦ rw v.branch'-is
                  (rest_exactly lead count digit past runs rest _ _ v.if-count-gt0.true some alike
                  (rw (v.new-rests.ensures.items, v.deref-then-count-gt0.ensures.value) at v.in_ok-push_numbers.ensures)
                  (rw (w.in_ok-branch.ensures, v.one_of.ensures) at v.in_ok-branch-2.ensures))
              | else-count-gt0 v ↦ rw v.branch'-is
                  (byte_exactly lead count digit past runs rest _ (omega (arith, v.if-count-gt0.false)) some alike
                  c.in_ok-rest.ensures.some (grind (arith, rules, w.if-not-is_empty.true, c.is_empty.ensures))
                  w.in_ok-branch.ensures)
            ])))
        | else-not-is_empty w ↦ rw w.branches-is
            (before_same lead count runs digit past rest _ _ order alike
            (grind (arith, rules, w.if-not-is_empty.false, c.is_empty.ensures)) c.loop-digit.invariant.0)
      ],
      c.in_ok-past.ensures.within.1,
    )

pub returns : goal.returns
returns t c =
    let end : c.loop-digit.digit ≡ 256 - c.args.lead =
    omega (arith, c.loop-digit.invariant.1, c.loop-digit-test.false) in
    before_all c.args.lead c.args.count c.args.runs.now _ _ c.requires.small (rw end at c.loop-digit.invariant.0)
