use Rattle.determinize_below.proofs.Common.{arith, refl, or-false, and-false, and-true}
use mathlib.Core.Bool.{or-true}
use Rattle.determinize_below.proofs.looks.LookSets.{Decides-same, has-insert, has-intersect, has-remove, has-subtract}
use Rattle.determinize_below.proofs.looks.LookSets.{has-union, same_other}
use Rattle.determinize_below.proofs.look_laws.look_member_law.Goals as goal

pub returns-clause-insert : goal.returns-clause-insert
returns-clause-insert c =
    rw (has-insert c.args.set c.args.look c.args.look, (Decides-same c.args.look c.args.look).1 refl, or-true) refl

pub returns-clause-insert_others : goal.returns-clause-insert_others
returns-clause-insert_others c = λ n. rw (
  has-insert c.args.set c.args.look c.args.member,
  same_other c.args.look c.args.member n,
  or-false,
) refl

pub returns-clause-remove : goal.returns-clause-remove
returns-clause-remove c =
    rw (has-remove c.args.set c.args.look c.args.look, (Decides-same c.args.look c.args.look).1 refl, and-false) refl

pub returns-clause-remove_others : goal.returns-clause-remove_others
returns-clause-remove_others c = λ n. rw (
  has-remove c.args.set c.args.look c.args.member,
  same_other c.args.look c.args.member n,
  and-true,
) refl

pub returns-clause-union : goal.returns-clause-union
returns-clause-union c = has-union c.args.set c.args.other c.args.member

pub returns-clause-intersect : goal.returns-clause-intersect
returns-clause-intersect c = has-intersect c.args.set c.args.other c.args.member

pub returns-clause-subtract : goal.returns-clause-subtract
returns-clause-subtract c =
    has-subtract c.args.set c.args.other c.args.member (omega (arith, c.as_repr-bits.ensures.small))
