use Rattle.determinize_dense.proofs.Common.{arith, IsStart, rules, slot_number, slot_number-below, slot_number-from}
use Rattle.determinize_dense.proofs.Common.{Some, subst, sym, ◌<◌, ◌∙◌, ◌≡◌}
use Rattle.determinize_dense.proofs.Building.{more-before, err-as, starts-push, starts-stay, stays-more}
use Rattle.determinize_start.specs.StartSlots.{slot_of_number}
use Rattle.determinize_dense.proofs.build.Builder.starts.Goals as goal

pub returns-in_err-starts-clause-many : goal.returns-in_err-starts-clause-many
returns-in_err-starts-clause-many g c = λ same.
    more-before c.loop-slot.invariant.stays (c.in_err-starts.ensures.many (err-as same (search rules)))

pub loop-slot-preserved : goal.loop-slot-preserved
loop-slot-preserved g c =
    let slot = c.in-Some.slot in
    let at : slot_of_number c.loop-slot.number ≡ Some slot = sym c.from_usize.ensures ∙ c.in-Some.is in
    let number : slot_number slot ≡ c.loop-slot.number = slot_number-from c.loop-slot.number slot at in
    let room : slot_number slot < 12 = slot_number-below slot in
    record {
      stays = stays-more c.loop-slot.invariant.stays c.in_ok-starts.ensures.stays;
      next = c.in_ok-starts.ensures.next ∙ c.loop-slot.invariant.next;
      starts = starts-push slot c.in_ok-starts.field-0
          (starts-stay c.in_ok-starts.ensures.stays c.loop-slot.invariant.starts) number
          c.in_ok-starts.ensures.within
          (subst (λ n. IsStart n c.start.new.self.values slot c.in_ok-starts.field-0)
          c.loop-slot.invariant.stays.nfa c.in_ok-starts.ensures.at);
      below = omega (arith, number, room);
    }
