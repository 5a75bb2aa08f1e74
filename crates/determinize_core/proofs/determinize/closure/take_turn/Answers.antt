use Rattle.determinize_core.proofs.Common.{false, has_id, refl, sym, ◌∙◌, ◌≡◌}
use Rattle.std.proofs.lemmas.Bool.{not-true}
use Rattle.determinize_core.proofs.determinize.closure.take_turn.Goals as goal

pub returns-then-insert : goal.returns-then-insert
returns-then-insert g c =
    let new : has_id c.args.set.now.ids c.args.id ≡ false = not-true _ (sym c.if-insert.ensures.new) in
    let capacity : c.insert.new.self.capacity ≡ c.args.set.now.capacity = rw c.if-insert.ensures.after refl in
    record {
      ids = rw (c.if-insert.ensures.after, new) refl;
      pending = rw new c.record_and_follow.ensures.pending;
      recorded = rw new c.record_and_follow.ensures.recorded;
      capacity = capacity;
      resolve = rw (capacity ∙ c.requires.capacity) at c.if-insert.ensures.members.below;
      counted = c.count.ensures;
    }
