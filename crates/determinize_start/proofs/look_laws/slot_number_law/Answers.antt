use Rattle.determinize_start.proofs.kinds.StartSlots.{slot-back}
use Rattle.determinize_start.proofs.look_laws.slot_number_law.Goals as goal

pub returns-clause-back : goal.returns-clause-back
returns-clause-back c = slot-back c.args.slot
