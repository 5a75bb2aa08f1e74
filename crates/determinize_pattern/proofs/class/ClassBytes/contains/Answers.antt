use Rattle.determinize_pattern.proofs.classes.Scanning.{in_some}
use Rattle.determinize_pattern.proofs.class.ClassBytes.contains.Goals as goal

pub returns : goal.returns
returns c = rw (← c.self.view_is, ← in_some c.self.inside.ranges.items c.args.byte)
    (rw c.deref.ensures.value at c.is_in_some.ensures)
