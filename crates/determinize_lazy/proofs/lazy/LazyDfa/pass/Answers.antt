use Rattle.determinize_lazy.proofs.{goes-scanned, goes_none, lazy-sound}
use Rattle.determinize_lazy.proofs.lazy.LazyDfa.pass.Goals as goal

pub returns-then-row : goal.returns-then-row
returns-then-row g c earliest =
    goes_none c.args.self.now earliest c.args.text.now c.args.from c.requires.position c.requires.read

pub returns : goal.returns
returns g c earliest = goes-scanned c.args.self.now (lazy-sound c.self.invariant c.self.view_is) c.args.text.now
    c.args.from c.requires.position c.requires.read (rw (← c.self.view_is) c.scan.ensures) earliest
