use Rattle.determinize_find.proofs.streams.Steps.{fed_match}
use Rattle.determinize_find.proofs.pieces.Pieces.pass.Goals as goal

pub returns-clause-fed : goal.returns-clause-fed
returns-clause-fed g c nfa certain list = rw (← c.self.view_is) (fed_match nfa _ c.args.next.now list c.self.invariant
    (rw (← c.self.view_is) at certain) (rw (← c.self.view_is) at c.requires.apart))
