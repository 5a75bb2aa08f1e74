use Rattle.determinize_lazy.proofs.{has_read}
use Rattle.determinize_lazy.proofs.lazy.LazyDfa.scan_text.Goals as goal

pub returns-clause-cache : goal.returns-clause-cache
returns-clause-cache g c = has_read c.in_ok-cursor.ensures.sound
    (rw (c.in_ok-cursor.ensures.value, c.in_ok-cursor.ensures.unchanged) at c.read_piece.ensures.left)
