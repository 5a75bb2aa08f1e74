use Rattle.determinize_find.proofs.Common.{length, rules, ◌<◌}
use Rattle.determinize_find.proofs.leftmost.TwoSearches.{all_bytes}
use Rattle.determinize_find.proofs.streams.Begun.{fresh}
use Rattle.determinize_find.proofs.pieces.Pieces.is_idle.Goals as goal

pub returns-then-is_idle-clause-fresh : goal.returns-then-is_idle-clause-fresh
returns-then-is_idle-clause-fresh g c searching is =
    let some : c.self.inside.start < length c.self.inside.kept.items = search rules in
    let small = rw c.as_slice-kept.ensures.value at (all_bytes c.as_slice-kept.result.now (search rules)) in
    rw (← c.self.view_is) (fresh c.args.regex.now.nfa c.self.inside.kept.items c.self.inside.start c.in-Some.scan
    (c.is_apart.ensures.0 is) small some (rw (← c.self.view_is, c.in-Some.is) at searching)
    (rw (c.nfa.ensures.value, c.forward.ensures.nfa) at (c.is_idle.ensures.0 c.if-is_idle.true)))
