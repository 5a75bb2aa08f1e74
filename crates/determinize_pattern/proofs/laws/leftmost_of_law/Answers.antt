use Rattle.determinize_pattern.proofs.entries.Leftmost.{leftmost_is_of}
use Rattle.determinize_pattern.proofs.laws.leftmost_of_law.Goals as goal

pub returns : goal.returns
returns c res nfa is text latest m = leftmost_is_of nfa res is text latest m
