use Rattle.determinize_regex.proofs.Common.{drop, length, parts}
use Rattle.determinize_regex.proofs.Splitting.{AreLeft, IsCut}
use Rattle.determinize_regex.proofs.split.split_at.Given as goal

abbrev pub invariant-loop-next : goal.invariant-loop-next
invariant-loop-next g l = record {
  left : AreLeft (length l.text) l.at (drop l.next-index l.found);
  so_far : IsCut (λ part. part.now) l.text l.at (drop l.next-index l.found) l.cut.items (parts l.text 0 l.found);
}
