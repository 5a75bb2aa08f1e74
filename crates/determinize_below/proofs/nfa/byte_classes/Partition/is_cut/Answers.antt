use Rattle.determinize_below.proofs.Common.{◌≤◌, arith, below_more, get_or}
use Rattle.determinize_below.proofs.nfas.Partitions.{split_uncut}
use Rattle.determinize_below.proofs.nfa.byte_classes.Partition.is_cut.Goals as goal

pub loop-byte-preserved : goal.loop-byte-preserved
loop-byte-preserved c = λ b l h. below_more
    (λ b. c.args.start ≤ b → (c.args.start ≤ get_or c.args.self.now.least b 0)
    × (get_or c.args.self.now.greatest (get_or c.args.self.now.least b 0) 0 ≤ c.args.end))
    _ (λ b h l. c.loop-byte.invariant b l h)
    (λ l. (c.if-first-start.false, rw c.from.ensures at c.if-self-from.false)) b h l

pub returns : goal.returns
returns c = λ h. split_uncut _ _ c.args.self.now.classes c.args.self.now.bound c.args.start c.args.end
    (λ b l m. c.loop-byte.invariant b l (omega (arith, m, c.loop-byte-test.false, c.from-byte-end.ensures)))
