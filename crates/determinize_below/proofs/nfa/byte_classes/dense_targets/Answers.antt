use Rattle.determinize_below.proofs.Common.{◌≡◌, ◌∙◌, arith, dense_target, length-set, None}
use Rattle.determinize_below.proofs.Written.{set_more}
use Rattle.determinize_below.proofs.nfa.byte_classes.dense_targets.Goals as goal

pub loop-byte-preserved : goal.loop-byte-preserved
loop-byte-preserved g c = record {
  count = length-set _ _ _ ∙ c.loop-byte.invariant.count;
  written = set_more (λ b x. x ≡ dense_target c.args.dense.now b) None _ _ _ (omega arith)
      c.loop-byte.invariant.written c.matches_byte.ensures;
}
