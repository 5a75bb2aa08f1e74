use Rattle.std.proofs.Common.{rules}
use Rattle.std.proofs.lemmas.List.{get_or_read}
use Rattle.determinize_below.proofs.Common.{◌≡◌, ◌∙◌, arith, Decides, false, get_or, length-set, None}
use Rattle.determinize_below.proofs.Written.{set_more}
use Rattle.determinize_below.proofs.nfa.byte_classes.bytes_to.Goals as goal

pub loop-byte-preserved : goal.loop-byte-preserved
loop-byte-preserved c =
    let at = get_or_read c.args.targets.now c.loop-byte.byte _ (omega arith) c.index-targets-byte.is None in
    record {
      count = length-set _ _ _ ∙ c.loop-byte.invariant.count;
      marked = set_more (λ b x. Decides x (get_or c.args.targets.now b None ≡ c.args.target)) false _ _ _ (omega arith)
          c.loop-byte.invariant.marked (rw (← at) (search rules));
    }
