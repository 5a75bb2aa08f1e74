use Rattle.determinize_table.proofs.Common.{inl, inr, rules, sym, ◌∙◌, ◌≡◌}
use Rattle.determinize_below.specs.ByteClasses.{class_of}
use Rattle.determinize_table.proofs.ClassRuns.{below-all, below-next, below-none}
use Rattle.determinize_table.proofs.spans.ClassSpans.new.Goals.{else-class-get, then-class-get}
use Rattle.determinize_table.proofs.spans.ClassSpans.new.Goals as goal

pub loop-byte-init : goal.loop-byte-init
loop-byte-init c = below-none c.args.classes

pub loop-byte-preserved : goal.loop-byte-preserved
loop-byte-preserved c =
    let e : c.from.result ≡ class_of c.args.classes c.loop-byte.byte = search rules in
    rw e (below-next c.args.classes c.alphabet_len.ensures.sound c.loop-byte.byte c.loop-byte.first c.loop-byte.lasts
    c.loop-byte.runs c.loop-byte.invariant c.if-class-get.first c.loop-byte-test.true
    (elim c.if-class-get.branch [
      | then-class-get w ↦ inl w.first-is
      | else-class-get w ↦ inr (w.first-is, sym c.get-class.ensures.class ∙ w.if-class-get.false ∙ c.get.ensures.class)
    ]))

pub invariant_of-result : goal.invariant_of-result
invariant_of-result c = below-all c.args.classes c.alphabet_len.ensures.sound c.loop-byte.byte c.loop-byte.first
    c.loop-byte.lasts c.loop-byte.runs c.loop-byte.invariant c.loop-byte-test.false
