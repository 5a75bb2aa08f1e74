use Rattle.std.proofs.Common.{◌≡◌, ◌+◌, ◌-◌, ◌<◌, ◌∙◌, [], arith, drop, length, map, sym}
use Rattle.std.proofs.lemmas.Bool.{false≢true}
use Rattle.std.proofs.lemmas.Grind.{common_steps}
use Rattle.std.proofs.lemmas.List.{drop_all, drop_more}
use Rattle.determinize_pattern.specs.Patterns.{choice, sequence, meaning}
use Rattle.determinize_pattern.proofs.compiled.Reads.{reads_byte, reads_either, reads_first, reads_repeated, reads_rest, reads_some_literal}
use Rattle.determinize_pattern.proofs.compiled.Patterns.{meaning_alternation, meaning_capture, meaning_class, meaning_concat, meaning_literal, meaning_repetition}
use Rattle.determinize_pattern.proofs.always_reads.+always_reads.Goals as goal

pub always_reads-returns-in-Concat : goal.always_reads-returns-in-Concat
always_reads-returns-in-Concat t c = λ h.
    rw (c.in-Concat.is, meaning_concat) (rw c.deref-in-Concat.ensures.value at (c.some_reads.ensures h))

pub always_reads-returns-in-Alternation : goal.always_reads-returns-in-Alternation
always_reads-returns-in-Alternation t c = λ h.
    rw (c.in-Alternation.is, meaning_alternation) (rw c.deref-in-Alternation.ensures.value at (c.each_reads.ensures h))

pub always_reads-returns-in-Capture : goal.always_reads-returns-in-Capture
always_reads-returns-in-Capture t c = λ h.
    rw (c.in-Capture.is, meaning_capture) (rw c.deref-in-Capture.ensures at (c.always_reads-in-Capture.ensures h))

pub always_reads-returns-in-Literal : goal.always_reads-returns-in-Literal
always_reads-returns-in-Literal t c = λ h.
    let some : 0 < length c.in-Literal.bytes.items = grind (arith, common_steps, h) in
    rw (c.in-Literal.is, meaning_literal) (reads_some_literal c.in-Literal.bytes.items some)

pub always_reads-returns-then-min-gt0 : goal.always_reads-returns-then-min-gt0
always_reads-returns-then-min-gt0 t c = λ h.
    rw (c.in-Repetition.is, meaning_repetition)
    (reads_repeated c.in-Repetition.min c.in-Repetition.max c.in-Repetition.greedy (meaning c.in-Repetition.sub.value)
    c.if-min-gt0.true (rw c.deref.ensures at (c.always_reads.ensures h)))

pub each_reads-loop-i-preserved-then-always_reads : goal.each_reads-loop-i-preserved-then-always_reads
each_reads-loop-i-preserved-then-always_reads t c = λ h.
    let i = c.loop-i.i in
    let back : i - 1 + 1 ≡ i = omega arith in
    let sub = c.index-subs-i.result in
    rw (drop_more c.args.subs.now (i - 1) sub (omega arith), back, ← c.index-subs-i.is)
    (reads_either (meaning sub) (choice (map meaning (drop i c.args.subs.now)))
    (c.always_reads.ensures c.if-always_reads.true)
    (c.loop-i.invariant h))

pub each_reads-returns : goal.each_reads-returns
each_reads-returns t c = let start : c.loop-i.i ≡ 0 = omega arith in rw start at c.loop-i.invariant

pub some_reads-loop-i-preserved-then-always_reads : goal.some_reads-loop-i-preserved-then-always_reads
some_reads-loop-i-preserved-then-always_reads t c = λ h.
    let i = c.loop-i.i in
    let back : i - 1 + 1 ≡ i = omega arith in
    let sub = c.index-subs-i.result in
    rw (drop_more c.args.subs.now (i - 1) sub (omega arith), back, ← c.index-subs-i.is)
    (reads_first (meaning sub) (sequence (map meaning (drop i c.args.subs.now))) (c.always_reads.ensures h))

pub some_reads-loop-i-preserved : goal.some_reads-loop-i-preserved
some_reads-loop-i-preserved t c = λ h.
    let i = c.loop-i.i in
    let back : i - 1 + 1 ≡ i = omega arith in
    let sub = c.index-subs-i.result in
    rw (drop_more c.args.subs.now (i - 1) sub (omega arith), back, ← c.index-subs-i.is)
    (reads_rest (meaning sub) (sequence (map meaning (drop i c.args.subs.now))) (c.loop-i.invariant h))

pub some_reads-returns : goal.some_reads-returns
some_reads-returns t c = let start : c.loop-i.i ≡ 0 = omega arith in rw start at c.loop-i.invariant

pub always_reads-returns-in-Class : goal.always_reads-returns-in-Class
always_reads-returns-in-Class t c = λ h. rw (c.in-Class.is, meaning_class) (reads_byte c.in-Class.field-0)

pub each_reads-loop-i-init : goal.each_reads-loop-i-init
each_reads-loop-i-init t c = λ h.
    rw (drop_all (length c.args.subs.now) c.args.subs.now (omega arith)) (reads_byte [])

pub each_reads-loop-i-preserved : goal.each_reads-loop-i-preserved
each_reads-loop-i-preserved t c = λ h. absurd (false≢true (sym c.if-always_reads.false ∙ h))
