use Rattle.determinize_core.proofs.Common.{ap, arith, length, ◌*◌, ◌+◌, ◌≤◌}
use Rattle.determinize_stored.proofs.Heads.{long_enough}
use Rattle.determinize_stored.proofs.Lists.{slice-length, split_parts}
use Rattle.determinize_stored.proofs.format.Parts.split.Goals as goal

pub returns-then-len-patterns-clause-none : goal.returns-then-len-patterns-clause-none
returns-then-len-patterns-clause-none c = λ s whole same.
    let long = long_enough c.args.words.now c.args.head.now s c.requires whole same in
    let test = c.if-len-patterns.true in
    let count = c.len.ensures.count in
    absurd (let no : ⊥ = omega (arith, long, test, count) in no)

pub returns-clause-parts : goal.returns-clause-parts
returns-clause-parts c =
    let test = c.if-len-patterns.false in
    let count = c.len.ensures.count in
    let last = c.len-2.ensures.count in
    rw (
      c.range-classes.ensures,
      c.range-starts.ensures,
      c.range-next.ensures,
      c.range-ends.ensures,
      c.range-patterns.ensures,
      last,
    )
    (split_parts c.args.words.now 7 263 275 (275 + c.args.head.now.rows * (c.args.head.now.class_count + 1))
    (275 + c.args.head.now.rows * (c.args.head.now.class_count + 1) + c.args.head.now.rows)
    (omega arith) (omega arith) (omega arith) (omega arith) (omega (arith, test, count)))

pub returns-clause-sizes : goal.returns-clause-sizes
returns-clause-sizes c =
    let ws = c.args.words.now in
    let h = c.args.head.now in
    let test = c.if-len-patterns.false in
    let count = c.len.ensures.count in
    let room : 275 + h.rows * (h.class_count + 1) + h.rows ≤ length ws = omega (arith, test, count) in
    let classes = ap length c.range-classes.ensures in
    let starts = ap length c.range-starts.ensures in
    let next = ap length c.range-next.ensures in
    let ends = ap length c.range-ends.ensures in
    let a = slice-length ws 7 263 (omega (arith, room)) in
    let b = slice-length ws 263 275 (omega (arith, room)) in
    let d = slice-length ws 275 (275 + h.rows * (h.class_count + 1)) (omega (arith, room)) in
    let e = slice-length ws (275 + h.rows * (h.class_count + 1)) (275 + h.rows * (h.class_count + 1) + h.rows)
    (omega (arith, room)) in
    record {
      classes = omega (arith, classes, a);
      starts = omega (arith, starts, b);
      next = omega (arith, next, d);
      ends = omega (arith, ends, e);
    }
