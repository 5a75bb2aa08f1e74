use Rattle.std.proofs.Common.{drop, inr, map}
use Rattle.determinize_pattern.proofs.compiled.FirstClasses.{row_first}
use Rattle.determinize_pattern.specs.Patterns.{meaning, sequence}
use Rattle.determinize_pattern.proofs.first_class.first_class.Goals as goal

pub returns-in-Some-Class : goal.returns-in-Some-Class
returns-in-Some-Class c =
    let first = c.in-Some-Class in
    rw first.class-is (inr (
      c.in-Concat.subs,
      sequence (map meaning (drop 1 c.in-Concat.subs.items)),
      c.in-Concat.is,
      row_first c.in-Concat.subs c.args.pattern.now first.field-0.now first.class c.in-Concat.is
          (rw c.deref.ensures.value at first.ensures.value) first.field-0-is,
    ))
