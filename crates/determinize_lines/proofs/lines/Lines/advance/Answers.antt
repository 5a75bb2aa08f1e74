use Rattle.std.proofs.Common.{arith, ◌+◌}
use Rattle.std.proofs.lemmas.List.{length-drop, take_rest}
use Rattle.determinize_lines.proofs.Buffers.{in_part, part_of_rest}
use Rattle.determinize_lines.proofs.lines.Lines.advance.Goals as goal

pub invariant_of-self : goal.invariant_of-self
invariant_of-self g c = c.loop.invariant.reading

pub invariant_of-self-in_err-line : goal.invariant_of-self-in_err-line
invariant_of-self-in_err-line g c = rw c.find.ensures.same c.loop.invariant.reading

pub invariant_of-self-in-Some : goal.invariant_of-self-in-Some
invariant_of-self-in-Some g c =
    let first = rw c.in-Some.is at c.in_ok-line.ensures.first in
    let next = c.loop.self-inside.next in
    let lines = c.loop.self-inside.blocks.lines in
    let reading = c.loop.invariant.reading in
    let line = (rw (c.lines.ensures, take_rest lines next) at first).0 in
    let rest = length-drop next lines in
    rw c.find.ensures.same (record {
      read = reading.read;
      counted = reading.counted;
      order = omega (arith, line.order);
      within = omega (arith, line.within, rest, reading.others);
      others = omega (arith, rw (c.lines.ensures, take_rest lines next) at c.min.ensures, rest, reading.others);
    })

pub returns-in-Some-clause-matches : goal.returns-in-Some-clause-matches
returns-in-Some-clause-matches g c =
    let first = rw c.in-Some.is at c.in_ok-line.ensures.first in
    let next = c.loop.self-inside.next in
    let lines = c.loop.self-inside.blocks.lines in
    rw (c.in_ok-line.ensures.same, part_of_rest lines next c.in-Some.line.start c.in-Some.line.end)
    (rw (c.lines.ensures, take_rest lines next) at first.1)

pub returns-in-Some-clause-unbroken : goal.returns-in-Some-clause-unbroken
returns-in-Some-clause-unbroken g c =
    let first = rw c.in-Some.is at c.in_ok-line.ensures.first in
    let next = c.loop.self-inside.next in
    let lines = c.loop.self-inside.blocks.lines in
    let line = (rw (c.lines.ensures, take_rest lines next) at first).0 in
    rw (c.in_ok-line.ensures.same, part_of_rest lines next c.in-Some.line.start c.in-Some.line.end)
    (λ i is. let at = in_part _ c.in-Some.line.start c.in-Some.line.end i _ is in
    line.unbroken (c.in-Some.line.start + i) (omega arith) at.0 at.1)

pub invariant_of-self-in_err-advance : goal.invariant_of-self-in_err-advance
invariant_of-self-in_err-advance g c =
    let reading = c.loop.invariant.reading in
    rw (c.find.ensures.same, c.advance.ensures.ends, c.loop.invariant.start, c.loop.invariant.end) (record {
      read = reading.read;
      counted = reading.counted;
      order = omega arith;
      within = omega arith;
      others = omega arith;
    })

pub invariant_of-self-then-not-branch : goal.invariant_of-self-then-not-branch
invariant_of-self-then-not-branch g c =
    let reading = c.loop.invariant.reading in
    rw (c.find.ensures.same, c.advance.ensures.ends, c.loop.invariant.start, c.loop.invariant.end) (record {
      read = reading.read;
      counted = reading.counted;
      order = omega arith;
      within = omega arith;
      others = omega arith;
    })
