use Rattle.std.specs.Prelude.{slice_index}
use Rattle.determinize_core.proofs.Common.{arith, inl}
use Rattle.determinize_lines.proofs.Buffers.{last_of_front}
use Rattle.determinize_lines.proofs.blocks.Blocks.advance.Goals as goal

pub returns-in-Some-clause-whole : goal.returns-in-Some-clause-whole
returns-in-Some-clause-whole g c =
    let b = c.self-in-loop-2.inside in
    let found = rw c.deref.ensures.value at c.in-Some.ensures in
    let high = found.high in
    let inside = c.self-in-loop-2.invariant.1 in
    let last = last_of_front b.bytes.items c.in-Some.last (omega arith) in
    inl (slice_index b.bytes.items c.in-Some.last, last, found.found)
