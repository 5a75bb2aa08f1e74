use Rattle.determinize_table.proofs.Common.{arith, sym, ◌∙◌}
use Rattle.determinize_table.proofs.Writing.{class-all, class-none, class-with, class-without, written_as, written_none}
use Rattle.determinize_table.proofs.Writing.{written_then}
use Rattle.determinize_table.proofs.table.TransitionTable.write_class.Goals as goal

pub loop-first-init : goal.loop-first-init
loop-first-init g c = written_as (class-none c.args.spans.now c.args.byte c.start-first.result c.start-first.ensures)
    (written_none _ _ _)

pub write_range-requires-clause-source : goal.write_range-requires-clause-source
write_range-requires-clause-source g c = rw c.loop-first.invariant.states c.requires.source

pub write_range-requires-clause-target : goal.write_range-requires-clause-target
write_range-requires-clause-target g c = rw c.loop-first.invariant.states c.requires.target

pub loop-first-preserved-then-are_in_one : goal.loop-first-preserved-then-are_in_one
loop-first-preserved-then-are_in_one g c = written_as (class-with c.args.spans.now c.args.byte c.loop-first.first
    c.run_end-run_end.result (omega (arith, c.run_end-run_end.ensures.limit)) c.run_end-run_end.ensures.run
    (sym c.are_in_one.ensures ∙ c.if-are_in_one.true)) (written_then c.loop-first.invariant c.write_range.ensures)

pub loop-first-preserved : goal.loop-first-preserved
loop-first-preserved g c = written_as (class-without c.args.spans.now c.args.byte c.loop-first.first
    c.run_end-run_end.result (omega (arith, c.run_end-run_end.ensures.limit)) c.run_end-run_end.ensures.run
    (sym c.are_in_one.ensures ∙ c.if-are_in_one.false)) c.loop-first.invariant

pub returns : goal.returns
returns g c = written_as (class-all c.args.spans.now c.args.byte c.loop-first.first
    (λ k in_it. omega (arith, c.end-end.ensures.after k in_it, c.loop-first-test.false))) c.loop-first.invariant
