use Rattle.determinize_bench.proofs.tests.alloc_failure.steps.step.Given as goal

abbrev pub ghosts-count : goal.ghosts-count
ghosts-count g a = record { name = a.blank.name; parts = a.blank.parts }
