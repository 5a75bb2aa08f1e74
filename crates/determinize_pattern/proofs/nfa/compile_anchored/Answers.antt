use Rattle.std.proofs.Common.{◌∙◌, ap, arith, length, map, sym}
use Rattle.std.proofs.lemmas.Bool.{leb-true}
use Rattle.determinize_pattern.proofs.compiled.Starting.{continues_without_prefix, nfa_of_continued}
use Rattle.determinize_pattern.specs.Patterns.{meaning}
use Rattle.determinize_pattern.proofs.nfa.compile_anchored.Goals as goal

pub all-requires : goal.all-requires
all-requires g c = ap (λ b. b.patterns) c.new-compiler.ensures.builder

pub returns-clause-means : goal.returns-clause-means
returns-clause-means g c =
    nfa_of_continued c.all.new.self.builder (map meaning c.args.patterns.now) c.in_ok-start.start _
    c.in_ok-start.ensures.finds (ap (λ n. n.start_anchored) c.in_ok-build.ensures.ok)
    (continues_without_prefix c.all.new.self.builder c.in_ok-start.start _ c.in_ok-build.ensures.ok)

pub returns-clause-anchored : goal.returns-clause-anchored
returns-clause-anchored g c = ap (λ n. n.start_unanchored) c.in_ok-build.ensures.ok
    ∙ sym (ap (λ n. n.start_anchored) c.in_ok-build.ensures.ok)

pub returns-clause-forward : goal.returns-clause-forward
returns-clause-forward g c = ap (λ n. n.reverse) c.in_ok-build.ensures.ok

pub returns-clause-nested : goal.returns-clause-nested
returns-clause-nested g c deep =
    absurd (omega (arith, leb-true _ _ (sym c.are_within.ensures ∙ c.if-not-are_within.false), deep))

pub returns-in_err-start-clause-nested : goal.returns-in_err-start-clause-nested
returns-in_err-start-clause-nested g c deep =
    absurd (omega (arith, leb-true _ _ (sym c.are_within.ensures ∙ c.if-not-are_within.false), deep))

pub returns-in_err-build-clause-nested : goal.returns-in_err-build-clause-nested
returns-in_err-build-clause-nested g c deep =
    absurd (omega (arith, leb-true _ _ (sym c.are_within.ensures ∙ c.if-not-are_within.false), deep))

pub returns-clause-terminator : goal.returns-clause-terminator
returns-clause-terminator g c = ap (λ n. n.terminator) c.in_ok-build.ensures.ok
    ∙ c.in_ok-start.ensures.terminator ∙ ap (λ b. b.terminator) c.new-compiler.ensures.builder

pub returns-clause-few : goal.returns-clause-few
returns-clause-few g c =
    let built = ap (λ n. length n.states) c.in_ok-build.ensures.ok in
    let empty = ap (λ b. length b.states) c.new-compiler.ensures.builder in
    omega (arith, built, empty, c.new-compiler.ensures.left, c.in_ok-start.ensures.paid)
