use Rattle.std.proofs.Common.{◌∙◌, ap, arith, length, length-append, map, sym}
use Rattle.std.proofs.lemmas.Bool.{leb-true}
use Rattle.determinize_pattern.proofs.compiled.Starting.{nfa_of_built}
use Rattle.determinize_pattern.specs.Patterns.{meaning}
use Rattle.determinize_pattern.proofs.nfa.compile.Goals as goal

pub all-requires : goal.all-requires
all-requires g c = ap (λ b. b.patterns) c.new-compiler.ensures.builder

pub returns-clause-means : goal.returns-clause-means
returns-clause-means g c = nfa_of_built c.all.new.self.builder (map meaning c.args.patterns.now) c.in_ok-start.start _
    c.in_ok-start.ensures.finds c.in_ok-build_with_prefix.ensures.ok

pub returns-clause-nested : goal.returns-clause-nested
returns-clause-nested g c deep =
    absurd (omega (arith, leb-true _ _ (sym c.are_within.ensures ∙ c.if-not-are_within.false), deep))

pub returns-in_err-start-clause-nested : goal.returns-in_err-start-clause-nested
returns-in_err-start-clause-nested g c deep =
    absurd (omega (arith, leb-true _ _ (sym c.are_within.ensures ∙ c.if-not-are_within.false), deep))

pub returns-in_err-build_with_prefix-clause-nested : goal.returns-in_err-build_with_prefix-clause-nested
returns-in_err-build_with_prefix-clause-nested g c deep =
    absurd (omega (arith, leb-true _ _ (sym c.are_within.ensures ∙ c.if-not-are_within.false), deep))

pub returns-clause-prefix : goal.returns-clause-prefix
returns-clause-prefix g c = c.in_ok-build_with_prefix.ensures.prefix

pub returns-clause-separate : goal.returns-clause-separate
returns-clause-separate g c = c.in_ok-build_with_prefix.ensures.separate

pub returns-clause-forward : goal.returns-clause-forward
returns-clause-forward g c = c.in_ok-build_with_prefix.ensures.forward

pub returns-clause-terminator : goal.returns-clause-terminator
returns-clause-terminator g c = ap (λ n. n.terminator) c.in_ok-build_with_prefix.ensures.ok
    ∙ c.in_ok-start.ensures.terminator ∙ ap (λ b. b.terminator) c.new-compiler.ensures.builder

pub returns-clause-few : goal.returns-clause-few
returns-clause-few g c =
    let built = ap (λ n. length n.states) c.in_ok-build_with_prefix.ensures.ok
    ∙ length-append c.all.new.self.builder.states _ in
    let empty = ap (λ b. length b.states) c.new-compiler.ensures.builder in
    omega (arith, built, empty, c.new-compiler.ensures.left, c.in_ok-start.ensures.paid)
