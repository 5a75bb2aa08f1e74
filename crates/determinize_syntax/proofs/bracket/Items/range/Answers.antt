use Rattle.determinize_syntax.proofs.Common.{arith, char_pairs, renamed, rules}
use Rattle.determinize_syntax.specs.declared.bracket.Before.TheVariants.{AfterOne}
use Rattle.determinize_syntax.proofs.Listing.{range_listed}
use Rattle.determinize_syntax.proofs.Nexts.{hyphen_next}
use Rattle.determinize_syntax.proofs.bracket.Items.range.Goals as goal

pub returns-clause-read : goal.returns-clause-read
returns-clause-read c = λ e.
    rw c.in_ok-add.ensures.before (renamed _ _ c.in_ok-high.ensures.read (λ t x. range_listed c.args.flags e c.args.low
    c.in_ok-high.high (char_pairs c.args.self.now.ranges.items) (char_pairs c.add.new.self.ranges.items) t x
    c.if-high-low.false c.in_ok-add.ensures.ranges))

pub returns-in_err-high-clause-whole : goal.returns-in_err-high-clause-whole
returns-in_err-high-clause-whole c e u h =
    let x = hyphen_next c.args.flags u (AfterOne e c.args.low) _ h in
    search (rules, c.in_err-high.ensures.whole x.0 x.1 x.3)

pub returns-then-high-low-clause-whole : goal.returns-then-high-low-clause-whole
returns-then-high-low-clause-whole c e u h =
    let x = hyphen_next c.args.flags u (AfterOne e c.args.low) _ h in
    absurd (omega (arith, (c.in_ok-high.ensures.whole x.0 x.1 x.3).0, c.if-high-low.true, x.2))

pub returns-clause-whole : goal.returns-clause-whole
returns-clause-whole c e u h =
    let x = hyphen_next c.args.flags u (AfterOne e c.args.low) _ h in
    rw (c.in_ok-add.ensures.before, (c.in_ok-high.ensures.whole x.0 x.1 x.3).1) x.4
