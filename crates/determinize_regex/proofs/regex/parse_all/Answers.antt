use Rattle.determinize_regex.proofs.Common.{rules, sym, true≢false, ◌∙◌}
use Rattle.determinize_regex.proofs.Spelling.{rejects_at, spells_one_more}
use Rattle.determinize_regex.specs.Spelled as spelled
use Rattle.determinize_regex.proofs.regex.parse_all.Goals as goal

pub loop-i-init : goal.loop-i-init
loop-i-init c = rw c.new-patterns.ensures.items spelled.none

pub loop-i-preserved : goal.loop-i-preserved
loop-i-preserved c = spells_one_more (λ t. t.now) c.args.flags c.loop-i.patterns.items c.push.new.self.items
    c.in-Ok.pattern
    c.args.texts.now c.loop-i.i _ c.loop-i-test.true (search rules) c.loop-i.invariant c.in-Ok.ensures.spells

pub returns-in-Err-clause-rejected : goal.returns-in-Err-clause-rejected
returns-in-Err-clause-rejected c = rejects_at (λ t. t.now) c.args.flags c.loop-i.patterns.items c.args.texts.now
    c.loop-i.i _ c.in-Err.error c.loop-i-test.true c.loop-i.invariant (record {
      meaningless = λ fault re denotes. true≢false (sym (c.in-Err.ensures.complete re denotes) ∙ fault);
      nested = c.in-Err.ensures.nested;
      twice = c.in-Err.ensures.twice;
      range = c.in-Err.ensures.range;
    })
