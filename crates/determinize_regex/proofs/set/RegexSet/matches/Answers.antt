use Rattle.determinize_regex.proofs.Common.{false, length, replicate, rules, ◌≡◌}
use Rattle.determinize_regex.proofs.SetsOfPatterns.{matching_in}
use Rattle.determinize_regex.proofs.set.RegexSet.matches.Goals as goal

pub returns-clause-matching : goal.returns-clause-matching
returns-clause-matching g c =
    let value = c.deref_mut.ensures.value in
    let clear : c.in_ok-flags.flags.items ≡ replicate (length c.args.self.now.patterns) false
    = rw c.patterns.ensures at (c.in_ok-flags.ensures.items_if_clones_equal (λ y e. search rules)) in
    let marks = c.in_ok-which_patterns.ensures in
    rw (← c.self.view_is) (matching_in _ _ _ c.self.invariant.regex c.args.input.now c.input_law.ensures.within
    c.input_law.ensures.bytes c.requires.start c.self.invariant.forward c.in_ok-flags.flags.items
    c.which_patterns.new.found c.in_ok-flags.flags.len (rw (← c.self.view_is) at clear) c.in_ok-flags.flags.ok.0
    (λ past. rw value at (marks.done past))
    (λ more. rw value at (marks.marked c.self.invariant.kind more)))
