use Rattle.determinize_regex.proofs.Common.{arith, each_matches_are_apart, IfOk-weaker, length, rules, whole, ◌≡◌, ◌≤◌}
use Rattle.determinize_regex.proofs.FoundOfPatterns.{all_by}
use Rattle.determinize_regex.proofs.regex.Regex.matches_in.Goals as goal

pub returns-clause-all : goal.returns-clause-all
returns-clause-all g c =
    let asked : c.new.result ≡ whole c.args.text.now = search rules in
    rw (← asked) (all_by c.self.view_is c.self.invariant.regex c.new.result c.find_all.result (λ found. found.items)
    c.find_all.ensures.all)

pub returns-clause-apart : goal.returns-clause-apart
returns-clause-apart g c =
    let asked : c.new.result ≡ whole c.args.text.now = search rules in
    let inside : length c.args.text.now ≤ length c.args.text.now = omega arith in
    IfOk-weaker c.find_all.result _ _
    (λ found all. each_matches_are_apart _ (whole c.args.text.now) found.items inside all)
    (rw asked at c.find_all.ensures.all)
