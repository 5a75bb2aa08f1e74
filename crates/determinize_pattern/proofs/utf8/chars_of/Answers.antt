use Rattle.determinize_pattern.proofs.characters.Utf8.{chars_added}
use Rattle.determinize_pattern.specs.Private.Characters.{in_runs}
use Rattle.determinize_pattern.proofs.utf8.chars_of.Goals as goal

pub returns : goal.returns
returns c = rw c.one_of.ensures
    (chars_added (in_runs c.args.runs.now) _ _ _ _ _ (rw c.new-branches.ensures.items at c.in_ok-push_chars.ensures)
    c.in_ok-push_chars-2.ensures c.in_ok-push_chars-3.ensures c.in_ok-push_chars-4.ensures
    c.in_ok-push_chars-5.ensures)
