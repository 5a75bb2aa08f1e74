use Rattle.determinize_regex.proofs.FoundOfPatterns.{each_leftmost_in_is_of, each_matches_are_of}
use Rattle.determinize_regex.proofs.laws.matches_of_law.Goals as goal

pub returns : goal.returns
returns c = record { leftmost = each_leftmost_in_is_of; all = each_matches_are_of }
