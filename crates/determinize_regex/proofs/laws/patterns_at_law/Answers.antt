use Rattle.determinize_regex.proofs.ListsOfPatterns.{each_anchored_list_is_of, each_list_is_of}
use Rattle.determinize_regex.proofs.laws.patterns_at_law.Goals as goal

pub returns : goal.returns
returns c = record { anchored = each_anchored_list_is_of; unanchored = each_list_is_of }
