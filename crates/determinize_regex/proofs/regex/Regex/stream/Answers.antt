use Rattle.determinize_regex.proofs.Common.{[]}
use Rattle.determinize_regex.proofs.FoundOfPatterns.{with_limit}
use Rattle.determinize_regex.proofs.StreamsOfPatterns.{stream_of}
use Rattle.determinize_regex.proofs.regex.Regex.stream.Goals as goal

pub invariant_of-result : goal.invariant_of-result
invariant_of-result g c = rw (c.borrowed.ensures.value, c.as_slice.ensures.value) record {
  regex = with_limit c.self.invariant.regex c.args.limit;
  accepted = c.borrowed.ensures.accepted;
  under_way = c.new.ensures.searching c.self.inside.search.nfa;
}

pub returns-clause-stream : goal.returns-clause-stream
returns-clause-stream g c = rw (c.borrowed.ensures.value, c.as_slice.ensures.value)
    (stream_of (with_limit c.self.invariant.regex c.args.limit) c.borrowed.ensures.accepted c.new.result [] []
    (c.new.ensures.stream c.self.inside.search.nfa))
