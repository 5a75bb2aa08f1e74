use Rattle.determinize_regex.proofs.Common.{on_err_weaker, on_ok_weaker, refl}
use Rattle.determinize_regex.proofs.StreamsOfPatterns.{fed_of}
use Rattle.determinize_regex.proofs.stream.Stream.feed.Goals as goal

pub invariant_of-self : goal.invariant_of-self
invariant_of-self g c = rw c.feed.ensures.same record {
  regex = c.self.invariant.regex;
  accepted = c.self.invariant.accepted;
  under_way = (c.feed.ensures.read c.self.invariant.under_way).searching;
}

pub returns : goal.returns
returns g c =
    let is = c.self.invariant.regex in
    let accepted = c.self.invariant.accepted in
    let read = c.feed.ensures.read c.self.invariant.under_way in
    rw (← c.self.view_is, c.feed.ensures.same) record {
      fed = on_ok_weaker c.feed.result (fed_of is accepted) read.fed;
      failed = on_err_weaker c.feed.result (λ part. (part.0, part.1, fed_of is accepted part.2)) read.failed;
      few = on_ok_weaker c.feed.result (λ few. record { means = is.means; apart = is.apart; few = few })
          (c.feed.ensures.few c.self.invariant.under_way);
      same = refl;
    }
