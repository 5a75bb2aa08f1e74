use Rattle.determinize_regex.proofs.Common.{by_cases, IfOk-weaker, IfSome_then, inl, inr, on_err_weaker}
use Rattle.determinize_linear.proofs.search.Left.{if_none}
use Rattle.determinize_regex.proofs.StreamsOfPatterns.{found_in, front_fed_of, keeps_of}
use Rattle.determinize_regex.proofs.stream.Stream.advance.Goals as goal

pub invariant_of-self : goal.invariant_of-self
invariant_of-self g c = rw c.advance.ensures.same record {
  regex = c.self.invariant.regex;
  accepted = c.self.invariant.accepted;
  under_way = (c.advance.ensures.read c.self.invariant.under_way).searching;
}

pub returns-clause-read : goal.returns-clause-read
returns-clause-read g c = rw (← c.self.view_is, c.advance.ensures.same) (IfOk-weaker c.advance.result _ _
    (λ next. front_fed_of c.self.invariant.regex c.self.invariant.accepted)
    (c.advance.ensures.read c.self.invariant.under_way).fed)

pub returns-clause-failed : goal.returns-clause-failed
returns-clause-failed g c = rw (← c.self.view_is, c.advance.ensures.same) (on_err_weaker c.advance.result
    (front_fed_of c.self.invariant.regex c.self.invariant.accepted)
    (c.advance.ensures.read c.self.invariant.under_way).failed)

pub returns-clause-few : goal.returns-clause-few
returns-clause-few g c = rw c.advance.ensures.same (IfOk-weaker c.advance.result _ _
    (λ next. if_none _ _ next (keeps_of c.self.invariant.regex c.self.invariant.accepted))
    (c.advance.ensures.few c.self.invariant.under_way))

pub returns-clause-block : goal.returns-clause-block
returns-clause-block g c = rw (← c.self.view_is, c.advance.ensures.same) (IfOk-weaker c.advance.result _ _
    (λ next h. IfSome_then next h (λ m found. by_cases found
    (λ same. inl same)
    (λ f. inr (found_in c.self.invariant.regex c.self.invariant.accepted f))))
    (c.advance.ensures.block c.self.invariant.under_way))
