use Rattle.std.proofs.Common.{arith}
use Rattle.std.proofs.lemmas.Result.{IfOk-weaker}
use Rattle.determinize_linear.proofs.search.InTurn.{best_end}
use Rattle.determinize_linear.proofs.search.Left.{if_none, left_later}
use Rattle.determinize_linear.proofs.linear.DepthFirstMatcher.search_from.Goals as goal

pub returns-clause-best : goal.returns-clause-best
returns-clause-best g c = IfOk-weaker c.search_from.result _ _ (λ found h. λ nfa e. rw (← e) h)
    c.search_from.ensures.best

pub returns-clause-order : goal.returns-clause-order
returns-clause-order g c = IfOk-weaker c.search_from.result _ _
    (λ found h. best_end c.args.self.now.nfa.now c.args.text.now c.args.from found h) c.search_from.ensures.best

pub returns-clause-unpaid : goal.returns-clause-unpaid
returns-clause-unpaid g c = IfOk-weaker c.search_from.result _ _
    (λ found h. if_none _ _ found (λ none k l. omega (
      arith,
      none,
      left_later c.args.self.now.nfa.now c.args.text.now c.args.from k c.search_from.new.visited l,
    )) h) c.search_from.ensures.unpaid
