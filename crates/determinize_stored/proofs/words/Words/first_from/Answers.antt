use Rattle.determinize_core.proofs.Common.{arith, subst, take_all, ◌<◌}
use Rattle.std.specs.Prelude.{All}
use Rattle.std.proofs.lemmas.List.Elements.{All-more}
use Rattle.determinize_stored.proofs.words.Words.first_from.Goals as goal

pub loop-index-preserved : goal.loop-index-preserved
loop-index-preserved c =
    let count = c.len-index-end.ensures.count in
    let test = c.loop-index-test.true in
    record {
      below = All-more (λ w. w < c.args.limit) c.args.self.now c.loop-index.index 0 (omega (arith, count, test))
          c.loop-index.invariant.below (subst (λ n. n < c.args.limit) c.get.ensures c.if-get-limit.false);
    }

pub returns-clause-none : goal.returns-clause-none
returns-clause-none c =
    let count = c.len-index-end.ensures.count in
    let test = c.loop-index-test.false in
    subst (λ ws. All (λ w. w < c.args.limit) ws)
    (take_all c.loop-index.index c.args.self.now (omega (arith, count, test))) c.loop-index.invariant.below
