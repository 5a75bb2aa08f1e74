use Rattle.determinize_dense.proofs.Common.{append-nil, arith, Some, [], ◌++◌, ◌≡◌}
use Rattle.determinize_dense.proofs.build.Builder.base.Goals as goal
use Rattle.std.proofs.lemmas.Bool.Decides.{Decides-eqb}
use Rattle.std.proofs.lemmas.Slice.Eq.{strip_suffix_is}

pub returns-in-Some : goal.returns-in-Some
returns-in-Some g c =
    let listed : c.args.listed ≡ c.args.row = grind (arith, c.if-listed-row.false) in
    let ids : c.args.ids.now ≡ c.in-Some.further.now ++ c.args.usual.now.further.now =
    strip_suffix_is Decides-eqb c.args.ids.now c.args.usual.now.further.now (Some c.in-Some.further)
    c.in-Some.ensures.cases in record {
      before = c.if-row-usual.true;
      ids = c.args.usual.now.further.now;
      of_base = c.requires.usual;
      of_row = rw (ids, listed) at c.requires.ids;
    }

pub returns : goal.returns
returns g c =
    let listed : c.args.listed ≡ c.args.row = grind (arith, c.if-listed-row.false) in record {
      before = grind (arith, c.if-row-eq0.false);
      ids = [];
      of_base = c.requires.dead;
      of_row = rw append-nil (rw listed at c.requires.ids);
    }
