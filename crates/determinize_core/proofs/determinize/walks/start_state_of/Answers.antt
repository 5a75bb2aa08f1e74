use Rattle.determinize_core.proofs.Common.{arith, has, tables_of, ◌≡◌}
use Rattle.determinize_core.proofs.step.Resolving.{closure_resolves, is-start_of, kind_value}
use Rattle.determinize_start.specs.LookTables.{start_have}
use Rattle.determinize_core.proofs.determinize.walks.start_state_of.Goals as goal

pub returns : goal.returns
returns g c =
    let nfa = c.args.nfa.now in
    let done : c.enter-result.new.builder ≡ kind_value nfa c.args.start c.args.kind = grind arith in
    record {
      ok = rw done (is-start_of nfa c.args.start c.args.kind);
      resolve = rw done (closure_resolves nfa c.requires.accepted
          (has (start_have (tables_of nfa) c.args.kind)) c.args.start c.requires.resolve);
      scratch = grind arith;
    }
