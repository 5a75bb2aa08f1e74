use Rattle.determinize_lazy.proofs.{arith, between, is-search, none_left, settled, ◌++◌}
use Rattle.determinize_lazy.proofs.scan.Scan.is_over.Goals as goal

pub returns-clause-settled : goal.returns-clause-settled
returns-clause-settled g c over nfa kind start behind bytes is =
    settled is (none_left c.args.self.now.state.states (grind arith))

pub returns-clause-search : goal.returns-clause-search
returns-clause-search g c over nfa kind start behind bytes accepted is more ahead =
    is-search nfa kind start (between behind (bytes ++ more) ahead) c.args.self.now.last accepted
    (settled is (none_left c.args.self.now.state.states (grind arith)) more ahead)
