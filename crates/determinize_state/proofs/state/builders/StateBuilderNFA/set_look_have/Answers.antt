use Rattle.std.proofs.Common.{rules}
use Rattle.determinize_state.proofs.state.builders.StateBuilderNFA.set_look_have.Goals as goal

pub returns : goal.returns
returns g c = (c.set-answer.result, search rules, c.put_look_have.ensures)
