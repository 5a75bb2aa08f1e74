use Rattle.determinize_core.proofs.Common.{ap, take, ◌++◌, ◌∙◌}
use Rattle.determinize_lines.proofs.Buffers.{front}
use Rattle.determinize_lines.proofs.blocks.Blocks.first_bytes.Goals as goal
use Rattle.determinize_lines.specs.Blocks.{BlocksValue}
use Rattle.determinize_lines.specs.declared.blocks.TheConstants.{BLOCK}

pub returns : goal.returns
returns c =
    let b = c.self.inside in
    ap (take c.min.result) c.deref.ensures.value
    ∙ front b.bytes.items b.whole b.filled BLOCK c.min.result c.self.invariant.0 c.min.ensures
    ∙ ap (λ (s : BlocksValue). take BLOCK (s.lines ++ s.rest)) c.self.view_is
