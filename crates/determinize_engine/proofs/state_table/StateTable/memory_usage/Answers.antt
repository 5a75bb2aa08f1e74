use Rattle.determinize_core.proofs.Common.{ap, arith, get_or, length, rules, take_all, ◌<◌, ◌∙◌, ◌≡◌}
use Rattle.std.specs.Prelude.{◌*◌}
use Rattle.determinize_engine.specs.StateBytes.{heap_bytes}
use Rattle.std.proofs.lemmas.List.Sums.{sum_by_more}
use Rattle.determinize_engine.proofs.state_table.StateTable.memory_usage.Goals.{else-len-gt-SHORT, then-len-gt-SHORT}
use Rattle.determinize_engine.proofs.state_table.StateTable.memory_usage.Goals as goal

pub loop-state-init : goal.loop-state-init
loop-state-init g c =
    let size : c.len-bytes.result ≡ length c.args.self.now = search rules in
    let few = ap length c.self.view_is in
    omega (arith, size, few, c.self.invariant.few)

pub loop-state-preserved : goal.loop-state-preserved
loop-state-preserved g c =
    let same : c.deref-state-items.result.now ≡ c.args.self.now = c.deref-state-items.ensures.value ∙ c.self.view_is in
    let inside : c.loop-state.state-index < length c.args.self.now = rw same at c.loop-state-test.true in
    let more = sum_by_more (λ v. heap_bytes v * 2) c.args.self.now c.loop-state.state-index
    c.state-item.result inside in
    let item : c.state-item.result ≡ get_or c.args.self.now c.loop-state.state-index c.state-item.result =
    rw same at c.state-item.is in
    let bytes = c.memory_usage-len.ensures.bytes in
    let before = c.loop-state.invariant in
    elim c.if-len-gt-SHORT.branch [
      | then-len-gt-SHORT w ↦ grind (
        arith,
        more,
        item,
        bytes,
        before,
        w.bytes-is,
        w.saturating_add-bytes.ensures,
        w.saturating_mul.ensures,
        w.if-len-gt-SHORT.true,
      )
      | else-len-gt-SHORT w ↦ grind (arith, more, item, bytes, before, w.bytes-is, w.if-len-gt-SHORT.false)
    ]

pub returns : goal.returns
returns g c =
    let same : c.deref-state-items.result.now ≡ c.args.self.now = c.deref-state-items.ensures.value ∙ c.self.view_is in
    let test = rw same at c.loop-state-test.false in
    rw (take_all c.loop-state.state-index c.args.self.now test) at c.loop-state.invariant
