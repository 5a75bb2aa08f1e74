use Rattle.std.proofs.Common.{◌≡◌, ◌≤◌, ◌++◌, ◌∙◌, ℕ, List, None, OnOk, Some, arith, length, subst, sym}
use Rattle.determinize_below.specs.Node.{node_of}
use Rattle.determinize_below.specs.Semantics.{target_of}
use Rattle.determinize_linear.proofs.search.Targets.{no_target, one_target, past_target}
use Rattle.determinize_linear.proofs.choices.push_target.Goals as goal

pub returns-then-at-len : goal.returns-then-at-len
returns-then-at-len g c =
    let l : length c.args.text.now.bytes ≤ c.args.at = omega (arith, c.len.ensures.value) in
    past_target c.args.text.now.bytes c.args.at (node_of c.args.state.now) c.args.stack.now.items l

pub returns-in-Some : goal.returns-in-Some
returns-in-Some g c =
    let t : target_of (Some c.byte.result) (node_of c.args.state.now) ≡ Some c.in-Some.next
    = sym c.target.ensures ∙ c.in-Some.is in
    subst (λ (l : List (ℕ × ℕ)). OnOk c.push.result (c.push.new.stack.items ≡ c.args.stack.now.items ++ l))
    (one_target c.args.text.now.bytes c.args.at (node_of c.args.state.now) c.byte.result c.in-Some.next c.byte.ensures
    t)
    c.push.ensures

pub returns-in-None : goal.returns-in-None
returns-in-None g c =
    let t : target_of (Some c.byte.result) (node_of c.args.state.now) ≡ None
    = sym c.target.ensures ∙ c.in-None.is in
    no_target c.args.text.now.bytes c.args.at (node_of c.args.state.now) c.args.stack.now.items c.byte.result
    c.byte.ensures t
