use Rattle.std.proofs.Common.{rules, ◌≡◌, ◌++◌, ◌∙◌, ◌∷◌, [], ap, append-nil, append_assoc, false, map, reverse, sym}
use Rattle.std.proofs.Common.{true, OnOk, ℕ, List, subst}
use Rattle.determinize_below.specs.Node.{node_of}
use Rattle.determinize_below.specs.Semantics.{after_at, before_at, holds}
use Rattle.ordered_reach.specs.Runs.{placed}
use Rattle.determinize_linear.proofs.search.Choices.{choices_both, choices_byte, choices_capture, choices_look}
use Rattle.determinize_linear.proofs.search.Choices.{choices_not_look, choices_union}
use Rattle.determinize_linear.proofs.search.Targets.{reversed_target}
use Rattle.determinize_linear.proofs.choices.push_choices.Goals as goal

pub returns-then-not-holds_at : goal.returns-then-not-holds_at
returns-then-not-holds_at g c =
    let h : holds c.args.nfa.now.reverse c.args.nfa.now.terminator (before_at c.args.text.now c.args.at)
    (after_at c.args.text.now c.args.at) c.in-Look.look ≡ false = search rules in
    sym (append-nil c.args.stack.now.items)
    ∙ ap (λ (l : List (ℕ × ℕ)). c.args.stack.now.items ++ reverse l)
    (sym (choices_not_look c.args.nfa.now c.args.text.now c.args.at c.args.id c.in-Look.look c.in-Look.next
    (rw c.in-Look.is at c.state-state.ensures.state) h))

pub returns-else-not-holds_at : goal.returns-else-not-holds_at
returns-else-not-holds_at g c =
    let h : holds c.args.nfa.now.reverse c.args.nfa.now.terminator (before_at c.args.text.now c.args.at)
    (after_at c.args.text.now c.args.at) c.in-Look.look ≡ true = search rules in
    subst (λ (l : List (ℕ × ℕ)). OnOk c.push.result (c.push.new.stack.items ≡ c.args.stack.now.items ++ reverse l))
    (sym (choices_look c.args.nfa.now c.args.text.now c.args.at c.args.id c.in-Look.look c.in-Look.next
    (rw c.in-Look.is at c.state-state.ensures.state) h)) c.push.ensures

pub returns-in-Union : goal.returns-in-Union
returns-in-Union g c =
    subst (λ (l : List (ℕ × ℕ)). OnOk c.push_each.result
    (c.push_each.new.stack.items ≡ c.args.stack.now.items ++ reverse l))
    (ap (λ (ids : List ℕ). map (placed c.args.at) ids) c.as_slice.ensures.value
    ∙ sym (choices_union c.args.nfa.now c.args.text.now c.args.at c.args.id c.in-Union.alternates.items
    (rw c.in-Union.is at c.state-state.ensures.state))) c.push_each.ensures

pub returns-in_ok-push-in-BinaryUnion : goal.returns-in_ok-push-in-BinaryUnion
returns-in_ok-push-in-BinaryUnion g c =
    let first : c.push-in-BinaryUnion.new.stack.items
    ≡ c.args.stack.now.items ++ (c.args.at, c.in-BinaryUnion.alt2) ∷ []
    = c.in_ok-push-in-BinaryUnion.ensures in
    subst (λ (l : List (ℕ × ℕ)). OnOk c.push-in-BinaryUnion-2.result (c.push-in-BinaryUnion-2.new.stack.items ≡ l))
    (ap (λ (l : List (ℕ × ℕ)). l ++ (c.args.at, c.in-BinaryUnion.alt1) ∷ []) first
    ∙ append_assoc c.args.stack.now.items ((c.args.at, c.in-BinaryUnion.alt2) ∷ [])
    ((c.args.at, c.in-BinaryUnion.alt1) ∷ [])
    ∙ ap (λ (l : List (ℕ × ℕ)). c.args.stack.now.items ++ reverse l)
    (sym (choices_both c.args.nfa.now c.args.text.now c.args.at c.args.id c.in-BinaryUnion.alt1 c.in-BinaryUnion.alt2
    (rw c.in-BinaryUnion.is at c.state-state.ensures.state)))) c.push-in-BinaryUnion-2.ensures

pub returns-in-Capture : goal.returns-in-Capture
returns-in-Capture g c =
    subst (λ (l : List (ℕ × ℕ)). OnOk c.push-in-Capture.result
    (c.push-in-Capture.new.stack.items ≡ c.args.stack.now.items ++ reverse l))
    (sym (choices_capture c.args.nfa.now c.args.text.now c.args.at c.args.id c.in-Capture.next
    (rw c.in-Capture.is at c.state-state.ensures.state))) c.push-in-Capture.ensures

pub returns-in_default : goal.returns-in_default
returns-in_default g c =
    subst (λ (l : List (ℕ × ℕ)). OnOk c.push_target.result
    (c.push_target.new.stack.items ≡ c.args.stack.now.items ++ l))
    (sym (ap (λ (l : List (ℕ × ℕ)). reverse l) (choices_byte c.args.nfa.now c.args.text.now c.args.at c.args.id
    (node_of c.state-state.result.now) c.state-state.ensures.state (λ hold. search rules))
    ∙ reversed_target c.args.text.now.bytes c.args.at (node_of c.state-state.result.now))) c.push_target.ensures
