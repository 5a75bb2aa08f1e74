use Rattle.determinize_core.proofs.Common.{arith, byte_of, refl, sym, ◌∙◌}
use Rattle.determinize_core.proofs.step.StepParts.{entered_by, left-none, no_items, some_items, tries-none}
use Rattle.determinize_core.proofs.determinize.transition.enter_targets.Goals as goal

pub returns-then-is_empty : goal.returns-then-is_empty
returns-then-is_empty g c =
    let none = no_items _ c.args.stack.now.items c.args.stack.now.ok.0 (sym c.is_empty.ensures ∙ c.if-is_empty.true) in
    record {
      ok = rw none (c.requires.unrecorded
          ∙ sym (left-none c.args.nfa.now _ (byte_of c.args.unit) c.args.builder.now.patterns));
      stack = none;
      capacity = refl;
      counted = λ h. rw (none, tries-none) (omega arith);
      bounded = λ h. omega arith;
    }

pub returns-clause-ok : goal.returns-clause-ok
returns-clause-ok g c =
    let items = c.args.stack.now.items in
    let some = some_items _ items c.args.stack.now.ok.0 (sym c.is_empty.ensures ∙ c.if-is_empty.false) in
    rw (← entered_by c.args.nfa.now (byte_of c.args.unit) items c.args.builder.now.patterns some)
    (rw (
      c.after-look_behind.ensures.looks,
      c.after-look_behind.ensures.from_word,
      c.after-look_behind.ensures.half_crlf,
      c.of.ensures.tables,
    ) at c.enter.ensures.ok)

pub returns-clause-counted : goal.returns-clause-counted
returns-clause-counted g c =
    λ h. rw (c.after-look_behind.ensures.looks, c.of.ensures.tables) at c.enter.ensures.counted h

pub returns-clause-bounded : goal.returns-clause-bounded
returns-clause-bounded g c =
    λ h. rw (c.after-look_behind.ensures.looks, c.of.ensures.tables) at c.enter.ensures.bounded h
