use Rattle.determinize_nfa.proofs.Common.{false, nat_eq, refl, rules, sym, ◌+◌, ◌∙◌, ◌≡◌}
use Rattle.determinize_nfa.proofs.kinds.ArcsLeft.{runs_next}
use Rattle.std.proofs.lemmas.List.{take_rest}
use Rattle.determinize_nfa.proofs.arcs.run_from.Goals as goal

pub loop-byte-preserved-then-is_first : goal.loop-byte-preserved-then-is_first
loop-byte-preserved-then-is_first c =
    let same = rw (take_rest c.args.targets.now (c.loop-byte.byte + 1))
    at (sym c.is_first.ensures ∙ c.if-is_first.true) in
    record {
      begun = search rules;
      left = rw (
        c.loop-byte.invariant.left,
        runs_next c.args.targets.now c.loop-byte.start c.loop-byte.byte c.index-targets-byte.result
            (search rules) c.index-targets-byte.is,
        same,
      ) refl;
    }

pub returns-then-ne : goal.returns-then-ne
returns-then-ne c =
    let last = rw (take_rest c.args.targets.now (c.loop-byte.byte + 1))
    at (sym c.is_first.ensures ∙ c.if-is_first.false) in
    let some : nat_eq c.index-targets-byte.result 0 ≡ false = search rules in
    rw (
      c.loop-byte.invariant.left,
      runs_next c.args.targets.now c.loop-byte.start c.loop-byte.byte c.index-targets-byte.result
          (search rules) c.index-targets-byte.is,
      last,
      some,
    ) refl
