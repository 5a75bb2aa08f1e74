use Rattle.std.proofs.Common.{[], ◌≡◌, None, arith, cond, length, refl, rules, sym, true}
use Rattle.std.proofs.lemmas.List.{get_or_past}
use Rattle.ordered_reach.proofs.Cases.{by_test}
use Rattle.determinize_below.specs.Semantics.{before_at}
use Rattle.determinize_dense.specs.Automaton.{first_row}
use Rattle.determinize_dense.specs.Bytes.{Stored}
use Rattle.determinize_dense.specs.Table.{patterns_at}
use Rattle.determinize_linear.proofs.dense.Walk.new.Goals as goal

pub returns-clause-value : goal.returns-clause-value
returns-clause-value g c =
    let dfa : Stored = g.D.Automaton.stored c.args.dfa.now in
    let row : first_row dfa true (cond c.args.begin_alike None (before_at c.args.text.now c.args.from))
    ≡ first_row dfa true (before_at c.args.text.now c.args.from)
    = by_test c.args.begin_alike (λ t. rw t (sym ((c.requires t).row c.args.from))) (λ f. rw f refl) in
    let none : patterns_at dfa.table (length dfa.table.patterns) ≡ []
    = get_or_past dfa.table.patterns (length dfa.table.patterns) [] (omega arith) in
    rw (c.new.ensures.value, c.behind_start.ensures.value, row, c.new-2.ensures, c.len.ensures.value, none)
    (search rules)

pub returns-clause-behind : goal.returns-clause-behind
returns-clause-behind g c = by_test c.args.begin_alike (λ t. (c.requires t).unit c.args.from)
    (λ f. c.behind_start.ensures.unit f)
