use Rattle.determinize_core.proofs.Common.{ap, between, List, map, None, refl, rules, Some, take_all, true, ℕ, ◌<◌, ◌∙◌, ◌≡◌}
use Rattle.determinize_dense.proofs.Stepping.{listed_at_end, row_after-byte}
use Rattle.determinize_dense.specs.Table.{row_after, start_row}
use Rattle.std.proofs.lemmas.List.Elements.{All-from_get_or}
use Rattle.determinize_uses.proofs.steps.patterns_of.Goals as goal

pub loop-byte-preserved : goal.loop-byte-preserved
loop-byte-preserved g c = record {
  row = row_after-byte c.args.dfa.now.table (start_row c.args.dfa.now.nfa c.args.dfa.now.table true None)
      c.args.text.now c.loop-byte.byte-index c.loop-byte-test.true c.loop-byte.invariant.row c.next_state-row.ensures;
}

pub returns : goal.returns
returns g c =
    let start : ℕ = start_row c.args.dfa.now.nfa c.args.dfa.now.table true None in
    let row : c.loop-byte.row ≡ row_after c.args.dfa.now.table start (map Some c.args.text.now) =
    c.loop-byte.invariant.row ∙ ap (λ (bytes : List ℕ). row_after c.args.dfa.now.table start (map Some bytes))
    (take_all c.loop-byte.byte-index c.args.text.now (search rules)) in
    let dfa = c.start_state-row.ensures.means c.args.dfa.now.nfa refl in
    rw (c.match_patterns.ensures, c.next_eoi_state.ensures)
    (listed_at_end c.args.dfa.now.nfa c.args.dfa.now.table true (between None c.args.text.now None)
    dfa.0 (rw c.requires at dfa.1.means) tt
    (All-from_get_or (λ b. b < 256) c.args.text.now 0 (λ i l. (c.type_inv.text i).fits)) tt row)
