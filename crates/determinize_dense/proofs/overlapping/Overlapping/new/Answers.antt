use Rattle.determinize_dense.proofs.Common.{All, All-from_get_or, between, false, is_anchored, IsUnit, lists_along, refl}
use Rattle.determinize_dense.proofs.Common.{ListsAlong, rules, start_for, start_row, subst, sym, Text, text_units, units}
use Rattle.determinize_dense.proofs.Common.{◌<◌, ◌≡◌}
use Rattle.determinize_dense.proofs.Along.{along_text, start_is}
use Rattle.determinize_dense.proofs.overlapping.Overlapping.new.Goals as goal

pub returns-clause-means : goal.returns-clause-means
returns-clause-means g c = λ nfa is.
    let of = c.first_row.ensures.means nfa is in
    let text = between c.args.look_behind c.args.text.now c.args.look_ahead in
    let all : All IsUnit (units text) = text_units c.args.look_behind false c.args.text.now c.args.look_ahead
    (All-from_get_or (λ b. b < 256) c.args.text.now 0 (λ i l. (c.type_inv.text i).fits)) (search rules) in
    let table = (g.D.Automaton.stored c.args.automaton.now).table in
    let row : c.first_row.result ≡ start_row nfa table (is_anchored c.args.anchored) c.args.look_behind =
    rw (c.first_row.ensures.value, c.is_anchored.ensures, of.1.terminator) refl in
    -- `rw` finds no text in its units, which compute
    subst (λ (t : Text). ListsAlong nfa (g.D.Automaton.stored c.args.automaton.now).kind
    (start_for nfa c.args.anchored) text (lists_along table c.first_row.result (units t))) (sym c.new.ensures)
    (rw row (along_text _ _ _ of.0 of.1.means (is_anchored c.args.anchored) text
    (search rules) all _ (start_is nfa c.args.anchored)))
