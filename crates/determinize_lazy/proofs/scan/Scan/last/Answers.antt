use Rattle.determinize_lazy.proofs.{[], ap, between, future, is-search, last_match, map-append, Some, start_value, sym, ◌∙◌, ◌∷◌}
use Rattle.determinize_core.proofs.walk.UnitLists.{chain_is_future}
use Rattle.determinize_lazy.proofs.scan.Scan.last.Goals as goal

-- the units that were read are those of the text before the last byte, which is the unit ahead of it
pub returns-clause-search : goal.returns-clause-search
returns-clause-search g c nfa kind start behind bytes last accepted is =
    is-search nfa kind start (between behind bytes (Some last)) c.args.self.now.last accepted
    (is.last ∙ ap (λ us. last_match (future nfa kind (start_value nfa start behind) us))
    (map-append Some bytes (last ∷ []))
    ∙ sym (ap last_match (chain_is_future nfa kind start behind (Some last) bytes)))
