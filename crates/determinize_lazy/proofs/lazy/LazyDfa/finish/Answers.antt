use Rattle.determinize_lazy.proofs.{[], ap, between, cache, end-left, has_read, is-search, last-found, last-whole}
use Rattle.determinize_lazy.proofs.{later_by, option_map, option_or, Place, read_err, read_none, refl, Scanned, ◌∙◌, ◌∷◌}
use Rattle.determinize_core.specs.Chain.{chain}
use Rattle.determinize_lazy.proofs.lazy.LazyDfa.finish.Goals as goal

pub returns-in_err-start-clause-cache : goal.returns-in_err-start-clause-cache
returns-in_err-start-clause-cache g c = read_none c.from_residual.ensures.0 refl

pub returns-in_err-at-clause-cache : goal.returns-in_err-at-clause-cache
returns-in_err-at-clause-cache g c =
    let ends = rw (
      c.start.ensures,
      c.in_ok-start.ensures.value ∙ ap (λ (s : Scanned). s.state) c.scan.view_is,
      c.new-text.ensures,
    ) at c.in_err-at.ensures in
    read_err c.from_residual-in_err-at.ensures.0 ends.failed ends.grows

pub returns : goal.returns
unfolding chain
returns g c =
    let ends = rw (
      c.start.ensures,
      c.in_ok-start.ensures.value ∙ ap (λ (s : Scanned). s.state) c.scan.view_is,
      c.new-text.ensures,
    ) at c.in_ok-at.ensures in
    let last = c.found.ensures ∙ ap (λ (q : Place). q.last) ends.place
    ∙ last-found (cache c.args.self.now) c.args.scan.now.state (c.args.look_ahead ∷ []) in record {
      search = λ start behind bytes is. is-search c.args.self.now.nfa c.args.self.now.kind start
          (between behind bytes c.args.look_ahead) c.or_later.result c.cursor_of.ensures.sound.accepted
          (last-whole is c.args.look_ahead last (c.or_later.ensures
          ∙ ap (λ (s : Scanned). option_or (option_map (later_by s.read) c.found.result) s.last) c.scan.view_is));
      cache = has_read c.cursor_of.ensures.sound (end-left ends _);
    }
