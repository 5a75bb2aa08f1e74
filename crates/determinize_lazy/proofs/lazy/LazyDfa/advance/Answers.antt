use Rattle.determinize_lazy.proofs.{ap, arith, match_of, match_reported, option_or, refl, Tag, ◌∙◌}
use Rattle.determinize_lazy.proofs.lazy.LazyDfa.advance.Goals as goal

pub returns-clause-next : goal.returns-clause-next
returns-clause-next g c = record {
  position = record {
    ready = c.in_ok-cursor.ensures.ready;
    unmatched = λ e. absurd (omega arith);
  };
  place =
      let last_is = c.or_match-last.ensures c.requires.position.unmatched
      ∙ ap (λ (t : Tag). option_or (match_reported c.args.at.read t.pattern) (match_of c.args.at.last))
      c.tag_at.ensures in
      rw (c.in_ok-cursor.ensures.value, last_is, c.in_ok-cursor.ensures.after) refl;
  grows = c.in_ok-cursor.ensures.grows;
}
