use Rattle.determinize_lazy.proofs.{cache, decides, has_read, left_whole, searched-in, sym, true≢false, ◌∙◌}
use Rattle.determinize_lazy.proofs.lazy.LazyDfa.is_match.Goals as goal

pub returns : goal.returns
returns g c =
    let more = sym c.is_done.ensures ∙ c.if-is_done.false in
    let over = c.in_ok-search_range.ensures.over in record {
      accepts = λ _. rw c.is_some.ensures
          (decides (cache c.args.self.now) c.args.input.now c.search_range.ensures.sound.accepted over.last);
      done = λ e. absurd (true≢false (sym e ∙ more));
      cache = searched-in more (has_read c.search_range.ensures.sound (left_whole _ over.left.after over.left.grows));
    }
