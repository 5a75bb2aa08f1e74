use Rattle.determinize_lazy.proofs.{cache, has_read, IfOk-weaker, over-text, refl, search-is}
use Rattle.determinize_lazy.proofs.lazy.LazyDfa.search.Goals as goal

pub returns : goal.returns
returns g c =
    let over = over-text refl c.new-text.ensures c.search_text.ensures.over in record {
      search = IfOk-weaker c.search_text.result _ _ (λ found is. search-is (cache c.args.self.now) c.args.start _
          c.search_text.ensures.sound.accepted is) over.last;
      cache = has_read c.search_text.ensures.sound over.left;
    }
