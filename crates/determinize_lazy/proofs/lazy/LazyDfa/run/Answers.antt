use Rattle.determinize_lazy.proofs.lazy.LazyDfa.run.Goals as goal

pub returns-in-Cached-clause-goes : goal.returns-in-Cached-clause-goes
returns-in-Cached-clause-goes g c =
    let h = c.follow_and_learn.ensures.goes in rw (c.with_cursor.ensures, c.in-Cached.is) record {
      position = record {
        ready = record { cursor = h.position.ready.cursor; known = tt };
        unmatched = h.position.unmatched;
      };
      forward = h.forward;
      within = h.within;
      come = h.come;
      grows = h.grows;
    }
