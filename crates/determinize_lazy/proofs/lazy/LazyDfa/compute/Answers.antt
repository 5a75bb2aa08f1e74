use Rattle.determinize_lazy.proofs.{absent-at, cache, classes_from, count_after, cursor_value, Err, grows_none, inl}
use Rattle.determinize_lazy.proofs.{inr, lazy-kept, lazy-known, lazy-sound, option_copied, refl, rules, stepped, ◌≡◌}
use Rattle.determinize_lazy.proofs.Common.{step}
use Rattle.determinize_lazy.proofs.lazy.LazyDfa.compute.Goals as goal

pub invariant_of-self-2 : goal.invariant_of-self-2
invariant_of-self-2 g c =
    let following : c.in_ok-following.following ≡ step (g.R.AsNfa.nfa c.self.inside.nfa) c.self.inside.match_kind
    (cursor_value c.self.inside.table.states c.args.cursor) c.args.unit = search rules in
    let shared : option_copied c.classes_from-spans.result ≡ classes_from (g.R.AsNfa.nfa c.self.inside.nfa)
    (cursor_value c.self.inside.table.states c.args.cursor) c.self.inside.spans = search rules in
    lazy-kept _ c.args.unit c.self.invariant following
    (lazy-known c.self.invariant c.self.view_is c.args.cursor c.requires.ready) (search rules)
    (rw shared at c.keep.ensures)

pub returns-in_err-following : goal.returns-in_err-following
returns-in_err-following g c =
    let e : c.from_residual.result ≡ Err c.in_err-following.field-0.0 = search rules in
    rw (e, ← c.self.view_is) record {
      ready = tt;
      value = tt;
      after = tt;
      failed = record { table = inr refl; counted = inl refl };
      grows = grows_none;
    }

pub returns : goal.returns
returns g c =
    let following : c.in_ok-following.following ≡ step (g.R.AsNfa.nfa c.self.inside.nfa) c.self.inside.match_kind
    (cursor_value c.self.inside.table.states c.args.cursor) c.args.unit = search rules in
    let shared : option_copied c.classes_from-spans.result ≡ classes_from (g.R.AsNfa.nfa c.self.inside.nfa)
    (cursor_value c.self.inside.table.states c.args.cursor) c.self.inside.spans = search rules in
    let counted : c.saturating_add-self-inside.result ≡ count_after c.self.inside.computed 1 = search rules in
    let absent = rw (← c.self.view_is) at (absent-at (cache c.args.self.now) c.args.cursor c.args.unit
    (lazy-sound c.self.invariant c.self.view_is).table c.requires.ready.cursor c.requires.uncached) in
    let known = lazy-known c.self.invariant c.self.view_is c.args.cursor c.requires.ready in
    rw (← c.self.view_is, counted)
    (stepped _ c.args.unit c.self.invariant.sound.accepted known c.self.invariant.sound.small absent refl
    (rw (following, shared) at c.keep.ensures))
