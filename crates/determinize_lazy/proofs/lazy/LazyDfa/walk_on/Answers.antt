use Rattle.determinize_lazy.proofs.{[], all_read, append-nil, cache, cursor_value, cut_off-first, cut_off-none, drop}
use Rattle.determinize_lazy.proofs.{drop-one, drop_all, grows-more, IsWalking, left_err, left_none, left_whole, refl, units, walks-on, ◌++◌, ◌+◌, ◌∷◌}
use Rattle.determinize_lazy.proofs.lazy.LazyDfa.walk_on.Goals.{In_ok-cursor}
use Rattle.determinize_lazy.proofs.lazy.LazyDfa.walk_on.Goals as goal

pub returns-in_err-states-clause-left : goal.returns-in_err-states-clause-left
returns-in_err-states-clause-left g c = left_none c.from_residual.ensures.0 refl

pub returns-in_err-push_state-clause-left : goal.returns-in_err-push_state-clause-left
returns-in_err-push_state-clause-left g c = left_none c.from_residual-in_err-push_state.ensures.0 refl

pub returns-in_err-cursor-clause-left : goal.returns-in_err-cursor-clause-left
returns-in_err-cursor-clause-left g c = left_err c.from_residual-in_err-cursor.ensures.0
    (rw (drop-one _ _ _ c.unit-unit.ensures) at c.loop-read.invariant.walking.failed _
    (cut_off-first c.in_err-cursor.ensures.failed))
    (grows-more c.loop-read.invariant.walking.grows c.in_err-cursor.ensures.grows)

-- the walk after one more step
on : (g : _) (c : In_ok-cursor g) → IsWalking (cache c.args.self.now)
    (cursor_value c.args.self.now.states c.args.first) (units c.args.text.now)
    (c.loop-read.states.items ++ cursor_value c.step.new.self.states c.in_ok-cursor.cursor ∷ [])
    (cache c.step.new.self) (cursor_value c.step.new.self.states c.in_ok-cursor.cursor)
    (drop (c.loop-read.read + 1) (units c.args.text.now))
on g c = walks-on (rw (drop-one _ _ _ c.unit-unit.ensures) at c.loop-read.invariant.walking)
    c.in_ok-cursor.ensures.value c.in_ok-cursor.ensures.after c.in_ok-cursor.ensures.grows

pub returns-in_err-push_state-2-clause-left : goal.returns-in_err-push_state-2-clause-left
returns-in_err-push_state-2-clause-left g c =
    let walk = on g (goal.at.returns-in_err-push_state-2-clause-left g c).In_ok-cursor in
    left_err c.from_residual-in_err-push_state-2.ensures.0 (walk.failed _ (cut_off-none refl)) walk.grows

pub returns-in_err-id-clause-left : goal.returns-in_err-id-clause-left
returns-in_err-id-clause-left g c =
    let walk = on g (goal.at.returns-in_err-id-clause-left g c).In_ok-cursor in
    left_err c.from_residual-in_err-id.ensures.0 (walk.failed _ (cut_off-none refl)) walk.grows

pub loop-read-preserved : goal.loop-read-preserved
loop-read-preserved g c = record {
  walking = rw c.in_ok-push_state-2.ensures (on g (goal.at.loop-read-preserved g c).In_ok-cursor);
  ready = c.in_ok-cursor.ensures.ready;
}

pub loop-read-preserved-in-Cached : goal.loop-read-preserved-in-Cached
loop-read-preserved-in-Cached g c =
    let walk = on g (goal.at.loop-read-preserved-in-Cached g c).In_ok-cursor in record {
      walking = c.in_ok-id.ensures.walking _ _
          (rw (rw c.in-Cached.is at c.in_ok-push_state-2.ensures) (rw c.in-Cached.is at walk));
      ready = record { cursor = c.in_ok-id.ensures.inside; known = tt };
    }

pub returns : goal.returns
returns g c =
    let past = all_read c.args.text.now c.loop-read-test.false c.len-in-loop-read.ensures.value in
    let walk = c.loop-read.invariant.walking in record {
      values = rw (drop_all _ _ past, append-nil) at walk.values;
      left = left_whole _ (rw (drop_all _ _ past) at walk.after) walk.grows;
    }
