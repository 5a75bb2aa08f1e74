use Rattle.determinize_core.proofs.Common.{[], accepted_sound, has, inl, inr, Err, List, Members, Ok, refl, Result}
use Rattle.determinize_core.proofs.Common.{sym, true≢false}
use Rattle.determinize_core.proofs.Common.{ℕ, ◌∙◌, ◌∷◌, ◌≡◌, ◌⊎◌}
use Rattle.std.proofs.lemmas.Result.{on_ok_weaker}
use Rattle.std.specs.Result.{OnErr}
use Rattle.determinize_core.proofs.closure.ClosureSteps.{leaf_at, leaf_set}
use Rattle.determinize_core.proofs.determinize.closure.epsilon_closure.Goals as goal

set_is : (set : Members) {ids : List ℕ} {n : ℕ} → set.ids ≡ ids → set.capacity ≡ n
    → set ≡ record { ids = ids; capacity = n }
set_is set e k = rw (← e, ← k) refl

also_on_err : {T E Q : Type 0} (r : Result T E) → Q → OnErr r Q
also_on_err (Ok x) q = tt
also_on_err (Err e) q = q

from_some : {P : Type 0} (x : ℕ) (xs : List ℕ) → (x ∷ xs ≡ []) ⊎ P → P
from_some x xs (inl e) = absurd (cc e)
from_some x xs (inr p) = p

pub returns-then-not-is_epsilon : goal.returns-then-not-is_epsilon
returns-then-not-is_epsilon g c =
    let leaf = leaf_at c.args.nfa.now c.args.start _ c.state.ensures.state ∙ sym c.if-not-is_epsilon.ensures in
    let sound = accepted_sound c.args.nfa.now c.state.ensures.accepted in
    let capacity : c.insert.new.self.capacity ≡ c.args.set.now.capacity = rw c.insert.ensures.after refl in
    record {
      ok = rw (
        c.insert.ensures.after,
        leaf_set c.args.nfa.now sound (has c.args.look_have) c.args.set.now.ids
            c.args.start c.insert.result leaf c.insert.ensures.new,
      ) refl;
      err = tt;
      resolve = rw (capacity ∙ c.requires.capacity) at c.insert.ensures.members.below;
      stack = c.requires.stack;
      succeeds = λ e. refl;
    }

pub returns-clause-ok : goal.returns-clause-ok
returns-clause-ok g c =
    on_ok_weaker c.explore-result.result
    (λ ids. set_is _ (rw (c.from_ref-first.ensures.value, c.requires.stack) at ids)
    c.explore-result.ensures.part.capacity)
    c.explore-result.ensures.ids

pub returns-clause-err : goal.returns-clause-err
returns-clause-err g c =
    also_on_err c.explore-result.result
    (rw (c.from_ref-first.ensures.value, c.requires.stack) at c.explore-result.ensures.part)

pub returns-clause-resolve : goal.returns-clause-resolve
returns-clause-resolve g c =
    from_some c.args.start []
    (rw (c.from_ref-first.ensures.value, c.requires.stack) at c.explore-result.ensures.resolve)

pub returns-clause-succeeds : goal.returns-clause-succeeds
returns-clause-succeeds g c = λ e. absurd (true≢false (c.if-not-is_epsilon.ensures
    ∙ sym (leaf_at c.args.nfa.now c.args.start _ c.state.ensures.state) ∙ e))
