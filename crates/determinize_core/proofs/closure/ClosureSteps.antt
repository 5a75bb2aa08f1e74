-- The search of a closure, one iteration after another.
-- Main statements: IsSoFar, so_far-start, so_far-turn, so_far-stopped, so_far-ended, so_far-tried, edges_at, leaf_set.
-- Used by: `explore`, `epsilon_closure`, `record_and_follow`, ReopenedClosure.
-- Idea: the visited states followed by the search of the pending ones is one list throughout.
use Rattle.determinize_core.proofs.Common.{[], All-from_member, All-rest, append-nil, append_assoc}
use Rattle.determinize_core.proofs.Common.{arith, Assertion, Bool, by_test, edges, Fail, false, fold}
use Rattle.determinize_core.proofs.Common.{get_or_from_slice_get, has_id, if◌then◌else◌, IsSound, length, List}
use Rattle.determinize_core.proofs.Common.{member}
use Rattle.determinize_core.proofs.Common.{Members, nat_eq, nat_tests, Nfa, Node, not, reach_past, refl, same_decides}
use Rattle.determinize_core.proofs.Common.{slice_get, Some, state_at, suc, sym, tries_left, true≢false, ℕ, ◌++◌}
use Rattle.determinize_core.proofs.Common.{◌+◌, ◌<◌, ◌∙◌, ◌∷◌}
use Rattle.determinize_core.proofs.Common.{◌≡◌, ◌≤◌}
use Rattle.std.proofs.Common.{All, IsTrue}
use Rattle.std.proofs.lemmas.List.{append_cancel_left}
use Rattle.std.proofs.lemmas.List.Elements.{All-append}
use Rattle.std.proofs.lemmas.List.Sums.{fold-append}
use Rattle.determinize_below.specs.Node.{is_epsilon}
use Rattle.determinize_below.specs.Semantics.{BinaryUnion, ByteRange, Capture, Dense, edges_of, Look, Match, Sparse}
use Rattle.determinize_below.specs.Semantics.{Union}
use Rattle.ordered_reach.proofs.graph.StackSearch.{closure-held, closure-new, tries-held, tries-new}
use Rattle.determinize_below.proofs.nfas.SoundNfa.{edges_enough}
use Rattle.determinize_core.specs.Closure.{AddsBeginning}
use Rattle.determinize_core.specs.Private.Search.{entered, pending_after}

-- the two tests for being in a list
pub holds-member : (ids : List ℕ) (id : ℕ) → has_id ids id ≡ member nat_eq ids id
holds-member [] id = refl
holds-member (x ∷ ids) id = grind (arith, nat_tests, holds-member ids id)

-- one iteration
module _ (nfa : Nfa) (sound : IsSound nfa) (look : Assertion → Bool) (met : List ℕ) (id : ℕ)
    {pending rest after next : List ℕ} (top : pending ≡ id ∷ rest) (ids : after ≡ met ++ entered met id)
    (left : next ≡ pending_after nfa look met id rest) where
  -- what is gained, followed by the rest of the search, is the search
  same-turn : entered met id ++ reach_past nfa look after next ≡ reach_past nfa look met pending
  unfolding reach_past
  same-turn = rw (top, ids, left, holds-member met id) (by_test (member nat_eq met id)
      (λ h. rw (h, append-nil) (sym (append_cancel_left met _ _ (closure-held same_decides (edges nfa look)
      (length nfa.states + 1) (edges_enough nfa sound look) met id rest h))))
      (λ h. rw h (append_cancel_left met _ _ (sym (append_assoc met (id ∷ []) _) ∙ sym (closure-new same_decides
      (edges nfa look) (length nfa.states + 1) (edges_enough nfa sound look) met id rest h)))))

  pub tries-turn : tries_left nfa look met pending ≡ suc (tries_left nfa look after next)
  unfolding reach_past
  tries-turn = rw (top, ids, left, holds-member met id) (by_test (member nat_eq met id)
      (λ h. rw (h, append-nil) (tries-held same_decides (edges nfa look) _ (edges_enough nfa sound look) met id rest h))
      (λ h. rw h (tries-new same_decides (edges nfa look) _ (edges_enough nfa sound look) met id rest h)))

  below-turn : All (λ s. s < length nfa.states) pending → All (λ s. s < length nfa.states) next
  below-turn b =
      let below = All-rest (λ s. s < length nfa.states) id rest pending top b in rw left (by_test (has_id met id)
      (λ h. rw h below)
      (λ h. rw h (All-append (λ s. s < length nfa.states) (edges nfa look id) rest
      (All-from_member same_decides _ (edges nfa look id) (sound.resolves look id)) below)))

-- a search from roots, after some iterations: what was visited, recorded and counted, and what is pending
pub record IsSoFar {W : Type 0} (nfa : Nfa) (look : Assertion → Bool) (with_one : W → ℕ → W) (counts : Bool)
    (held roots : List ℕ) (before : W) (start : ℕ) (met pending : List ℕ) (now : W) (total : ℕ) : Type 0 where
  pub more : List ℕ
  pub met_is : met ≡ held ++ more
  pub now_is : now ≡ fold with_one before more
  pub whole : more ++ reach_past nfa look met pending ≡ reach_past nfa look held roots
  pub below : All (λ s. s < length nfa.states) pending
  pub counted : IsTrue counts → total + tries_left nfa look met pending ≡ start + tries_left nfa look held roots

-- without pending states nothing is left
pub reach_past-none : (nfa : Nfa) (look : Assertion → Bool) (met pending : List ℕ) → pending ≡ []
    → reach_past nfa look met pending ≡ []
unfolding reach_past
reach_past-none nfa look met pending none = rw none

module _ {W : Type 0} {nfa : Nfa} {look : Assertion → Bool} {with_one : W → ℕ → W} {counts : Bool}
    {held roots : List ℕ} {before : W} {start : ℕ} where
  pub so_far-start : {pending : List ℕ} → pending ≡ roots → All (λ s. s < length nfa.states) roots
      → IsSoFar nfa look with_one counts held roots before start held pending before start
  so_far-start e h = rw e
      record { more = []; met_is = sym (append-nil held); now_is = refl; whole = refl; below = h; counted = λ k. refl }

  module _ {met pending : List ℕ} {now : W} {total : ℕ}
      (so_far : IsSoFar nfa look with_one counts held roots before start met pending now total) where
    pub so_far-turn : IsSound nfa → (id : ℕ) {rest after next : List ℕ} {later : W} {sum : ℕ} → pending ≡ id ∷ rest
        → after ≡ met ++ entered met id → next ≡ pending_after nfa look met id rest
        → later ≡ fold with_one now (entered met id) → (IsTrue counts → sum ≡ total + 1)
        → IsSoFar nfa look with_one counts held roots before start after next later sum
    so_far-turn sound id top ids left recorded counted = record {
      more = so_far.more ++ entered met id;
      met_is = cc (append_assoc held so_far.more (entered met id));
      now_is = cc (fold-append with_one before so_far.more (entered met id));
      whole = rw (append_assoc, same-turn nfa sound look met id top ids left) so_far.whole;
      below = below-turn nfa sound look met id top ids left so_far.below;
      counted = λ h. omega (arith, tries-turn nfa sound look met id top ids left, counted h, so_far.counted h);
    }

    -- the search stops after the set has changed
    pub so_far-stopped : IsSound nfa → (id : ℕ) {rest : List ℕ} → pending ≡ id ∷ rest → (old new : Members)
        → old.ids ≡ held → new.ids ≡ met ++ entered met id → new.capacity ≡ old.capacity
        → AddsBeginning old new (reach_past nfa look held roots)
    so_far-stopped sound id top old new from to same =
        let next = so_far-turn sound id top to refl refl (λ h. refl) in record {
          capacity = same;
          part = (next.more, rw from next.met_is, (_, sym next.whole));
        }

    -- without pending states the search is done
    pub so_far-ended : pending ≡ [] → record {
      ids : met ≡ held ++ reach_past nfa look held roots;
      recorded : now ≡ fold with_one before (reach_past nfa look held roots);
      counted : IsTrue counts → total ≡ start + tries_left nfa look held roots;
    }
    so_far-ended none =
        let left : reach_past nfa look met pending ≡ [] = reach_past-none nfa look met pending none in
        let all : so_far.more ≡ reach_past nfa look held roots = rw (left, append-nil) at so_far.whole in record {
          ids = rw all at so_far.met_is;
          recorded = rw all at so_far.now_is;
          counted = λ h. omega (arith, rw (left, none) at (so_far.counted h));
        }

    -- what was visited is a prefix of the search
    pub so_far-part : (old new : Members) → old.ids ≡ held → new.ids ≡ met → new.capacity ≡ old.capacity
        → AddsBeginning old new (reach_past nfa look held roots)
    so_far-part old new from to same =
        record { capacity = same; part = (so_far.more, rw (from, to) so_far.met_is, (_, sym so_far.whole)) }

    -- one more try is within the bound
    pub so_far-tried : IsSound nfa → (id : ℕ) {rest : List ℕ} {sum : ℕ} → pending ≡ id ∷ rest
        → (IsTrue counts → sum ≡ total + 1) → IsTrue counts → sum ≤ start + tries_left nfa look held roots
    so_far-tried sound id top counted h =
        let next = so_far-turn sound id top refl refl refl counted in omega (arith, next.counted h)

-- the kind of a state that was read
pub leaf_at : (nfa : Nfa) (s : ℕ) (node : Node) → slice_get nfa.states s ≡ Some node
    → is_epsilon (state_at nfa s) ≡ is_epsilon node
leaf_at nfa s node h = rw (get_or_from_slice_get nfa.states s node Fail h) refl

leaf_edges : (holds : Assertion → Bool) (node : Node) → is_epsilon node ≡ false → edges_of holds node ≡ []
leaf_edges holds (ByteRange t) leaf = refl
leaf_edges holds (Sparse ts) leaf = refl
leaf_edges holds (Dense ids) leaf = refl
leaf_edges holds (Look look next) leaf = absurd (true≢false leaf)
leaf_edges holds (Union ids) leaf = absurd (true≢false leaf)
leaf_edges holds (BinaryUnion a b) leaf = absurd (true≢false leaf)
leaf_edges holds (Capture next) leaf = absurd (true≢false leaf)
leaf_edges holds Fail leaf = refl
leaf_edges holds (Match pattern) leaf = refl

-- the edges of a state that was read
pub edges_at : (nfa : Nfa) (holds : Assertion → Bool) (s : ℕ) (node : Node) → slice_get nfa.states s ≡ Some node
    → edges nfa holds s ≡ edges_of holds node
edges_at nfa holds s node h = rw (get_or_from_slice_get nfa.states s node Fail h) refl

-- a state that was read and is no epsilon state has no edges
pub edges-leaf : (nfa : Nfa) (holds : Assertion → Bool) (s : ℕ) (node : Node) → slice_get nfa.states s ≡ Some node
    → is_epsilon node ≡ false → edges nfa holds s ≡ []
edges-leaf nfa holds s node h leaf = edges_at nfa holds s node h ∙ leaf_edges holds node leaf

-- what the search from a state that is no epsilon state adds
pub leaf_set : (nfa : Nfa) → IsSound nfa → (look : Assertion → Bool) (held : List ℕ) (root : ℕ) (new : Bool)
    → is_epsilon (state_at nfa root) ≡ false → new ≡ not (has_id held root)
    → (if new then held ++ root ∷ [] else held) ≡ held ++ reach_past nfa look held (root ∷ [])
leaf_set nfa sound look held root new leaf h =
    grind (arith, same-turn nfa sound look held root {rest = []} refl refl refl, reach_past-none, append-nil)
