-- One step serves two bytes on which the NFA states that it reads have the same targets.
-- Main statements: one_step, changes-push, targets_along.
-- Used by: `changes`, `steps_alike`.
-- Idea: unless its byte satisfies a further assertion, a step reads recorded states only.
use Rattle.determinize_core.proofs.Common.{[], All, ap, append-nil, arith, before, Bool, by_test, distinct, false, flat_map}
use Rattle.determinize_core.proofs.Common.{fresh, get_or, is_match}
use Rattle.determinize_core.proofs.Common.{is_reopened, LeftmostFirst, List, MatchKind, nat_eq, Nfa, none_held}
use Rattle.determinize_core.proofs.Common.{option_to_list, part_read, refl, Some, state_at, step, suc, sym, tables_of}
use Rattle.determinize_core.proofs.Common.{target, Value, with_node, zero, ℕ, ◌++◌, ◌+◌, ◌-◌, ◌<◌, ◌∙◌, ◌∷◌, ◌≡◌, ◌≤◌}
use Rattle.std.proofs.Common.{All as Each}
use Rattle.std.proofs.lemmas.List.Elements.{All-push}
use Rattle.ordered_reach.proofs.lists.Elements.{All_at, flat_map_same, In, In_append_left, In_cases, In_head, In_tail}
use Rattle.ordered_reach.proofs.lists.Prefixes.{Beginning-before}
use Rattle.determinize_below.specs.ByteClasses.{is_marked, MarksChanges}
use Rattle.determinize_below.specs.Semantics.{target_of}
use Rattle.determinize_core.specs.Alike.{AreChanges}
use Rattle.determinize_core.specs.Private.Sharing.{HaveSameLookBehind}

-- what is read of a list is in it
In_fresh : (seen : ℕ → Bool) (xs : List ℕ) (x : ℕ) → In x (fresh nat_eq seen xs) → In x xs
In_fresh seen [] x h = h
In_fresh seen (y ∷ xs) x h = by_test (seen y)
    (λ e. In_tail x y xs (In_fresh seen xs x (rw e at h)))
    (λ e. In_cases x y (fresh nat_eq (with_node nat_eq seen y) xs) (rw e at h)
    (λ q. rw q (In_head y xs))
    (λ k. In_tail x y xs (In_fresh (with_node nat_eq seen y) xs x k)))

In_part_read : (kind : MatchKind) (p : ℕ → Bool) (xs : List ℕ) (x : ℕ) → In x (part_read kind p xs) → In x xs
In_part_read All p xs x h = h
In_part_read LeftmostFirst p xs x h =
    let r = Beginning-before p xs xs ([], sym (append-nil xs)) in rw r.1 (In_append_left x (before p xs) r.0 h)

-- whether the state has the same target on both bytes
abbrev IsLedAlike : Nfa → ℕ → ℕ → ℕ → Type 0
IsLedAlike nfa b c s = target_of (Some b) (state_at nfa s) ≡ target_of (Some c) (state_at nfa s)

module _ (nfa : Nfa) (v : Value) (b c : ℕ) where
  -- a step over bytes that leave the same look-behind, and that satisfy no further assertion
  pub one_step : (kind : MatchKind) → Each (IsLedAlike nfa b c) v.states
      → HaveSameLookBehind (tables_of nfa) (Some b) (Some c)
      → is_reopened nfa v (Some b) ≡ false → is_reopened nfa v (Some c) ≡ false
      → step nfa kind v (Some b) ≡ step nfa kind v (Some c)
  unfolding step
  one_step kind over left first second = rw (first, second, left.have, left.from_word, left.half_crlf, read) refl
    where
      read : flat_map (target nfa (Some b)) (part_read kind (is_match nfa) (distinct v.states))
          ≡ flat_map (target nfa (Some c)) (part_read kind (is_match nfa) (distinct v.states))
      read = flat_map_same (target nfa (Some b)) (target nfa (Some c)) _ (λ s k.
          ap option_to_list (All_at (IsLedAlike nfa b c) v.states over s (In_fresh none_held v.states s
          (In_part_read kind (is_match nfa) (distinct v.states) s k))))

-- a function that is the same on each byte as on the next
same_along : {A : Type 0} (f : ℕ → A) (first n : ℕ) → ((b : ℕ) → first ≤ b → b < first + n → f b ≡ f (b + 1))
    → f first ≡ f (first + n)
same_along f first zero h = let e : first ≡ first + 0 = omega arith in ap f e
same_along f first (suc n) h =
    let e : first + n + 1 ≡ first + suc n = omega arith in
    same_along f first n (λ b low high. h b low (omega (arith, high)))
    ∙ h (first + n) (omega arith) (omega arith) ∙ ap f e

-- the targets on two bytes, if no byte above the first has a mark, up to the last
pub targets_along : (nfa : Nfa) (ids : List ℕ) (marks : List Bool) → AreChanges nfa ids marks → (first last : ℕ)
    → first ≤ last → last < 256 → ((b : ℕ) → first ≤ b → b < last → is_marked marks (b + 1) ≡ false)
    → Each (IsLedAlike nfa first last) ids
targets_along nfa ids marks are first last order small unmarked k d l =
    let end : first + (last - first) ≡ last = omega (arith, order) in
    rw end at (same_along (λ b. target_of (Some b) (state_at nfa (get_or ids k d))) first (last - first)
    (λ b low high. are b (omega (arith, high, end, small)) (unmarked b low (omega (arith, high, end))) k d l))

-- the marks of one state more
pub changes-push : (nfa : Nfa) (ids : List ℕ) (id : ℕ) (old new : List Bool) → AreChanges nfa ids old
    → MarksChanges (λ b. target_of (Some b) (state_at nfa id)) old new → AreChanges nfa (ids ++ id ∷ []) new
changes-push nfa ids id old new were now b low h =
    All-push (IsLedAlike nfa b (b + 1)) ids id (were b low (now.was (b + 1) h)) (now.same b low h)
