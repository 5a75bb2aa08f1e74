-- The kept starts: a start state depends only on the state of the NFA and the kind of start.
-- Main statements: start-kept, starts-set, starts-stay.
-- Used by: `kept_start`, `find_start`, and Rule.
-- Idea: a slot is that of one state and one kind, so it has one start state.
use Rattle.determinize_lazy.proofs.Common.{ap, AreStarts, arith, by_cases, by_test, cond, from_word_at_start, get_or}
use Rattle.determinize_lazy.proofs.Common.{get_or-set_other, get_or-set_same, get_or_past, half_crlf_at_start, have_at_start, IfSome, length-set, List, nat_eq, Nfa, None, not_none}
use Rattle.determinize_lazy.proofs.Common.{of_some, Option, option_map, refl, slice_get, slice_set, slot_number, Some}
use Rattle.determinize_lazy.proofs.Common.{start_slot, start_value, StartsStay, StoredTable, sym, ℕ, ◌∙◌, ◌≡◌, ◌⊎◌}
use Rattle.determinize_start.proofs.kinds.StartSlots.{one_slot}
use Rattle.determinize_start.specs.StartKinds.{start_kind_of}
use Rattle.determinize_start.specs.declared.start.StartSlot.{StartSlot}

kept_set : (starts : List (Option ℕ)) (i id j k : ℕ) → get_or (slice_set starts i (Some id)) j None ≡ Some k
    → ((j ≡ i) × (id ≡ k)) ⊎ (get_or starts j None ≡ Some k)
kept_set starts i id j k kept = grind (arith, get_or-set_other, get_or-set_same, get_or_past, length-set)

module _ (nfa : Nfa) where
  -- the slot is that of this state and this look-behind
  record IsSlotOf (s : ℕ) (p : Option ℕ) (slot : StartSlot) : Type 0 where
    start : s ≡ cond slot.is_anchored nfa.start_anchored nfa.start_unanchored
    kind : slot.kind ≡ start_kind_of nfa.terminator p

  of_slot : (s : ℕ) (p : Option ℕ) (slot : StartSlot) → start_slot nfa s p ≡ Some slot → IsSlotOf s p slot
  of_slot s p slot e = by_test (nat_eq s nfa.start_anchored)
      (λ a. rw (← of_some (rw a at e)) record { start = grind (arith, a); kind = refl })
      (λ a. by_test (nat_eq s nfa.start_unanchored)
      (λ b. rw (← of_some (rw (a, b) at e)) record { start = grind (arith, b); kind = refl })
      (λ b. not_none (sym (rw (a, b) at e))))

  -- a slot has one start state
  one_start : (s t : ℕ) (p q : Option ℕ) (slot : StartSlot) → start_slot nfa s p ≡ Some slot
      → start_slot nfa t q ≡ Some slot → start_value nfa s p ≡ start_value nfa t q
  unfolding have_at_start from_word_at_start half_crlf_at_start
  one_start s t p q slot e f =
      let first = of_slot s p slot e in
      let second = of_slot t q slot f in
      rw (first.start, second.start, ← first.kind, ← second.kind) refl

  -- a number is that of a slot
  slot_at : (o : Option StartSlot) (n : ℕ) → Some n ≡ option_map slot_number o
      → (slot : StartSlot) × (o ≡ Some slot) × (n ≡ slot_number slot)
  slot_at None n e = not_none e
  slot_at (Some slot) n e = (slot, refl, of_some e)

  -- the start that is kept at a number
  pub start-kept : (t : StoredTable) (s : ℕ) (p : Option ℕ) (n : ℕ) (kept : Option ℕ) → AreStarts nfa t
      → Some n ≡ option_map slot_number (start_slot nfa s p) → kept ≡ get_or t.starts n None
      → IfSome kept (λ id. slice_get t.states id ≡ Some (start_value nfa s p))
  start-kept t s p n None are at is = tt
  start-kept t s p n (Some id) are at is =
      let (slot, of, number) = slot_at (start_slot nfa s p) n at in are s p slot id of (rw number at (sym is))

  -- one more start is kept
  pub starts-set : (t : StoredTable) (s : ℕ) (p : Option ℕ) (n id : ℕ) → AreStarts nfa t
      → Some n ≡ option_map slot_number (start_slot nfa s p) → slice_get t.states id ≡ Some (start_value nfa s p)
      → AreStarts nfa (record t { starts = slice_set t.starts n (Some id) })
  starts-set t s p n id are at here r q other k of kept =
      let (slot, from, is) = slot_at (start_slot nfa s p) n at in
      by_cases (kept_set t.starts n id (slot_number other) k kept)
      (λ (same, k_is). rw (← k_is)
      (here ∙ ap Some (one_start s r p q slot from (rw (one_slot other slot (same ∙ is)) at of))))
      (λ before. are r q other k of before)

  -- the starts that are kept stay right
  pub starts-stay : (t t' : StoredTable) → AreStarts nfa t → StartsStay t t' → AreStarts nfa t'
  starts-stay t t' are stay s p slot k of kept =
      let (before, same) = stay (slot_number slot) k kept in same _ (are s p slot k of before)
