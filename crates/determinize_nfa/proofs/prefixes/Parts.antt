-- An NFA has the usual prefix exactly where its parts are in place.
-- Main statements: state_is, skip_within, not_any, Decides-alone, Decides-apart.
-- Used by: `has_prefix` and `has_prefix_apart`; `state_is` also by FoundStates and Counts.
-- Idea: each part of `HasPrefix` is an equation of states, which the code decides by comparing their targets and bytes.
use Rattle.determinize_nfa.proofs.Common.{BinaryUnion, Bool, ByteRange, Decides, Fail, HasPrefix, HasPrefixApart}
use Rattle.determinize_nfa.proofs.Common.{IsAccepted, Nfa, Node, Some, Transition, ap, arith, each_passes, eq-eqb}
use Rattle.determinize_nfa.proofs.Common.{false, false≢true, get_or_from_slice_get, leads_to, length, nat_tests, refl}
use Rattle.determinize_nfa.proofs.Common.{slice_get, state_at, sym, true, ℕ, ◌<◌, ◌∙◌, ◌≡◌}
use Rattle.determinize_nfa.specs.Private.AnyByte.{passes_any, second_or}

pub state_is : (nfa : Nfa) (id : ℕ) (node : Node) → slice_get nfa.states id ≡ Some node → state_at nfa id ≡ node
state_is nfa id node e = get_or_from_slice_get nfa.states id node Fail e

-- the transition over all bytes
abbrev all_to : ℕ → Transition
all_to next = record { start = 0; end = 255; next = next }

any_is : (next : ℕ) (node : Node) → passes_any next node ≡ true → node ≡ ByteRange (all_to next)
any_is next (ByteRange t) h =
    let s : t.start ≡ 0 = grind (arith, nat_tests) in
    let e : t.end ≡ 255 = grind (arith, nat_tests) in
    let n : t.next ≡ next = grind (arith, nat_tests) in
    λ i. ByteRange (record { start = s i; end = e i; next = n i })
any_is next s h = absurd (false≢true h)

-- the start is a union of two
module _ (nfa : Nfa) (start f s : ℕ) (node : Node) (z : start ≡ nfa.start_unanchored)
    (read : slice_get nfa.states start ≡ Some node) (union : node ≡ BinaryUnion f s) where
  start_is : state_at nfa nfa.start_unanchored ≡ BinaryUnion f s
  start_is = rw (← z) (state_is nfa start node read ∙ union)

  same_skip : (h : HasPrefix nfa) → h.skip ≡ s
  same_skip h = let e : BinaryUnion f s ≡ BinaryUnion nfa.start_anchored h.skip = sym start_is ∙ h.first in cc

  -- the second alternate is a state
  pub skip_within : IsAccepted nfa → s < length nfa.states
  skip_within accepted =
      let r = (each_passes nfa accepted start node read).resolves in grind (arith, rw union at r)

  module _ (other : Node) (b : Bool) (next : slice_get nfa.states s ≡ Some other)
      (any : b ≡ passes_any start other) where
    -- the other must pass over all bytes
    pub not_any : b ≡ false → ¬ (HasPrefix nfa)
    not_any n h =
        let e : other ≡ ByteRange (all_to start)
        = sym (state_is nfa s other next) ∙ rw (same_skip h, ← z) at h.any in
        false≢true (sym n ∙ any ∙ ap (passes_any start) e ∙ eq-eqb start start refl)

    -- and nothing else lead back
    pub Decides-alone : (d : Bool) → b ≡ true → f ≡ nfa.start_anchored
        → Decides d ((t : ℕ) → leads_to start (state_at nfa t) ≡ true → t ≡ s) → Decides d (HasPrefix nfa)
    Decides-alone d passed first alone = (
      λ h. record {
        skip = s;
        first = rw first at start_is;
        any = rw (← z) (state_is nfa s other next ∙ any_is start other (sym any ∙ passed));
        alone = rw z at (alone.0 h);
      },
      λ h. alone.1 (rw (z, ← same_skip h) h.alone),
    )

-- the prefix is apart if no state but the start has a transition to the second alternate of the start
pub Decides-apart : (nfa : Nfa) (start s : ℕ) (node : Node) (b : Bool) → HasPrefix nfa → start ≡ nfa.start_unanchored
    → slice_get nfa.states start ≡ Some node → s ≡ second_or node start
    → Decides b ((t : ℕ) → leads_to s (state_at nfa t) ≡ true → t ≡ start) → Decides b (HasPrefixApart nfa)
Decides-apart nfa start s node b has z e n d = (
  λ y. record { prefix = has; apart = rw (skip_is has, z) at (d.0 y) },
  λ h. d.1 (rw (z, skip_is h.prefix) h.apart),
)
  where
    skip_is : (h : HasPrefix nfa) → s ≡ h.skip
    skip_is h = n ∙ ap (λ w. second_or w start) (sym (rw z at (state_is nfa start node e)) ∙ h.first)
