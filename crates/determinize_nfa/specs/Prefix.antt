-- The usual prefix of an unanchored NFA.
use Rattle.std.specs.Prelude.{◌≡◌, ℕ, Bool, false, true, not, nat_eq}
use mathlib.Core.Bool.{◌&&◌, ◌||◌}
use Rattle.std.specs.List.{list_any}
use Rattle.determinize_below.specs.Semantics.{state_at, Nfa, Node, ByteRange, Sparse, Dense, Look, Union, BinaryUnion, Capture, Fail, Match}

-- whether the state has a transition to the id; in a dense state 0 is no target
abbrev pub leads_to : ℕ → Node → Bool
leads_to id (ByteRange t) = nat_eq id t.next
leads_to id (Sparse ts) = list_any (λ t. nat_eq id t.next) ts
leads_to id (Dense ids) = not (nat_eq id 0) && list_any (nat_eq id) ids
leads_to id (Look look next) = nat_eq id next
leads_to id (Union ids) = list_any (nat_eq id) ids
leads_to id (BinaryUnion a b) = nat_eq id a || nat_eq id b
leads_to id (Capture next) = nat_eq id next
leads_to id Fail = false
leads_to id (Match pattern) = false

-- the unanchored start is the anchored one or any byte and then itself; no other state goes to it
pub record HasPrefix (nfa : Nfa) : Type 0 where
  pub skip : ℕ
  pub first : state_at nfa nfa.start_unanchored ≡ BinaryUnion nfa.start_anchored skip
  pub any : state_at nfa skip
      ≡ ByteRange record { start = 0; end = 255; next = nfa.start_unanchored }
  pub alone : (s : ℕ) → leads_to nfa.start_unanchored (state_at nfa s) ≡ true → s ≡ skip

-- the usual prefix, and no state but the unanchored start goes to the one that reads any byte
pub record HasPrefixApart (nfa : Nfa) : Type 0 where
  pub prefix : HasPrefix nfa
  pub apart : (s : ℕ) → leads_to prefix.skip (state_at nfa s) ≡ true → s ≡ nfa.start_unanchored
