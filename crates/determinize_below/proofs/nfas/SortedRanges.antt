-- In sorted ranges, the first that does not end before a byte is the only one that may contain it.
-- Main statements: target_none, target_here, in_order, out_of_order, more_in_order, none_outside, target_more.
-- Used by: `target_in`, `are_in_order`, `sparse_targets`, `Partition::split_ranges`.
-- Idea: each later range begins above the end of this one.
use Rattle.std.specs.Option.{option_and_then}
use Rattle.std.proofs.lemmas.List.{length-drop, nil_from_length}
use Rattle.determinize_below.proofs.Moved.{next_of}
use Rattle.determinize_below.proofs.Common.{[], ap, drop, false, get_or, is_ascending, length, ◌+◌, ◌≤◌, ◌⊎◌, ◌∙◌}
use Rattle.determinize_below.proofs.Common.{arith, ascends_from, find, List, nat_tests, None, Option, option_map, refl}
use Rattle.determinize_below.proofs.Common.{Some, suc, Transition, true, ℕ, ◌<◌, ◌∷◌, ◌≡◌, nat_le, then_some, matches}
use Rattle.determinize_below.proofs.Common.{sparse_target, take, take_more, zero, cond, ◌-◌, get_or_from_slice_get, slice_get, sym}
use Rattle.determinize_below.proofs.nfas.Boundaries.{sparse_target-push}
use Rattle.determinize_below.specs.Semantics.{within}

-- no range of a list that is sorted from above the byte on contains it
none_above : (byte low : ℕ) (ts : List Transition) → ascends_from low ts ≡ true → byte < low
    → find (λ t. matches t byte) ts ≡ None
none_above byte low [] h k = refl
none_above byte low (t ∷ ts) h k = grind (arith, nat_tests, none_above byte (suc t.end) ts)

-- the target of a range with this start, if it does not begin above the byte
abbrev from_start : ℕ → ℕ × ℕ → Option ℕ
from_start byte (start, next) = then_some (nat_le start byte) next

-- so a scan may stop at the first range that does not end before the byte
stops_early : (byte low : ℕ) (ts : List Transition) → ascends_from low ts ≡ true
    → option_and_then (from_start byte) (option_map (λ t. (t.start, t.next)) (find (λ t. nat_le byte t.end) ts))
    ≡ sparse_target ts byte
stops_early byte low [] h = refl
stops_early byte low (t ∷ ts) h =
    grind (arith, nat_tests, none_above byte (suc t.end) ts, stops_early byte (suc t.end) ts)

-- a scan for the first range that does not end before the byte, which none so far is
module _ (byte : ℕ) (ts : List Transition) (ascends : is_ascending ts ≡ true) (i : ℕ)
    (so_far : find (λ t. nat_le byte t.end) (drop i ts) ≡ find (λ t. nat_le byte t.end) ts) where
  pub target_none : length ts ≤ i → None ≡ sparse_target ts byte
  target_none past = let none : drop i ts ≡ [] = nil_from_length (drop i ts) (omega (arith, length-drop i ts)) in
      let found : None ≡ find (λ t. nat_le byte t.end) ts = rw none at so_far in
      rw (← found) at (stops_early byte 0 ts ascends)

  pub target_here : (t : Transition) → i < length ts → t ≡ get_or ts i t → byte ≤ t.end
      → then_some (nat_le t.start byte) t.next ≡ sparse_target ts byte
  target_here t within is reaches =
      let z : nat_le byte t.end ≡ true = grind (arith, nat_tests) in
      let found : Some t ≡ find (λ t. nat_le byte t.end) ts = rw (next_of ts i t within is, z) at so_far in
      rw (← found) at (stops_early byte 0 ts ascends)

-- a scan of ranges that have been in order so far
module _ (ts : List Transition) (low i : ℕ) (so_far : is_ascending ts ≡ ascends_from low (drop i ts)) where
  pub in_order : length ts ≤ i → is_ascending ts ≡ true
  in_order past = let none : drop i ts ≡ [] = nil_from_length (drop i ts) (omega (arith, length-drop i ts)) in
      so_far ∙ ap (ascends_from low) none

  module _ (t : Transition) (within : i < length ts) (is : t ≡ get_or ts i t) where
    next : is_ascending ts ≡ ascends_from low (t ∷ drop (i + 1) ts)
    next = so_far ∙ ap (ascends_from low) (next_of ts i t within is)

    pub out_of_order : (t.start < low) ⊎ (t.end < t.start) → is_ascending ts ≡ false
    out_of_order bad = grind (arith, nat_tests, next, bad)

    pub more_in_order : low ≤ t.start → t.start ≤ t.end → is_ascending ts ≡ ascends_from (t.end + 1) (drop (i + 1) ts)
    more_in_order low end = grind (arith, nat_tests, next)

-- each range begins at the lower limit or above
starts_above : (low : ℕ) (ts : List Transition) (i : ℕ) (t : Transition) → ascends_from low ts ≡ true → i < length ts
    → t ≡ get_or ts i t → low ≤ t.start
starts_above low [] i t h l is = elim l [ ]
starts_above low (x ∷ ts) zero t h l is = grind (arith, nat_tests)
starts_above low (x ∷ ts) (suc i) t h l is = grind (arith, nat_tests, starts_above (suc x.end) ts i t)

-- and ends there or above
ends_above : (low : ℕ) (ts : List Transition) (i : ℕ) (t : Transition) → ascends_from low ts ≡ true → i < length ts
    → t ≡ get_or ts i t → low ≤ t.end
ends_above low [] i t h l is = elim l [ ]
ends_above low (x ∷ ts) zero t h l is = grind (arith, nat_tests)
ends_above low (x ∷ ts) (suc i) t h l is = grind (arith, nat_tests, ends_above (suc x.end) ts i t)

-- no range contains a byte above the end of the last
none_past : (byte low : ℕ) (ts : List Transition) (i : ℕ) (t : Transition) → ascends_from low ts ≡ true
    → length ts ≡ i + 1 → t ≡ get_or ts i t → t.end < byte → sparse_target ts byte ≡ None
none_past byte low [] i t h l is k = refl
none_past byte low (x ∷ []) zero t h l is k = grind (arith, nat_tests)
none_past byte low (x ∷ []) (suc i) t h l is k = absurd (omega arith)
none_past byte low (x ∷ y ∷ ts) zero t h l is k = absurd (omega arith)
none_past byte low (x ∷ y ∷ ts) (suc i) t h l is k =
    grind (arith, nat_tests, ends_above (suc x.end) (y ∷ ts) i t, none_past byte (suc x.end) (y ∷ ts) i t)

-- so none contains a byte that is not between the first and the last
pub none_outside : (ts : List Transition) (t u : Transition) (byte : ℕ) → is_ascending ts ≡ true → t ≡ get_or ts 0 t
    → Some u ≡ slice_get ts (length ts - 1) → within t.start u.end byte ≡ false → sparse_target ts byte ≡ None
none_outside [] t u byte h first last out = refl
none_outside (x ∷ ts) t u byte h first last out =
    let ends : u ≡ get_or (x ∷ ts) (length (x ∷ ts) - 1) u = sym (get_or_from_slice_get (x ∷ ts) _ u u (sym last)) in
    let past : u.end < byte → sparse_target (x ∷ ts) byte ≡ None =
    none_past byte 0 (x ∷ ts) (length (x ∷ ts) - 1) u h (omega arith) ends in
    grind (arith, nat_tests, none_above byte x.start (x ∷ ts), past, out)

-- no range before this one contains a byte of it
none_before : (low : ℕ) (ts : List Transition) (i : ℕ) (t : Transition) (b : ℕ) → ascends_from low ts ≡ true
    → i < length ts → t ≡ get_or ts i t → t.start ≤ b → sparse_target (take i ts) b ≡ None
none_before low ts zero t b h l is k = refl
none_before low [] (suc i) t b h l is k = elim l [ ]
none_before low (x ∷ ts) (suc i) t b h l is k =
    grind (arith, nat_tests, starts_above (suc x.end) ts i t, none_before (suc x.end) ts i t b)

-- the targets of some ranges, and then those of the next one
pub target_more : (ts : List Transition) (i : ℕ) (t : Transition) (b : ℕ) → is_ascending ts ≡ true → i < length ts
    → t ≡ get_or ts i t
    → sparse_target (take (i + 1) ts) b ≡ cond (matches t b) (Some t.next) (sparse_target (take i ts) b)
target_more ts i t b h l is =
    grind (arith, nat_tests, take_more ts i t l, is, sparse_target-push (take i ts) t b, none_before 0 ts i t b h l is)
