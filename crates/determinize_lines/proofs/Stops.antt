-- The first terminator behind an index, and the last one before it, by the set that has only the terminator.
-- Main statements: stop_at, stop_at_end, begun_after, begun_at_start.
-- Used by: `end_of_line` and `line_at` of `LineFinder`.
-- Idea: the only member of the set is the terminator.
use Rattle.byte_set.specs.Sets.{HasNone, IsFirstAt, IsLastAt, IsOnly, is_member}
use Rattle.std.specs.Prelude.{slice_get, slice_index}
use Rattle.determinize_core.proofs.Common.{arith, Bool, eq-eqb, eqb-true, inl, inr, length, List, refl, Some, slice_get-get_or, get_or_from_slice_get, sym, true, true≢false, ℕ, ◌+◌, ◌-◌, ◌<◌, ◌∙◌, ◌≡◌, ◌≤◌}
use Rattle.determinize_lines.specs.Finders.{IsAround, IsStopAfter}

module _ (flags : List Bool) (t : ℕ) (only : IsOnly flags t) (byte : t < 256) (bytes : List ℕ)
    (small : (k : ℕ) → k < length bytes → slice_index bytes k < 256) where
  member_is : (k : ℕ) → k < length bytes → is_member flags (slice_index bytes k) ≡ true → slice_get bytes k ≡ Some t
  member_is k l m =
      let same : slice_index bytes k ≡ t = eqb-true _ _ (sym (only _ (small k l)) ∙ m) in
      rw (← same) (slice_get-get_or bytes k 0 l)

  none_between : (i j : ℕ) → HasNone (is_member flags) bytes i j
      → (k : ℕ) → i ≤ k → k < j → slice_get bytes k ≡ Some t → ⊥
  none_between i j none k low high e =
      let same : slice_index bytes k ≡ t = get_or_from_slice_get bytes k t 0 e in
      let member : is_member flags t ≡ true = only t byte ∙ eq-eqb t t refl in
      true≢false (sym member ∙ rw same at (none k low high))

  pub stop_at : (index k : ℕ) → IsFirstAt (is_member flags) bytes index (length bytes) k → IsStopAfter t bytes index k
  stop_at index k is = record {
    order = is.low;
    within = omega (arith, is.high);
    stops = inr (member_is k is.high is.found);
    unbroken = none_between index k is.none;
  }

  pub stop_at_end : (index : ℕ) → index ≤ length bytes → HasNone (is_member flags) bytes index (length bytes)
      → IsStopAfter t bytes index (length bytes)
  stop_at_end index l none = record {
    order = l;
    within = omega arith;
    stops = inl refl;
    unbroken = none_between index (length bytes) none;
  }

  pub begun_after : (index k b : ℕ) → index ≤ length bytes → IsLastAt (is_member flags) bytes 0 index k
      → IsStopAfter t bytes index b → IsAround t bytes index (k + 1) b
  begun_after index k b l is behind =
      let back : k + 1 - 1 ≡ k = omega arith in record {
        low = omega (arith, is.high);
        starts = inr (rw back (member_is k (omega (arith, is.high)) is.found));
        before = none_between (k + 1) index is.none;
        behind = behind;
      }

  pub begun_at_start : (index b : ℕ) → HasNone (is_member flags) bytes 0 index
      → IsStopAfter t bytes index b → IsAround t bytes index 0 b
  begun_at_start index b none behind = record {
    low = omega arith;
    starts = inl refl;
    before = none_between 0 index none;
    behind = behind;
  }
