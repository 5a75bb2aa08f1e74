-- What the rows after an anchored start list last is the most preferred match that begins there.
-- Main statements: best_of_walk.
-- Used by: Longest.
-- Idea: the walk from a position is that over the rest of the text (Rest), and so are the runs (Shifts).
use Rattle.std.proofs.Common.{◌≡◌, ◌≤◌, ◌+◌, ◌-◌, ℕ, List, None, Option, Some, [], ◌∷◌, arith, length}
use Rattle.std.proofs.Common.{refl, subst, sym, true}
use Rattle.std.specs.Prelude.{All, option_map}
use Rattle.determinize_below.specs.Nfa.{IsAccepted}
use Rattle.determinize_below.specs.Semantics.{Accepts, Nfa, Text, before_at}
use Rattle.determinize_below.specs.Truth.{IsUnit}
use Rattle.determinize_below.specs.declared.search.HalfMatch.{HalfMatch}
use Rattle.determinize_below.specs.declared.search.MatchKind.TheVariants.{LeftmostFirst}
use Rattle.determinize_core.specs.Chain.{units}
use Rattle.determinize_core.specs.LastMatch.{IsPreferredMatch}
use Rattle.determinize_core.specs.Walk.{IsLeftmostWalk, last_listed}
use Rattle.determinize_dense.specs.Dfa.{IsDfaOf}
use Rattle.determinize_dense.specs.Table.{Table, start_row}
use Rattle.determinize_find.specs.Private.BestAt.{IsBestAt, from_index}
use Rattle.determinize_nfa.specs.Runs.{AcceptsFrom, since}
use Rattle.determinize_nfa.proofs.runs.Shifts.{each_run_moves, each_run_reads_forward}
use Rattle.determinize_linear.specs.Private.Following.{following}
use Rattle.determinize_linear.proofs.walks.Rest.{later, rest_along, rest_listed, rest_lists}

-- the last match of the lists of a walk is the preferred one
preferred : (nfa : Nfa) (start : ℕ) (text : Text) (lists : List (List ℕ)) → IsLeftmostWalk nfa start text ([] ∷ lists)
    → (found : Option HalfMatch) → last_listed 0 lists ≡ found → IsPreferredMatch nfa start text found
preferred nfa start text lists walk None e = walk.none e
preferred nfa start text lists walk (Some m) e = walk.preferred m e

-- runs from a position are those over the rest of the text
module _ (nfa : Nfa) (text : Text) (k : ℕ) where
  in_rest : (cs : List ℕ) (i pattern : ℕ) → AcceptsFrom nfa text k nfa.start_anchored cs i pattern
      → Accepts nfa (since text k) nfa.start_anchored cs (i - k) pattern
  in_rest cs i y acc =
      let l : k ≤ i = each_run_reads_forward nfa text k nfa.start_anchored cs i y acc in
      let z : k ≡ k + 0 = omega arith in
      let w : i ≡ k + (i - k) = omega arith in
      (each_run_moves nfa text k 0 nfa.start_anchored cs (i - k) y).0
      (subst (λ a. AcceptsFrom nfa text a nfa.start_anchored cs (k + (i - k)) y) z
      (subst (λ b. AcceptsFrom nfa text k nfa.start_anchored cs b y) w acc))

  in_text : (cs : List ℕ) (i pattern : ℕ) → Accepts nfa (since text k) nfa.start_anchored cs i pattern
      → AcceptsFrom nfa text k nfa.start_anchored cs (k + i) pattern
  in_text cs i y acc =
      let z : k + 0 ≡ k = omega arith in
      subst (λ a. AcceptsFrom nfa text a nfa.start_anchored cs (k + i) y) z
      ((each_run_moves nfa text k 0 nfa.start_anchored cs i y).1 acc)

  best_in_text : (found : Option HalfMatch) → IsPreferredMatch nfa nfa.start_anchored (since text k) found
      → IsBestAt nfa text k (option_map (from_index k) (option_map (later k) found))
  best_in_text None p = λ cs i pattern acc. p cs (i - k) pattern (in_rest cs i pattern acc)
  best_in_text (Some h) p = (
    refl,
    (
      p.0,
      record {
        accepts = in_text p.0 h.offset h.pattern p.1.accepts;
        preferred = λ ds j other acc. p.1.preferred ds (j - k) other (in_rest ds j other acc);
      },
    ),
  )

  -- the last match that follows the anchored start at a position
  pub best_of_walk : (d : Table) → IsAccepted nfa → IsDfaOf nfa LeftmostFirst d → k ≤ length text.bytes
      → IsUnit (before_at text k) → All IsUnit (units text)
      → IsBestAt nfa text k (option_map (from_index k)
      (following d text k (start_row nfa d true (before_at text k))))
  best_of_walk d accepted means l behind all =
      let lists : List (List ℕ) = rest_lists nfa d text k l in
      let along = rest_along nfa d text k l LeftmostFirst accepted means behind all in
      let p : IsPreferredMatch nfa nfa.start_anchored (since text k) (last_listed 0 lists)
      = preferred nfa nfa.start_anchored (since text k) lists (along.leftmost refl) (last_listed 0 lists) refl in
      subst (λ o. IsBestAt nfa text k (option_map (from_index k) o)) (sym (rest_listed nfa d text k l))
      (best_in_text (last_listed 0 lists) p)
