-- The last match of a walk under `All` is the farthest match, and no run leaves its text.
-- Main statements: no_run_leaves_the_text, each_last_is_farthest.
-- Used by: `farthest_law`, and searches.
-- Idea: no transition leads over EOI; a later position with a match would be listed later.
use Rattle.determinize_core.proofs.Common.{[], Accepts, All, arith, by_cases, by_option, byte_edges, chain, choices}
use Rattle.determinize_core.proofs.Common.{ended_at, get_or_from_slice_get, HalfMatch, IsFarthestMatch, IsPath}
use Rattle.determinize_core.proofs.Common.{last_ended, last_match, length, List, ListsAccepted, Nfa, None, Option}
use Rattle.determinize_core.proofs.Common.{option_or, placed, refl, slice_get, slice_get_within, Some, suc, Text}
use Rattle.determinize_core.proofs.Common.{true_edges, Value, ℕ, ◌+◌, ◌<◌, ◌∷◌, ◌≡◌, ◌≤◌}
use Rattle.std.proofs.Common.{All as Each}
use Rattle.std.proofs.lemmas.List.Elements.{All-append, All-map}
use Rattle.determinize_below.proofs.nfas.Edges.{target-end}
use Rattle.std.proofs.lemmas.Bool.{cases_lt}
use Rattle.determinize_core.specs.Laws.{EachLastIsFarthest, NoRunLeavesTheText}
use Rattle.determinize_core.proofs.walk.ValueWalks.{ListsAll}
use Rattle.determinize_core.proofs.walk.WalkOfRuns.{walk_of_all}

-- a choice at a position of the text goes to a position of it
choices_within : (nfa : Nfa) (text : Text) (r : ℕ × ℕ) → r.0 ≤ length text.bytes
    → Each (λ t. t.0 ≤ length text.bytes) (choices nfa text r)
choices_within nfa text r l = All-append (λ t. t.0 ≤ length text.bytes) _ _
    (All-map (λ t. t.0 ≤ length text.bytes) (placed (suc r.0)) (byte_edges nfa text r.0 r.1)
    (λ k d m. by_option (slice_get text.bytes r.0)
    (λ e. absurd (omega (arith, rw (e, target-end nfa r.1) at m)))
    (λ c e. slice_get_within text.bytes r.0 c e)))
    (All-map (λ t. t.0 ≤ length text.bytes) (placed r.0) (true_edges nfa text r.0 r.1) (λ k d m. l))

-- so does a path of choices
path_within : (nfa : Nfa) (text : Text) (cs : List ℕ) (held : List (ℕ × ℕ)) (r q : ℕ × ℕ) → r.0 ≤ length text.bytes
    → IsPath (choices nfa text) held r cs q → q.0 ≤ length text.bytes
path_within nfa text [] held r q l p = rw p.1 l
path_within nfa text (c ∷ cs) held r q l p =
    let within = choices_within nfa text r l c p.1.0 (slice_get_within _ c p.1.0 p.1.1) in
    path_within nfa text cs (r ∷ held) p.1.0 q (rw (get_or_from_slice_get _ c p.1.0 p.1.0 p.1.1) at within) p.1.2

pub no_run_leaves_the_text : NoRunLeavesTheText
no_run_leaves_the_text nfa start text cs i = (
  (λ s run. path_within nfa text cs [] (0, start) (i, s) (omega arith) run),
  (λ pattern a. path_within nfa text cs [] (0, start) (i, a.0) (omega arith) a.1),
)

module _ (nfa : Nfa) (start : ℕ) (text : Text) where
  -- the farthest match; `None` if no run accepts at position n or later
  abbrev IsFarthestFrom : ℕ → Option HalfMatch → Type 0
  IsFarthestFrom n None = (cs : List ℕ) (i pattern : ℕ) → Accepts nfa text start cs i pattern → i < n
  IsFarthestFrom n (Some m) = IsFarthestMatch nfa start text (Some m)

  -- the patterns at a position, and the farthest match behind it
  farthest_of : (n : ℕ) (ps : List ℕ) (o : Option HalfMatch) → ListsAccepted nfa text start n ps
      → IsFarthestFrom (suc n) o → IsFarthestFrom n (option_or o (ended_at n ps))
  farthest_of n ps (Some m) is f = f
  farthest_of n [] None is f = λ cs i pattern a. by_cases (cases_lt i n) (λ l. l) (λ l.
      let same : i ≡ n = omega (arith, f cs i pattern a) in
      absurd (omega (arith, ((is.accepted pattern).1 (cs, rw same at a)).1)))
  farthest_of n (p ∷ ps) None is f = ((ps, is), λ cs i pattern a. omega (arith, f cs i pattern a))

  -- the values list what is accepted at the positions from n on
  farthest_from : (n : ℕ) (vs : List Value) → n + length vs ≡ length text.bytes + 1
      → ((j i : ℕ) (v : Value) → i ≡ n + j → slice_get vs j ≡ Some v → ListsAccepted nfa text start i v.patterns)
      → IsFarthestFrom n (last_ended n vs)
  farthest_from n [] count lists =
      λ cs i pattern a. omega (arith, (no_run_leaves_the_text nfa start text cs i).1 pattern a)
  farthest_from n (v ∷ vs) count lists = farthest_of n v.patterns _ (lists 0 n v (omega arith) refl)
      (farthest_from (suc n) vs (omega arith) (λ j i w e h. lists (suc j) i w (omega arith) h))

  farthest : (values : List Value) → ListsAll nfa start text values → IsFarthestMatch nfa start text (last_match values)
  farthest [] walk = absurd (let count : 0 ≡ length text.bytes + 2 = walk.count in omega arith)
  farthest (first ∷ vs) walk =
      let count : suc (length vs) ≡ length text.bytes + 2 = walk.count in
      whole (last_ended 0 vs) (farthest_from 0 vs (omega arith)
      (λ j i v e h. let same : i ≡ j = omega arith in walk.matches i v (rw same h)))
    where
      whole : (o : Option HalfMatch) → IsFarthestFrom 0 o → IsFarthestMatch nfa start text o
      whole None f = λ cs i pattern a. absurd (omega (arith, f cs i pattern a))
      whole (Some m) f = f

pub each_last_is_farthest : EachLastIsFarthest
each_last_is_farthest nfa accepted start text =
    farthest nfa start text (chain nfa All start text) (walk_of_all nfa accepted start text)
