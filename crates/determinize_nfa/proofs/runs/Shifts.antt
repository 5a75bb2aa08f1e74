-- Runs from a position on are the runs over the rest of the text, with the same choices.
-- Main statements: each_run_moves, each_run_reads_forward.
-- Used by: `laws::shift_law`, and anchored searches from a later index.
-- Idea: positions of the rest are positions of the text, so much later, and see the same units (PathMaps).
use Rattle.determinize_nfa.proofs.Common.{AcceptsFrom, IsPath, List, Nfa, Text, [], ap, arith, before_at, choices, drop}
use Rattle.determinize_nfa.proofs.Common.{map, map-append, placed, refl, same_pairs, slice_get, suc, zero, ℕ, ◌+◌, ◌∷◌}
use Rattle.determinize_nfa.proofs.Common.{◌≡◌, ◌≤◌}
use Rattle.determinize_nfa.specs.Laws.{EachRunMoves, EachRunReadsForward}
use Rattle.determinize_nfa.specs.Runs.{since}
use Rattle.determinize_nfa.proofs.runs.Choices.{choice_later}
use Rattle.ordered_reach.proofs.graph.PathMaps.{path_map, path_unmap}

pub slice_get-drop : {A : Type 0} (k : ℕ) (xs : List A) (i : ℕ) → slice_get (drop k xs) i ≡ slice_get xs (k + i)
slice_get-drop zero xs i = let z : 0 + i ≡ i = omega arith in rw z refl
slice_get-drop (suc k) [] i = refl
slice_get-drop (suc k) (x ∷ xs) i = let z : suc k + i ≡ suc (k + i) = omega arith in rw z (slice_get-drop k xs i)

before-since : (text : Text) (k i : ℕ) → before_at (since text k) i ≡ before_at text (k + i)
before-since text k zero = let z : k + 0 ≡ k = omega arith in rw z refl
before-since text k (suc i) = let z : k + suc i ≡ suc (k + i) = omega arith in rw z (slice_get-drop k text.bytes i)

-- a pair of a position and a state, so much later
abbrev pub shifted : ℕ → ℕ × ℕ → ℕ × ℕ
shifted k p = (k + p.0, p.1)

shifted_one : (k : ℕ) (p q : ℕ × ℕ) → shifted k p ≡ shifted k q → p ≡ q
shifted_one k p q e =
    let a : k + p.0 ≡ k + q.0 = ap (λ w. w.0) e in
    let b : p.1 ≡ q.1 = ap (λ w. w.1) e in
    let c : p.0 ≡ q.0 = omega arith in
    λ i. (c i, b i)

map-placed : (k i : ℕ) (xs : List ℕ) → map (shifted k) (map (placed i) xs) ≡ map (placed (k + i)) xs
map-placed k i [] = refl
map-placed k i (x ∷ xs) = ap (λ l. (k + i, x) ∷ l) (map-placed k i xs)

module _ (nfa : Nfa) (text : Text) (k : ℕ) where
  choices-since : (p : ℕ × ℕ) → choices nfa text (shifted k p) ≡ map (shifted k) (choices nfa (since text k) p)
  choices-since p =
      let z : k + suc p.0 ≡ suc (k + p.0) = omega arith in
      rw (
        map-append (shifted k),
        map-placed k (suc p.0),
        map-placed k p.0,
        slice_get-drop k text.bytes p.0,
        before-since text k p.0,
        z,
      ) refl

  moved : (j start : ℕ) (cs : List ℕ) (i pattern : ℕ) → AcceptsFrom nfa text (k + j) start cs (k + i) pattern
      → AcceptsFrom nfa (since text k) j start cs i pattern
  moved j start cs i y p =
      let r : (q : ℕ × ℕ) × ((k + i, p.0) ≡ shifted k q) × IsPath (choices nfa (since text k)) [] (j, start) cs q
      = path_unmap same_pairs same_pairs (shifted k) (shifted_one k) (choices nfa (since text k))
      (choices nfa text) choices-since cs [] (j, start) (k + i, p.0) p.1 in
      let e : (i, p.0) ≡ r.0 = shifted_one k (i, p.0) r.0 r.1 in
      (p.0, rw e r.2, p.2)

  unmoved : (j start : ℕ) (cs : List ℕ) (i pattern : ℕ) → AcceptsFrom nfa (since text k) j start cs i pattern
      → AcceptsFrom nfa text (k + j) start cs (k + i) pattern
  unmoved j start cs i y p = (
    p.0,
    path_map same_pairs same_pairs (shifted k) (shifted_one k) (choices nfa (since text k))
        (choices nfa text) choices-since cs [] (j, start) (i, p.0) p.1,
    p.2,
  )

pub each_run_moves : EachRunMoves
each_run_moves nfa text k j start cs i y = (moved nfa text k j start cs i y, unmoved nfa text k j start cs i y)

-- a path has no step to an earlier position
pub path_later : (nfa : Nfa) (text : Text) (cs : List ℕ) (held : List (ℕ × ℕ)) (p q : ℕ × ℕ)
    → IsPath (choices nfa text) held p cs q → p.0 ≤ q.0
path_later nfa text [] held p q h = let z : q.0 ≡ p.0 = ap (λ w. w.0) h.1 in omega arith
path_later nfa text (c ∷ cs) held p q h =
    let a : p.0 ≤ h.1.0.0 = choice_later nfa text p h.1.0 c h.1.1 in
    let b : h.1.0.0 ≤ q.0 = path_later nfa text cs (p ∷ held) h.1.0 q h.1.2 in omega arith

pub each_run_reads_forward : EachRunReadsForward
each_run_reads_forward nfa text k start cs i y p = path_later nfa text cs [] (k, start) (i, p.0) p.1
