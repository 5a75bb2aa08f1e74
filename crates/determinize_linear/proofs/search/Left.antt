-- The choices that are left to a search, and how many there can be.
-- Main statements: left_marked, left_later, left_cleared, left_past, left_most, paid_match, if_none, start_pays.
-- Used by: the searches.
-- Idea: sums over the pairs of a text: at each position they have at most one choice for each state and one for each
-- epsilon transition of the NFA.
use Rattle.std.specs.List.{flat_map}
use Rattle.std.specs.Option.{IfNone}
use Rattle.std.specs.Prelude.{nat_lt, slice_get, slice_index_or}
use Rattle.std.proofs.Common.{◌≡◌, ◌<◌, ◌≤◌, ◌*◌, ◌+◌, ◌++◌, ◌∷◌, ◌||◌, ◌==◌, ℕ, Bool, List, None, Option, Some}
use Rattle.std.proofs.Common.{[], ap, arith, false, length, length-append, map, nat_eq, not, refl, suc, true, zero}
use Rattle.std.proofs.lemmas.Bool.Decides.{nat_tests}
use Rattle.std.proofs.lemmas.List.{length-map}
use mathlib.Core.Path.{fun_ext}
use Rattle.determinize_below.specs.Edges.{edges}
use Rattle.determinize_below.specs.Positions.{byte_edges, true_edges, truth}
use Rattle.determinize_below.specs.Semantics.{Nfa, Text, after_at, before_at, choices}
use Rattle.determinize_below.proofs.nfas.Edges.{length-edges, length-target}
use Rattle.ordered_reach.proofs.Cases.{by_test}
use Rattle.ordered_reach.proofs.graph.FiniteGraphs.{below_member, length_below, same_decides}
use Rattle.ordered_reach.proofs.graph.SearchBound.{weight, weight_one}
use Rattle.ordered_reach.proofs.lists.Elements.{In_flat_map, In_map, In_member, member_In}
use Rattle.ordered_reach.proofs.runs.ByPosition.{pair_eq, same_pairs}
use Rattle.ordered_reach.specs.Reach.{edge_count, member, nodes_below, with_node}
use Rattle.ordered_reach.specs.Runs.{placed}
use Rattle.determinize_linear.specs.Private.Paid.{IsPaid}
use Rattle.determinize_linear.specs.Private.Left.{count_choices, left, most_choices, pairs_in}
use Rattle.determinize_linear.specs.Private.Marks.{is_marked, with_mark, without_marks}
use Rattle.determinize_linear.proofs.search.Marks.{is_marked-with, is_marked-without}

module _ (nfa : Nfa) (text : Text) where
  abbrev degree : ℕ × ℕ → ℕ
  degree p = length (choices nfa text p)

  count_weight : (held : ℕ × ℕ → Bool) (ps : List (ℕ × ℕ)) → count_choices nfa text held ps ≡ weight degree held ps
  count_weight held [] = refl
  count_weight held (p ∷ ps) = grind (arith, count_weight held ps)

  count_more : (held more : ℕ × ℕ → Bool) (ps : List (ℕ × ℕ)) → ((p : ℕ × ℕ) → held p ≡ true → more p ≡ true)
      → count_choices nfa text more ps ≤ count_choices nfa text held ps
  count_more held more [] h = omega arith
  count_more held more (p ∷ ps) h = grind (arith, h p, count_more held more ps h)

  -- two sets, where a pair outside of the first is outside of one of two others
  count_parts : (held other more : ℕ × ℕ → Bool) (ps : List (ℕ × ℕ))
      → ((p : ℕ × ℕ) → more p ≡ false → other p ≡ true → held p ≡ false)
      → count_choices nfa text more ps ≤ count_choices nfa text held ps + count_choices nfa text other ps
  count_parts held other more [] h = omega arith
  count_parts held other more (p ∷ ps) h = grind (arith, h p, count_parts held other more ps h)

  count-append : (held : ℕ × ℕ → Bool) (ps qs : List (ℕ × ℕ))
      → count_choices nfa text held (ps ++ qs) ≡ count_choices nfa text held ps + count_choices nfa text held qs
  count-append held [] qs = omega arith
  count-append held (p ∷ ps) qs = grind (arith, count-append held ps qs)

  degree_most : (i s : ℕ) → degree (i, s) ≤ 1 + length (edges nfa (λ l. true) s)
  degree_most i s =
      let bs : List ℕ = byte_edges nfa text i s in
      let es : List ℕ = true_edges nfa text i s in
      omega (
        arith,
        length-append (map (placed (suc i)) bs) (map (placed i) es),
        length-map bs (placed (suc i)),
        length-map es (placed i),
        length-target nfa (slice_get text.bytes i) s,
        length-edges nfa (truth nfa (before_at text i) (after_at text i)) s,
      )

  -- the choices at a position
  count_row : (held : ℕ × ℕ → Bool) (i : ℕ) (xs : List ℕ)
      → count_choices nfa text held (map (placed i) xs) ≤ length xs + edge_count (edges nfa (λ l. true)) xs
  count_row held i [] = omega arith
  count_row held i (x ∷ xs) = grind (arith, degree_most i x, count_row held i xs)

  row_most : (held : ℕ × ℕ → Bool) (i : ℕ)
      → count_choices nfa text held (map (placed i) (nodes_below (length nfa.states))) ≤ most_choices nfa
  row_most held i = omega (arith, count_row held i (nodes_below (length nfa.states)), length_below (length nfa.states))

  row_held : (held : ℕ × ℕ → Bool) (i : ℕ) (xs : List ℕ) → ((s : ℕ) → held (i, s) ≡ true)
      → count_choices nfa text held (map (placed i) xs) ≡ 0
  row_held held i [] h = refl
  row_held held i (x ∷ xs) h = grind (arith, h x, row_held held i xs h)

  abbrev rows_of : ℕ → List (ℕ × ℕ)
  rows_of n = flat_map (λ i. map (placed i) (nodes_below (length nfa.states))) (nodes_below n)

  -- at all positions
  all_most : (held : ℕ × ℕ → Bool) (n : ℕ) → count_choices nfa text held (rows_of n) ≤ n * most_choices nfa
  all_most held zero = omega arith
  all_most held (suc n) = omega (
    arith,
    count-append held (map (placed n) (nodes_below (length nfa.states))) (rows_of n),
    row_most held n,
    all_most held n,
  )

  -- and at one only
  abbrev elsewhere : ℕ → ℕ × ℕ → Bool
  elsewhere j p = not (p.0 == j)

  none_most : (j n : ℕ) → n ≤ j → count_choices nfa text (elsewhere j) (rows_of n) ≡ 0
  none_most j zero l = refl
  none_most j (suc n) l = omega (
    arith,
    count-append (elsewhere j) (map (placed n) (nodes_below (length nfa.states))) (rows_of n),
    row_held (elsewhere j) n (nodes_below (length nfa.states)) (λ s. grind (arith, nat_tests, l)),
    none_most j n (omega arith),
  )

  one_most : (j n : ℕ) → count_choices nfa text (elsewhere j) (rows_of n) ≤ most_choices nfa
  one_most j zero = omega arith
  one_most j (suc n) = by_test (n == j)
      (λ e. omega (
        arith,
        count-append (elsewhere j) (map (placed n) (nodes_below (length nfa.states))) (rows_of n),
        row_most (elsewhere j) n,
        none_most j n (grind (arith, nat_tests, e)),
      ))
      (λ e. omega (
        arith,
        count-append (elsewhere j) (map (placed n) (nodes_below (length nfa.states))) (rows_of n),
        row_held (elsewhere j) n (nodes_below (length nfa.states)) (λ s. grind (arith, e)),
        one_most j n,
      ))

  pub left_most : (k : ℕ) (rows : List (List Bool)) → left nfa text k rows ≤ (length text.bytes + 1) * most_choices nfa
  left_most k rows = all_most (λ p. nat_lt p.0 k || is_marked rows p) (length text.bytes + 1)

  pub left_later : (k j : ℕ) (rows : List (List Bool)) → k ≤ j → left nfa text j rows ≤ left nfa text k rows
  left_later k j rows l = count_more (λ p. nat_lt p.0 k || is_marked rows p) (λ p. nat_lt p.0 j || is_marked rows p)
      (pairs_in nfa text) (λ p h. grind (arith, nat_tests, h, l))

  pub left_cleared : (j : ℕ) (rows : List (List Bool)) → j < length rows
      → left nfa text j (without_marks rows j) ≤ left nfa text j rows + most_choices nfa
  left_cleared j rows l =
      let a = count_parts (λ p. nat_lt p.0 j || is_marked rows p) (elsewhere j)
      (λ p. nat_lt p.0 j || is_marked (without_marks rows j) p) (pairs_in nfa text)
      (λ p m e. grind (arith, nat_tests, is_marked-without rows j l p, m, e)) in
      let b = one_most j (length text.bytes + 1) in omega (arith, a, b)

  pub left_past : (j k : ℕ) (rows : List (List Bool)) → j < length rows → j < k
      → left nfa text k (without_marks rows j) ≤ left nfa text k rows
  left_past j k rows l h = count_more (λ p. nat_lt p.0 k || is_marked rows p)
      (λ p. nat_lt p.0 k || is_marked (without_marks rows j) p) (pairs_in nfa text)
      (λ p m. grind (arith, nat_tests, is_marked-without rows j l p, m, h))

  -- a new mark uses up the choices of its pair
  pub left_marked : (k : ℕ) (rows : List (List Bool)) (p : ℕ × ℕ) → k ≤ p.0 → p.0 ≤ length text.bytes
      → p.1 < length nfa.states → p.0 < length rows → p.1 < length (slice_index_or rows p.0 [])
      → is_marked rows p ≡ false
      → length (choices nfa text p) + left nfa text k (with_mark rows p.0 p.1) ≤ left nfa text k rows
  left_marked k rows p a b c r m e =
      let held : ℕ × ℕ → Bool = λ q. nat_lt q.0 k || is_marked rows q in
      let inside : member (pair_eq nat_eq) (pairs_in nfa text) p ≡ true = In_member same_pairs (pairs_in nfa text) p
      (In_flat_map (λ i. map (placed i) (nodes_below (length nfa.states))) (nodes_below (length text.bytes + 1)) p.0 p
      (member_In same_decides (nodes_below (length text.bytes + 1)) p.0
      (below_member (length text.bytes + 1) p.0 (omega arith)))
      (In_map (placed p.0) p.1 (nodes_below (length nfa.states))
      (member_In same_decides (nodes_below (length nfa.states)) p.1 (below_member (length nfa.states) p.1 c)))) in
      let new : held p ≡ false = grind (arith, nat_tests, a, e) in
      let w = weight_one same_pairs degree held p (pairs_in nfa text) new inside in
      let same : with_node (pair_eq nat_eq) held p ≡ (λ q. nat_lt q.0 k || is_marked (with_mark rows p.0 p.1) q)
      = fun_ext (λ q. turned q (is_marked-with rows p.0 p.1 r m q)) in
      let x : count_choices nfa text (with_node (pair_eq nat_eq) held p) (pairs_in nfa text)
      ≡ left nfa text k (with_mark rows p.0 p.1)
      = ap (λ v. count_choices nfa text v (pairs_in nfa text)) same in
      omega (
        arith,
        w,
        x,
        count_weight held (pairs_in nfa text),
        count_weight (with_node (pair_eq nat_eq) held p) (pairs_in nfa text),
      )
    where
      turned : (q : ℕ × ℕ)
          → is_marked (with_mark rows p.0 p.1) q ≡ with_node (pair_eq nat_eq) (is_marked rows) (p.0, p.1) q
          → with_node (pair_eq nat_eq) (λ q. nat_lt q.0 k || is_marked rows q) p q
          ≡ (nat_lt q.0 k || is_marked (with_mark rows p.0 p.1) q)
      turned q z = grind (arith, z)

  -- where a search stops at a match
  pub paid_match : (from at : ℕ) (before rows after : List (List Bool)) (total stack old new : ℕ)
      → after ≡ without_marks rows at → at < length rows → from ≤ at → 0 < stack → new ≤ total + 1
      → total + stack + left nfa text from rows ≤ old + 1 + left nfa text from before
      → IsPaid (λ k. left nfa text k after) (most_choices nfa) (left nfa text from before) from at 1 old new
  paid_match from at before rows after total stack old new is l low some one paid = rw is record {
    low = low;
    further = λ k h. omega (arith, left_past at k rows l h, left_later from k rows (omega arith), one, paid, some);
    here = omega (arith, left_cleared at rows l, left_later from at rows low, one, paid, some);
  }

pub if_none : {A : Type 0} (P Q : Type 0) (o : Option A) → (P → Q) → IfNone o P → IfNone o Q
if_none P Q None f h = f h
if_none P Q (Some a) f h = h

-- the tries that are left before the first match are enough
tries_enough : (d n : ℕ) → (n + 1) * d + (d + 1) * (n + 1) ≤ 3 * (d + 1) * (n + 2)
tries_enough d zero = omega arith
tries_enough d (suc n) = omega (arith, tries_enough d n)

-- what is left at the start and what matches may take
pub start_pays : (s e n len left : ℕ) → len ≡ n → left ≤ (len + 1) * (s + e)
    → left + (s + e + 1) * (n + 1) ≤ 3 * (s + e + 1) * (n + 2)
start_pays s e n len left z l =
    let few : left ≤ (n + 1) * (s + e) = rw z at l in omega (arith, few, tries_enough (s + e) n)
