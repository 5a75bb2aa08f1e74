-- The assertions that the states of a list test.
-- Main statements: Decides-needs, needs_member, insert-had.
-- Used by: UnfinishedBytes; `need_law`, WorkingLists and AlikeBytes of `determinize_core`.
-- Idea: the set is built state by state.
use mathlib.Core.Bool.{or-false}
use Rattle.determinize_state.proofs.Common.{◌≡◌, ℕ, ◌<◌, ◌^◌, true, ◌||◌, ◌⊎◌, inr, List, [], ◌∷◌, refl, sym, ◌∙◌, Option, Some, None, nat_eq, Decides, Any, Contains, list_any, true≢false, or_left, eq-eqb, Decides-at, Decides-or, assertion_of, bit_of, has, Nfa, with_assertion, needs, arith}
use Rattle.determinize_below.specs.Look.{insert}
use Rattle.ordered_reach.specs.Reach.{member}
use Rattle.determinize_below.specs.declared.look.Look.{Look as Assertion}
use Rattle.ordered_reach.proofs.lists.Elements.{In_Contains, member_In}
use Rattle.determinize_below.proofs.looks.LookBounds.{bit_small, or_of_18}
use Rattle.determinize_below.proofs.looks.LookSets.{Decides-same, has-insert, has-empty, same_sets}
use Rattle.ordered_reach.proofs.graph.FiniteGraphs.{same_decides}
use Rattle.determinize_below.proofs.nfas.TestedLooks.{is_look, Decides-list_any_look}

-- the set with an optional assertion
has-with_assertion : (set : ℕ) (o : Option Assertion) (look : Assertion)
    → has (with_assertion set o) look ≡ (has set look || is_look o look)
has-with_assertion set None look = sym (or-false (has set look))
has-with_assertion set (Some other) look = has-insert set other look

has-needs : (nfa : Nfa) (set : ℕ) (xs : List ℕ) (look : Assertion)
    → has (needs nfa set xs) look ≡ (has set look || list_any (λ s. is_look (assertion_of nfa s) look) xs)
has-needs nfa set [] look = has-with_assertion set None look
has-needs nfa set (s ∷ xs) look =
    let rest = has-needs nfa (with_assertion set (assertion_of nfa s)) xs look in
    grind (arith, rest, has-with_assertion set (assertion_of nfa s) look)

-- look-need contains an assertion if and only if it did before or some listed state tests it
pub Decides-needs : (nfa : Nfa) (set : ℕ) (xs : List ℕ) (look : Assertion)
    → Decides (has (needs nfa set xs) look) ((has set look ≡ true) ⊎ Any (λ s. assertion_of nfa s ≡ Some look) xs)
Decides-needs nfa set xs look = Decides-at _ _ (has-needs nfa set xs look)
    (Decides-or (has set look) (list_any (λ s. is_look (assertion_of nfa s) look) xs) (λ h. h, λ h. h)
    (Decides-list_any_look (assertion_of nfa) xs look))

-- the assertion of a listed state is in look-need
pub needs_member : (nfa : Nfa) (set : ℕ) (xs : List ℕ) (s : ℕ) (look : Assertion) → member nat_eq xs s ≡ true
    → assertion_of nfa s ≡ Some look → has (needs nfa set xs) look ≡ true
needs_member nfa set xs s look m a =
    let c : Contains xs s = In_Contains same_decides xs s (member_In same_decides xs s m) in
    (Decides-needs nfa set xs look).1 (inr (c.0, s, c.1, c.2, a))

-- a list with a non-empty look-need has a state
pub needs_some : {P : Type 0} (nfa : Nfa) (xs : List ℕ) (look : Assertion) → has (needs nfa 0 xs) look ≡ true
    → ((s : ℕ) → member nat_eq xs s ≡ true → P) → P
needs_some nfa [] look h f = absurd (true≢false (sym h ∙ has-empty look))
needs_some nfa (s ∷ xs) look h f = f s (or_left (nat_eq s s) (member nat_eq xs s) (eq-eqb s s refl))

insert_small : (set : ℕ) (look : Assertion) → set < 2 ^ 18 → insert set look < 2 ^ 18
unfolding insert
insert_small set look small = or_of_18 set (bit_of look) small (bit_small look)

-- inserting an assertion that the set contains
pub insert-had : (set : ℕ) (look : Assertion) → set < 2 ^ 18 → has set look ≡ true → insert set look ≡ set
insert-had set look small had =
    same_sets (insert set look) set (insert_small set look small) small
    (λ l. grind (arith, has-insert set look l, Decides-same look l))
