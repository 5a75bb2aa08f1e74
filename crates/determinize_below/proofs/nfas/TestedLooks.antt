-- The assertions that states test, and the sets of them.
-- Main statements: Decides-looks_of, Decides-look_set_any.
-- Used by: `look_state_law`, and the truth of look-behind.
-- Idea: the set is built state by state, and each state adds what it tests.
use Rattle.determinize_below.proofs.Common.{◌<◌, [], ap, assertion_in, Bool, Decides, Fail, false, IsAccepted, IsTested, length, List, list_any, looks_of, Nfa, Node, None, Option, Some, state_at, sym, true, with_looks_of, ℕ, ◌||◌, ◌∙◌, ◌∷◌, ◌≡◌, or-false, Any, Decides-at, Decides-like, get_or_default, Any-from_list_any, list_any-from_Any, has, with_look, arith, Assertion}
use Rattle.determinize_below.proofs.nfas.Edges.{state_past}
use Rattle.determinize_below.proofs.looks.LookSets.{Decides-same, has-empty, has-insert, same}

-- whether there is an assertion, and it is this one
abbrev pub is_look : Option Assertion → Assertion → Bool
is_look None look = false
is_look (Some other) look = same other look

Decides-is_look : (o : Option Assertion) (look : Assertion) → Decides (is_look o look) (o ≡ Some look)
Decides-is_look o look = grind (arith, Decides-same)

-- whether some element of a list has the assertion
pub Decides-list_any_look : {A : Type 0} (f : A → Option Assertion) (xs : List A) (look : Assertion)
    → Decides (list_any (λ x. is_look (f x) look) xs) (Any (λ x. f x ≡ Some look) xs)
Decides-list_any_look f xs look = (
  λ h. let a : Any (λ x. is_look (f x) look ≡ true) xs = Any-from_list_any (λ x. is_look (f x) look) xs h in
      (a.0, a.1, a.2, a.3, (Decides-is_look (f a.1) look).0 a.4),
  λ a. list_any-from_Any (λ x. is_look (f x) look) xs (a.0, a.1, a.2, a.3, (Decides-is_look (f a.1) look).1 a.4),
)

-- the set with the assertion of one more state
has-with_look : (set : ℕ) (s : Node) (look : Assertion)
    → has (with_look set s) look ≡ (has set look || is_look (assertion_in s) look)
has-with_look set s look = grind (arith, has-insert)

-- the set with the assertions of more states
has-with_looks_of : (set : ℕ) (xs : List Node) (look : Assertion)
    → has (with_looks_of set xs) look ≡ (has set look || list_any (λ s. is_look (assertion_in s) look) xs)
has-with_looks_of set [] look = sym (or-false (has set look))
has-with_looks_of set (s ∷ xs) look =
    grind (arith, has-with_looks_of (with_look set s) xs look, has-with_look set s look)

-- the assertion set of some states contains exactly the assertions that one of them tests
pub Decides-looks_of : (xs : List Node) (look : Assertion)
    → Decides (has (looks_of xs) look) (Any (λ s. assertion_in s ≡ Some look) xs)
Decides-looks_of xs look = Decides-at _ _
    (has-with_looks_of 0 xs look ∙ ap (λ b. b || list_any (λ s. is_look (assertion_in s) look) xs) (has-empty look))
    (Decides-list_any_look assertion_in xs look)

-- and that of a valid NFA exactly those that some state of the NFA tests
pub Decides-look_set_any : (nfa : Nfa) (accepted : IsAccepted nfa) (look : Assertion)
    → Decides (has nfa.look_set_any look) (IsTested nfa look)
Decides-look_set_any nfa accepted look =
    Decides-like _ there within (Decides-at _ _ (ap (λ set. has set look) accepted.looks)
    (Decides-looks_of nfa.states look))
  where
    there : Any (λ s. assertion_in s ≡ Some look) nfa.states → IsTested nfa look
    there a = (a.0, ap assertion_in (get_or_default nfa.states a.0 Fail a.1 a.2 ∙ a.3) ∙ a.4)

    within : IsTested nfa look → Any (λ s. assertion_in s ≡ Some look) nfa.states
    within t = let l : t.0 < length nfa.states = grind (arith, t.1, state_past) in
        (t.0, state_at nfa t.0, l, get_or_default nfa.states t.0 (state_at nfa t.0) Fail l, t.1)
