-- Marks of patterns: those of a list, and of what a walk lists, from place to place.
-- Main statements: mark-next, marking-first, marking-over, marking-step, marking-end, marked-matches, some-matches.
-- Used by: `mark`, `mark_text` and `which_patterns`.
-- Idea: what is marked, and then what is to come, is the whole list all along. Where a search for the next match state
-- stops, what its value lists is marked.
use Rattle.determinize_lazy.proofs.Common.{[], All, append_assoc, AreMarked, AreSomeMarked, arith, Asked, Bool}
use Rattle.determinize_lazy.proofs.Common.{by_cases, by_test, Contains, Contains-append_cases, Contains-append_left}
use Rattle.determinize_lazy.proofs.Common.{Contains-append_right, drop_all, eqb-true, false, get_or, get_or-set_other}
use Rattle.determinize_lazy.proofs.Common.{get_or-set_same, HasCome, HasMatchOf, inl, inr, is_last, IsAccepted}
use Rattle.determinize_lazy.proofs.Common.{IsMarking, length, length-set, List, listed_from, listed_over, MatchKind}
use Rattle.determinize_lazy.proofs.Common.{nat_eq, next_place, Nfa, none_left, Option, Place, refl, slice_get, slice_set, Some, start_for, subst, take, take_more, text_of, true, ℕ}
use Rattle.determinize_lazy.proofs.Common.{◌++◌, ◌+◌, ◌<◌, ◌↔◌, ◌∙◌, ◌∷◌, ◌≡◌, ◌≤◌, ◌⊎◌}
use Rattle.determinize_lazy.proofs.finding.Reported.{listed-come, listed-matches, listed-over, matches-listed}
use Rattle.determinize_lazy.proofs.walking.CachedWalks.{drop-one}

-- what is so of marks is so of them by another name
are_same : {old new : List Bool} {P Q : ℕ → Type 0} → ((p : ℕ) → P p ↔ Q p) → AreMarked old P new
    → AreMarked old Q new
are_same same are = record {
  same = are.same;
  marks = λ p l. (λ m. grind (arith, are.marks p l, same p), λ m. grind (arith, are.marks p l, same p));
}

some_same : {old new : List Bool} {P Q : ℕ → Type 0} → ((p : ℕ) → P p → Q p) → AreSomeMarked old P new
    → AreSomeMarked old Q new
some_same same are = record {
  same = are.same;
  kept = are.kept;
  some = λ p l m. by_cases (are.some p l m) (λ m. inl m) (λ h. inr (same p h));
}

-- all that shall be marked are some of them
pub all-some : {old new : List Bool} {P : ℕ → Type 0} → AreMarked old P new → AreSomeMarked old P new
all-some are = record {
  same = are.same;
  kept = λ p l m. (are.marks p l).1 (inl m);
  some = λ p l m. (are.marks p l).0 m;
}

-- the patterns of one list and those of another
marked_twice : {old now new : List Bool} (xs ys : List ℕ) → AreMarked old (Contains xs) now
    → AreMarked now (Contains ys) new → AreMarked old (Contains (xs ++ ys)) new
marked_twice {now = now} xs ys are more = record {
  same = more.same ∙ are.same;
  marks = λ p l. let k : p < length now = omega (arith, are.same, l) in (
    λ m. grind (arith, more.marks p k, are.marks p l, Contains-append_left xs ys p, Contains-append_right xs ys p),
    λ m. grind (arith, more.marks p k, are.marks p l, Contains-append_cases xs ys p),
  );
}

-- one pattern, which is left out past the last flag
mark_one : {now new : List Bool} (x : ℕ)
    → ((x < length now) × (new ≡ slice_set now x true)) ⊎ ((length now ≤ x) × (new ≡ now))
    → AreMarked now (Contains (x ∷ [])) new
mark_one {now} x (inl (inside, is)) = rw is record {
  same = length-set now x true;
  marks = λ p l. by_test (nat_eq x p)
      (λ e. let same : x ≡ p = eqb-true x p e in
      rw (← same) (λ _. inr (0, omega arith, refl), λ _. get_or-set_same now x true false inside))
      (λ e. let other : get_or (slice_set now x true) p false ≡ get_or now p false
      = grind (arith, e, get_or-set_other) in (λ m. inl (grind arith), λ m. grind (arith, e)));
}
mark_one {now} x (inr (past, is)) = rw is record { same = refl; marks = λ p l. (λ m. inl m, λ m. grind arith) }

-- one more pattern of a list
pub mark-next : {old now new : List Bool} (ps : List ℕ) (i x : ℕ) → AreMarked old (Contains (take i ps)) now
    → i < length ps → x ≡ get_or ps i 0
    → ((x < length now) × (new ≡ slice_set now x true)) ⊎ ((length now ≤ x) × (new ≡ now))
    → AreMarked old (Contains (take (i + 1) ps)) new
mark-next ps i x are more is new_is = rw (take_more ps i 0 more, ← is) (marked_twice _ _ are (mark_one x new_is))

-- before anything is marked
pub marking-first : {old : List Bool} {all rest : List ℕ} → rest ≡ all → IsMarking old all old rest
marking-first is =
    record { done = []; are = record { same = refl; marks = λ p l. (λ m. inl m, λ m. grind arith) }; whole = is }

module _ {old now : List Bool} {all rest : List ℕ} (is : IsMarking old all now rest) where
  pub marking-some : AreSomeMarked old (Contains all) now
  marking-some = rw (← is.whole) (some_same (Contains-append_left is.done rest) (all-some is.are))

  -- what comes next is marked, and all that is to come
  marking-next : {new : List Bool} (xs ys : List ℕ) → AreMarked now (Contains xs) new → rest ≡ xs ++ ys
      → IsMarking old all new ys
  marking-next xs ys more split = record {
    done = is.done ++ xs;
    are = marked_twice is.done xs is.are more;
    whole = rw (append_assoc, ← split) is.whole;
  }

  marking-last : {new : List Bool} → AreMarked now (Contains rest) new → AreMarked old (Contains all) new
  marking-last more = rw (← is.whole) (marked_twice is.done rest is.are more)

-- no unit is left
pub marking-end : {old now new : List Bool} {all : List ℕ} (us : List (Option ℕ)) (p : Place)
    → IsMarking old all now (listed_from us p) → length us ≤ p.read → AreMarked now (Contains p.value.patterns) new
    → AreMarked old (Contains all) new
marking-end us p is past are = marking-last (rw (drop_all p.read us past) at is) are

-- where a search for the next match state stops
module _ {old now new : List Bool} {all : List ℕ} {us : List (Option ℕ)} {p q : Place} (h : HasCome true us p q)
    (is : IsMarking old all now (listed_from us p)) (are : AreMarked now (Contains q.value.patterns) new) where
  come : IsMarking old all now (listed_from us q)
  come = record { done = is.done; are = is.are; whole = rw (listed-come h) at is.whole }

  pub marking-over : is_last false q.value ≡ true → AreMarked old (Contains all) new
  marking-over over = marking-last
      (rw (listed-over q.cache.nfa q.cache.kind q.value _ (none_left q.value.states over)) at come) are

  pub marking-step : {u : Option ℕ} {r : Place} → slice_get us q.read ≡ Some u → r ≡ next_place q u
      → IsMarking old all new (listed_from us r)
  marking-step {u} at r_is = rw r_is (marking-next come _ _ are (rw (drop-one us q.read u at) refl))

-- what is listed over the text of an input matches
module _ (nfa : Nfa) (accepted : IsAccepted nfa) (asked : Asked) where
  abbrev listed_in : MatchKind → List ℕ
  listed_in kind = listed_over nfa kind (start_for nfa asked.anchored) (text_of nfa.reverse asked)

  pub marked-matches : {old new : List Bool} (kind : MatchKind) → kind ≡ All
      → AreMarked old (Contains (listed_in kind)) new → AreMarked old (HasMatchOf nfa asked) new
  marked-matches {old} {new} kind all are =
      are_same (λ x. (listed-matches nfa accepted _ _ All x, matches-listed nfa accepted _ _ x))
      (subst (λ k. AreMarked old (Contains (listed_in k)) new) all are)

  pub some-matches : {old new : List Bool} (kind : MatchKind) → AreSomeMarked old (Contains (listed_in kind)) new
      → AreSomeMarked old (HasMatchOf nfa asked) new
  some-matches kind are = some_same (listed-matches nfa accepted _ _ kind) are
