-- An input has at most one list of tokens.
-- Main statements: each_tokens_are_one.
-- Used by: `tokens_law`.
-- Idea: two longest matches end at one position, where a walk lists the patterns in one order.
use Rattle.std.proofs.Common.{◌≡◌, ◌-◌, ◌≤◌, ◌∙◌, ◌∷◌, ℕ, List, [], arith, false, refl, subst, sym}
use Rattle.determinize_below.specs.Search.{Asked}
use Rattle.determinize_below.specs.Semantics.{Accepts, Nfa}
use Rattle.determinize_below.specs.declared.search.Match.{Match}
use Rattle.determinize_core.specs.Walk.{ListsAccepted}
use Rattle.determinize_core.proofs.walk.AcceptedPatterns.{each_answer_is_one}
use Rattle.determinize_engine.specs.Searches.{text_of}
use Rattle.determinize_find.specs.Matches.{from}
use Rattle.determinize_linear.specs.Laws.{EachTokensAreOne}
use Rattle.determinize_linear.specs.Tokens.{HasNoToken, IsToken}

module _ (nfa : Nfa) (asked : Asked) where
  -- a run that accepts the pattern of a token and ends where it does
  run_of : (m : Match) → IsToken nfa asked m
      → (cs : List ℕ) × Accepts nfa (text_of false asked) nfa.start_anchored cs (m.end - m.start) m.pattern
  run_of m is = (is.longest.0.1.accepted m.pattern).0 (0, omega arith, refl)

  no_longer : (m n : Match) → IsToken nfa asked m → IsToken nfa asked n → m.end - m.start ≤ n.end - n.start
  no_longer m n a b = let r = run_of m a in b.longest.1 r.0 (m.end - m.start) m.pattern r.1

  token_is_one : (m n : Match) → IsToken nfa asked m → IsToken nfa asked n → m ≡ n
  token_is_one m n a b =
      let size : n.end - n.start ≡ m.end - m.start = omega (arith, no_longer m n a b, no_longer n m b a) in
      let starts : m.start ≡ n.start = a.start ∙ sym b.start in
      let ends : m.end ≡ n.end = omega (arith, size, starts, a.nonempty, b.nonempty) in
      let lists : m.pattern ∷ a.longest.0.0 ≡ n.pattern ∷ b.longest.0.0
      = (each_answer_is_one nfa (text_of false asked) nfa.start_anchored).0 (m.end - m.start)
      (m.pattern ∷ a.longest.0.0) (n.pattern ∷ b.longest.0.0) a.longest.0.1
      (subst (λ i. ListsAccepted nfa (text_of false asked) nfa.start_anchored i (n.pattern ∷ b.longest.0.0)) size
      b.longest.0.1) in
      let patterns : m.pattern ≡ n.pattern = cc in
      λ i. record { pattern = patterns i; start = starts i; end = ends i }

  -- where no token begins none does
  none_or_one : (m : Match) → HasNoToken nfa asked → IsToken nfa asked m → ⊥
  none_or_one m none is =
      let r = run_of m is in
      absurd (omega (arith, none r.0 (m.end - m.start) m.pattern r.1, is.nonempty))

pub each_tokens_are_one : EachTokensAreOne
each_tokens_are_one nfa asked [] [] a b = refl
each_tokens_are_one nfa asked [] (n ∷ ns) a b = absurd (none_or_one nfa asked n a b.0)
each_tokens_are_one nfa asked (m ∷ ms) [] a b = absurd (none_or_one nfa asked m b a.0)
each_tokens_are_one nfa asked (m ∷ ms) (n ∷ ns) a b =
    let e : m ≡ n = token_is_one nfa asked m n a.0 b.0 in
    cc (e, each_tokens_are_one nfa (from asked n.end) ms ns (rw e at a.1) b.1)
