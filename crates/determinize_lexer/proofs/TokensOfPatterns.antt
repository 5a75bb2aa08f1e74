-- The tokens by the runs of the NFA of patterns are those by what the patterns match.
-- Main statements: tokens_of.
-- Used by: `Lexer::tokens`.
-- Idea: a run from the anchored start accepts what the patterns match from the first position on, and the first pattern
-- that a walk lists is before all others that it lists.
use Rattle.determinize_regex.proofs.Common.{Accepts, all_ends, arith, Asked, by_cases, Contains, false, from, IsNfaOf}
use Rattle.determinize_regex.proofs.Common.{List, Match, Nfa, Re, refl, suc, Text, text_of, zero, [], ℕ, ◌-◌, ◌∷◌, ◌≡◌, ◌≤◌}
use Rattle.std.specs.List.{AllPairs, slice_index_or}
use Rattle.determinize_linear.specs.Tokens.{AreTokens, IsToken}
use Rattle.determinize_regex.proofs.ListsOfPatterns.{AreOfPatterns, from_anchored}
use Rattle.determinize_regex.specs.PatternsAt.{ArePatternsAt, IsBetterAt}
use Rattle.determinize_lexer.specs.Tokens.{AreTokensOf, IsTokenOf}

-- of matches of the same bytes, the best first, the first pattern is the least
first_is_least : (t : ℕ) (res : List Re) (text : Text) (i p x : ℕ) (others : List ℕ)
    → AllPairs (IsBetterAt t res text 0 i) (p ∷ others) → Contains (all_ends t text 0 res 0) (x, i)
    → Contains (p ∷ others) x → p ≤ x
first_is_least t res text i p x others best c (zero, l, e) = omega (arith, e)
first_is_least t res text i p x others best c (suc k, l, e) =
    let better : IsBetterAt t res text 0 i p (slice_index_or (p ∷ others) (suc k) x)
    = best 0 (suc k) x (omega arith) l in
    let before : IsBetterAt t res text 0 i p x = rw e at better in
    by_cases (before.3 0 (omega arith) c) (λ less. absurd (omega (arith, less))) (λ both. omega (arith, both.1))

module _ (res : List Re) (nfa : Nfa) (is : IsNfaOf res nfa) where
  runs : (asked : Asked) → AreOfPatterns res nfa (text_of false asked) nfa.start_anchored 0
  runs asked = from_anchored res nfa is (text_of false asked)

  -- what a pattern matches at the start of a range, a run accepts
  run_of : (asked : Asked) (x i : ℕ) → Contains (all_ends nfa.terminator (text_of false asked) 0 res 0) (x, i)
      → (cs : List ℕ) × Accepts nfa (text_of false asked) nfa.start_anchored cs i x
  run_of asked x i c = ((runs asked).accepted i x).1 (0, omega arith, c)

  token_of : (asked : Asked) (m : Match) → IsToken nfa asked m → IsTokenOf nfa.terminator res asked m
  token_of asked m h =
      let text : Text = text_of false asked in
      let n : ℕ = m.end - m.start in
      let xs : List ℕ = m.pattern ∷ h.longest.0.0 in
      let lists : ArePatternsAt nfa.terminator res text 0 n xs = (runs asked).listed n xs h.longest.0.1 in
      let here = (lists.accepted m.pattern).0 (0, omega arith, refl) in
      let none : here.0 ≡ 0 = omega (arith, here.1) in
      record {
        start = h.start;
        nonempty = h.nonempty;
        matches = rw none at here.2;
        longest = λ x i c. let run = run_of asked x i c in h.longest.1 run.0 i x run.1;
        first = λ x c. first_is_least nfa.terminator res text n m.pattern x h.longest.0.0 lists.best_first c
            ((lists.accepted x).1 (0, omega arith, c));
      }

  pub tokens_of : (asked : Asked) (ms : List Match) → AreTokens nfa asked ms → AreTokensOf nfa.terminator res asked ms
  tokens_of asked [] h = λ x i c. let run = run_of asked x i c in h run.0 i x run.1
  tokens_of asked (m ∷ ms) h = (token_of asked m h.0, tokens_of (from asked m.end) ms h.1)
