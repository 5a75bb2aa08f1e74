-- What a walk under `All` lists over the NFA of patterns is what the patterns match.
-- Main statements: from_anchored, from_any, each_anchored_list_is_of, each_list_is_of.
-- Used by: `laws::patterns_at_law`, SetsOfPatterns.
-- Idea: a run from the unanchored start skips bytes and is then one from the anchored start; fewer skipped bytes are
-- preferred, and of the runs from one position those that accept an earlier pattern.
use Rattle.determinize_regex.proofs.Common.{Accepts, All, all_ends, ap, arith, Before, by_cases, cases_order, Contains}
use Rattle.determinize_regex.proofs.Common.{EachAnchoredListIsOf, EachListIsOf, HasPrefix, inl, inr, IsBestRun, IsNfaOf}
use Rattle.determinize_regex.proofs.Common.{length, List, ListsAccepted, Nfa, pattern_in, Re, refl, suc, Text, zero, ℕ, ◌+◌, ◌<◌, ◌↔◌, ◌∷◌, ◌≡◌, ◌≤◌}
use Rattle.determinize_find.proofs.leftmost.PreferredRun.{from_start}
use Rattle.determinize_nfa.proofs.prefixes.AfterPrefix.{IsSkip, shape}
use Rattle.determinize_nfa.proofs.prefixes.Skips.{skip, skip_before}
use Rattle.determinize_nfa.proofs.runs.Choices.{true_at}
use Rattle.determinize_nfa.specs.Runs.{AcceptsFrom}
use Rattle.determinize_regex.specs.PatternsAt.{ArePatternsAt, IsBetterAt}
use Rattle.ordered_reach.proofs.lists.Lexicographic.{Before-asym, Before-rest, Before-trans, same_least}
use Rattle.ordered_reach.proofs.lists.Pairs.{pairs_at, pairs_from}

-- which runs from a start accept, and what a walk from it lists, by the matches that begin at `latest` or before
pub record AreOfPatterns (res : List Re) (nfa : Nfa) (text : Text) (start latest : ℕ) : Type 0 where
  pub accepted : (i x : ℕ) → ((cs : List ℕ) × Accepts nfa text start cs i x)
      ↔ ((k : ℕ) × (k ≤ latest) × Contains (all_ends nfa.terminator text 0 res k) (x, i))
  pub listed : (i : ℕ) (xs : List ℕ) → ListsAccepted nfa text start i xs
      → ArePatternsAt nfa.terminator res text latest i xs

-- a run from a start is, after the choices that `lay` puts in front, one from the anchored start at a position
record Begun (nfa : Nfa) (text : Text) (lay : ℕ → List ℕ → List ℕ) (latest : ℕ) (cs : List ℕ) (i x : ℕ) : Type 0 where
  at : ℕ
  then : List ℕ
  is : cs ≡ lay at then
  within : at ≤ latest
  accepts : AcceptsFrom nfa text at nfa.start_anchored then i x

-- the best run of one pattern is not before itself, so two patterns in order differ
not_same : (nfa : Nfa) (text : Text) (start i x y : ℕ) (cs ds : List ℕ) → IsBestRun nfa text start cs i x
    → IsBestRun nfa text start ds i y → Before cs ds → ¬ (x ≡ y)
not_same nfa text start i x y cs ds a b first e =
    let d : IsBestRun nfa text start ds i x = rw e b in
    let same : cs ≡ ds = same_least cs ds (a.best ds d.accepts) (d.best cs a.accepts) in
    Before-asym ds ds (rw same at first) (rw same at first)

module _ (res : List Re) (nfa : Nfa) (is : IsNfaOf res nfa) (text : Text) where
  module _ (start latest : ℕ) (lay : ℕ → List ℕ → List ℕ)
      (begun : (cs : List ℕ) (i x : ℕ) → Accepts nfa text start cs i x → Begun nfa text lay latest cs i x)
      (laid : (k : ℕ) (cs : List ℕ) (i x : ℕ) → k ≤ latest → AcceptsFrom nfa text k nfa.start_anchored cs i x
      → Accepts nfa text start (lay k cs) i x)
      (keeps : (k : ℕ) (cs ds : List ℕ) → Before cs ds → Before (lay k cs) (lay k ds))
      (sooner : (k l : ℕ) (cs ds : List ℕ) → k < l → l ≤ latest → Before (lay k cs) (lay l ds)) where
    better : (i x y : ℕ) (cs ds : List ℕ) → IsBestRun nfa text start cs i x → IsBestRun nfa text start ds i y
        → Before cs ds → IsBetterAt nfa.terminator res text latest i x y
    better i x y cs ds a b first =
        let s = begun cs i x a.accepts in (
          s.at,
          s.within,
          (is.each text s.at i x).0 (s.then, s.accepts),
          λ k low c.
              let r = (is.each text k i y).1 c in
              let before : Before (lay s.at s.then) (lay k r.0) = rw s.is at (by_cases
              (b.best (lay k r.0) (laid k r.0 i y low r.1))
              (λ e. rw e at first)
              (λ m. Before-trans cs ds (lay k r.0) first m)) in
              by_cases (cases_order s.at k)
              (λ e. inr (
                e,
                by_cases (cases_order x y)
                    (λ same. absurd (not_same nfa text start i x y cs ds a b first same))
                    (λ o. by_cases o
                    (λ l. l)
                    (λ l. absurd (Before-asym (lay k s.then) (lay k r.0) (rw e at before) (keeps k r.0 s.then
                    (is.order text k r.0 s.then i i y x l r.1 (rw e at s.accepts)))))),
              ))
              (λ o. by_cases o
              (λ l. inl l)
              (λ l. absurd (Before-asym (lay s.at s.then) (lay k r.0) before (sooner k s.at r.0 s.then l s.within)))),
        )

    of_patterns : AreOfPatterns res nfa text start latest
    of_patterns = record {
      accepted = accepted;
      listed = λ i xs h. record {
        accepted = λ x. (
          λ c. (accepted i x).0 ((h.accepted x).0 c),
          λ c. (h.accepted x).1 ((accepted i x).1 c),
        );
        best_first = pairs_from (IsBetterAt nfa.terminator res text latest i) xs (λ j k x y l p q.
            let b = pairs_at (λ x y. (cs : List ℕ) × (ds : List ℕ) × IsBestRun nfa text start cs i x
            × IsBestRun nfa text start ds i y × Before cs ds) xs h.best_first j k x y l p q in
            better i x y b.0 b.1 b.2 b.3 b.4);
      };
    }
      where
        accepted : (i x : ℕ) → ((cs : List ℕ) × Accepts nfa text start cs i x)
            ↔ ((k : ℕ) × (k ≤ latest) × Contains (all_ends nfa.terminator text 0 res k) (x, i))
        accepted i x = (
          λ a. let s = begun a.0 i x a.1 in (s.at, s.within, (is.each text s.at i x).0 (s.then, s.accepts)),
          λ c. let r = (is.each text c.0 i x).1 c.2 in (lay c.0 r.0, laid c.0 r.0 i x c.1 r.1),
        )

  pub from_anchored : AreOfPatterns res nfa text nfa.start_anchored 0
  from_anchored = of_patterns nfa.start_anchored 0 (λ k cs. cs)
      (λ cs i x a. record { at = 0; then = cs; is = refl; within = omega arith; accepts = a })
      (λ k cs i x low a. let z : k ≡ 0 = omega arith in rw z at a)
      (λ k cs ds b. b)
      (λ k l cs ds less low. absurd (omega (arith, less, low)))

  pub from_any : HasPrefix nfa → All (λ b. b < 256) text.bytes
      → AreOfPatterns res nfa text nfa.start_unanchored (length text.bytes)
  from_any has small = of_patterns nfa.start_unanchored (length text.bytes) skip
      (λ cs i x a.
      let s : IsSkip nfa text (true_at nfa text) has small 0 cs (i, a.0)
      = shape nfa text (true_at nfa text) has small cs 0 (i, a.0) x (omega arith) (ap pattern_in a.2) a.1 in
      let z : 0 + s.over ≡ s.over = omega arith in record {
        at = s.over;
        then = s.choices_then;
        is = s.is;
        within = omega (arith, s.within);
        accepts = (a.0, rw z at s.run, a.2);
      })
      (λ k cs i x low a. from_start nfa text has small k cs i x low a)
      skip_keeps
      (λ k l cs ds less low. skip_before k l cs (0 ∷ ds) less)
    where
      -- runs that skip the same bytes are in the order of what follows
      skip_keeps : (d : ℕ) (cs ds : List ℕ) → Before cs ds → Before (skip d cs) (skip d ds)
      skip_keeps zero cs ds b = Before-rest 0 cs ds b
      skip_keeps (suc d) cs ds b = Before-rest 1 (0 ∷ skip d cs) (0 ∷ skip d ds)
          (Before-rest 0 (skip d cs) (skip d ds) (skip_keeps d cs ds b))

pub each_anchored_list_is_of : EachAnchoredListIsOf
each_anchored_list_is_of res nfa is text = (from_anchored res nfa is text).listed

pub each_list_is_of : EachListIsOf
each_list_is_of res nfa is has text small = (from_any res nfa is text has small).listed
