-- What a search over the NFA of patterns finds is what the patterns match.
-- Main statements: next_by, each_leftmost_in_is_of, each_matches_are_of, all_by, matched_by, full_by, with_limit.
-- Used by: `laws::matches_of_law`, and the searches of `Regex` and of `Stream`.
-- Idea: after the usual prefix the two starts differ, so the last position where a match may begin depends on the input
-- only; all matches are those of one relation for one input, so equal relations have equal lists.
use Rattle.determinize_regex.proofs.Common.{all_ends, Anchored, AreAll, AreMatches, AreMatchesBy, arith, Asked, Bool}
use Rattle.determinize_regex.proofs.Common.{by_cases, by_option, by_test, cases_lt, cond, Contains, Decides}
use Rattle.determinize_regex.proofs.Common.{each_leftmost_in_is_one, EachLeftmostInIsOf, EachMatchesAreOf, false, from}
use Rattle.determinize_regex.proofs.Common.{HasPrefix, IfOk, IfOk-weaker, is_done, IsLeftmostOf, IsLeftmostOfIn}
use Rattle.determinize_regex.proofs.Common.{IsNextBy, IsNfaOf, IsRegex, IsTakenBy, latest_in, List, Match, Nfa, No}
use Rattle.determinize_regex.proofs.Common.{None, Option, option_map, Pattern, Re, refl, RegexValue, Result, Some, suc}
use Rattle.determinize_regex.proofs.Common.{sym, Text, text_of, true≢false, value_of, Yes, zero, [], ℕ, ◌-◌, ◌<◌, ◌∙◌, ◌∷◌, ◌≡◌, ◌≤◌}
use Rattle.determinize_find.proofs.leftmost.TwoSearches.{starts_differ}
use Rattle.determinize_find.specs.FullMatches.{IsFullMatch}
use Rattle.determinize_find.specs.LeftmostIn.{is_anchored, IsLeftmostIn, moved}
use Rattle.determinize_pattern.proofs.entries.Leftmost.{leftmost_is_of}
use Rattle.determinize_pattern.specs.declared.pattern.Pattern.{Pattern as Declared}

-- a relation of inputs and their leftmost matches, and one that has all that it has
module _ (IsFirst IsOther : Asked → Option Match → Type 0)
    (all : (asked : Asked) (found : Option Match) → IsFirst asked found → IsOther asked found) where
  taken_by : (asked : Asked) (before : Option ℕ) (first found : Option Match)
      → IsTakenBy IsFirst asked before first found → IsTakenBy IsOther asked before first found
  taken_by asked before None found t = t
  taken_by asked before (Some m) found t = (λ e. all (from asked _) found (t.0 e), t.1)

  pub next_by : (asked : Asked) (before : Option ℕ) (found : Option Match) → IsNextBy IsFirst asked before found
      → IsNextBy IsOther asked before found
  next_by asked before found n = (n.0, all asked n.0 n.1, taken_by asked before n.0 found n.2)

  matches_by : (asked : Asked) (before : Option ℕ) (found : List Match) → AreMatchesBy IsFirst asked before found
      → AreMatchesBy IsOther asked before found
  matches_by asked before [] a = next_by asked before None a
  matches_by asked before (m ∷ ms) a =
      (next_by asked before (Some m) a.0, matches_by (from asked m.end) (Some m.end) ms a.1)

latest_is : (nfa : Nfa) → HasPrefix nfa → (anchored : Anchored) (n : ℕ)
    → cond (is_anchored nfa anchored) 0 n ≡ latest_in anchored n
latest_is nfa has No n = rw (starts_differ nfa has) refl
latest_is nfa has Yes n = refl
latest_is nfa has (Pattern pattern) n = refl

pub each_leftmost_in_is_of : EachLeftmostInIsOf
each_leftmost_in_is_of res nfa is has asked found =
    let last = latest_is nfa has asked.anchored (asked.end - asked.start) in
    let is_of = leftmost_is_of nfa res is (text_of false asked) in (
      λ h. record { done = h.done; found = λ d. let m = h.found d in (m.0, (is_of _ m.0).0 (rw last at m.1), m.2) },
      λ h. record { done = h.done; found = λ d. let m = h.found d in (m.0, (is_of _ m.0).1 (rw last m.1), m.2) },
    )

pub each_matches_are_of : EachMatchesAreOf
each_matches_are_of res nfa is has asked before found = (
  matches_by _ _ (λ asked m. (each_leftmost_in_is_of res nfa is has asked m).0) asked before found,
  matches_by _ _ (λ asked m. (each_leftmost_in_is_of res nfa is has asked m).1) asked before found,
)

-- all matches of the runs, in a result, are those of the regex that is seen
pub all_by : {X E : Type 0} {patterns : List Declared} {nfa : Nfa} {limit : ℕ} {seen : RegexValue}
    → value_of patterns nfa limit ≡ seen → IsRegex (value_of patterns nfa limit) → (asked : Asked)
    (result : Result X E) (items : X → List Match) → IfOk result (λ x. AreMatches nfa asked None (items x))
    → IfOk result (λ x. AreAll seen asked (items x))
all_by same is asked result items all = rw (← same) (IfOk-weaker result _ _
    (λ x. (each_matches_are_of _ _ is.means is.prefix asked None (items x)).0) all)

-- each input has a leftmost match of the patterns, or `None`: the positions are tried in turn
module _ (t : ℕ) (res : List Re) (text : Text) where
  -- if no match begins at an earlier position
  leftmost_at : (n : ℕ) → ((k : ℕ) → k < n → all_ends t text 0 res k ≡ []) → (ends : List (ℕ × ℕ))
      → all_ends t text 0 res n ≡ ends → (m : Option Match) × IsLeftmostOf t res text n m
  leftmost_at n none [] is = (
    None,
    λ k low. by_cases (cases_lt k n)
        (λ l. none k l)
        (λ l. let e : n ≡ k = omega arith in rw e at is),
  )
  leftmost_at n none (e ∷ ends) is =
      (Some record { pattern = e.0; start = n; end = e.1 }, (omega arith, none, rw is refl))

  leftmost_of : (latest : ℕ) → (m : Option Match) × IsLeftmostOf t res text latest m
  leftmost_of zero = leftmost_at zero (λ k low. absurd (omega (arith, low))) _ refl
  leftmost_of (suc n) = go (leftmost_of n)
    where
      go : ((m : Option Match) × IsLeftmostOf t res text n m)
          → (m : Option Match) × IsLeftmostOf t res text (suc n) m
      go (None, none) = leftmost_at (suc n) (λ k low. none k (omega arith)) _ refl
      go (Some m, found) = (Some m, (omega (arith, found.0), found.1, found.2))

has_leftmost_of_in : (t : ℕ) (res : List Re) (asked : Asked)
    → (m : Option Match) × IsLeftmostOfIn t res asked m
has_leftmost_of_in t res asked = by_test (is_done asked)
    (λ d. (None, record { done = λ e. refl; found = λ e. absurd (true≢false (sym d ∙ e)) }))
    (λ d. let m = leftmost_of t res (text_of false asked) (latest_in asked.anchored (asked.end - asked.start)) in (
      option_map (moved asked.start) m.0,
      record { done = λ e. absurd (true≢false (sym e ∙ d)); found = λ e. (m.0, m.1, refl) },
    ))

-- there is a leftmost match of the runs exactly if there is one of the patterns
pub matched_by : (res : List Re) (nfa : Nfa) → IsNfaOf res nfa → HasPrefix nfa → (asked : Asked) (found : Bool)
    → Decides found (¬ IsLeftmostIn nfa asked None)
    → Decides found ((m : Match) × IsLeftmostOfIn nfa.terminator res asked (Some m))
matched_by res nfa is has asked found h =
    let of_runs = λ (m : Option Match). (each_leftmost_in_is_of res nfa is has asked m).1 in
    let one = has_leftmost_of_in nfa.terminator res asked in (
      λ yes. by_option one.0
          (λ none. absurd (h.0 yes (of_runs None (rw none at one.1))))
          (λ m is. (m, rw is at one.1)),
      λ some. h.1 (λ none. let same : None ≡ Some some.0
          = each_leftmost_in_is_one nfa asked None (Some some.0) none (of_runs (Some some.0) some.1) in cc),
    )

-- a run from the start of the range to its end is a match of the whole range
pub full_by : (res : List Re) (nfa : Nfa) → IsNfaOf res nfa → (asked : Asked) (found : Bool)
    → Decides found (IsFullMatch nfa asked)
    → Decides found ((asked.start ≤ asked.end) × (pattern : ℕ)
    × Contains (all_ends nfa.terminator (text_of false asked) 0 res 0) (pattern, asked.end - asked.start))
full_by res nfa is asked found h =
    let text : Text = text_of false asked in (
      λ yes. let run = h.0 yes in (run.0, run.2, (is.each text 0 (asked.end - asked.start) run.2).0 (run.1, run.3)),
      λ has. let run = (is.each text 0 (asked.end - asked.start) has.1).1 has.2 in h.1 (has.0, run.0, has.1, run.1),
    )

-- a regex with another limit
pub with_limit : {regex : RegexValue} → IsRegex regex → (limit : ℕ) → IsRegex record regex { limit = limit }
with_limit is limit = record { means = is.means; prefix = is.prefix; apart = is.apart; ends = is.ends }
