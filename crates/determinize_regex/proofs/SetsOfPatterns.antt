-- What the DFA of all matches lists at the end of an input, in words of the patterns.
-- Main statements: at_end_in, matching_in.
-- Used by: `RegexSet`.
-- Idea: the list of a walk is that of the patterns with a match that ends there, from the start of the range or from
-- any index of it, by the start state.
use Rattle.determinize_regex.proofs.Common.{Accepts, All, Anchored, ap, append-nil, arith, Asked, Bool, by_cases}
use Rattle.determinize_regex.proofs.Common.{by_test, drop, drop_all, false, has_start, inr, is_done, IsRegex, latest_in}
use Rattle.determinize_regex.proofs.Common.{length, length-range, length-replicate, List, meanings, Nfa, No, Pattern}
use Rattle.determinize_regex.proofs.Common.{refl, RegexValue, replicate, slice_index_or, start_for, sym, take, take_all}
use Rattle.determinize_regex.proofs.Common.{Text, text_of, true, true≢false, value_of, Yes, [], ℕ, ◌++◌, ◌-◌, ◌<◌, ◌∙◌, ◌≡◌, ◌≤◌}
use Rattle.std.proofs.lemmas.List.Elements.{All-drop, All-take}
use Rattle.determinize_below.proofs.Written.{replicated}
use Rattle.determinize_engine.specs.Lists.{ListsAtEnd}
use Rattle.determinize_lazy.specs.Marks.{AreMarked}
use Rattle.determinize_pattern.specs.declared.pattern.Pattern.{Pattern as Declared}
use Rattle.determinize_regex.specs.Sets.{AreAtEnd, AreMatching}
use Rattle.determinize_regex.proofs.ListsOfPatterns.{AreOfPatterns, from_anchored, from_any}
use Rattle.determinize_below.specs.declared.search.MatchKind.TheVariants as kinds

-- what a list of flags is when all of them were written
written : (new flags : List Bool) (count : ℕ) → length new ≡ length flags → count ≡ length flags
    → take count (new ++ drop (length new) flags) ≡ new
written new flags count same all =
    rw (drop_all (length new) flags (omega (arith, same)), append-nil new)
    (take_all count new (omega (arith, same, all)))

-- an input for the DFA of a regex, whose NFA has the direction `way`
module _ (patterns : List Declared) (nfa : Nfa) (limit : ℕ) (is : IsRegex (value_of patterns nfa limit))
    (asked : Asked) (inside : asked.end ≤ length asked.haystack) (small : All (λ b. b < 256) asked.haystack)
    (start : has_start asked.anchored ≡ true) {way : Bool} (forward : way ≡ false) where
  abbrev regex : RegexValue
  regex = value_of patterns nfa limit

  abbrev text : Text
  text = text_of false asked

  abbrev size : ℕ
  size = asked.end - asked.start

  size_is : length text.bytes ≡ size
  size_is = length-range asked inside

  -- the matches that count, by the anchored mode
  of_mode : (anchored : Anchored) → has_start anchored ≡ true
      → AreOfPatterns (meanings regex) nfa text (start_for nfa anchored) (latest_in anchored size)
  of_mode No given = rw size_is at (from_any (meanings regex) nfa is.means text is.prefix
      (All-take (λ (b : ℕ). b < 256) size (drop asked.start asked.haystack)
      (All-drop (λ (b : ℕ). b < 256) asked.start asked.haystack small)))
  of_mode Yes given = from_anchored (meanings regex) nfa is.means text
  of_mode (Pattern p) given = absurd (let wrong : false ≡ true = given in cc)

  pub at_end_in : (xs : List ℕ) → (is_done asked ≡ true → xs ≡ [])
      → (is_done asked ≡ false → ListsAtEnd nfa kinds.All (start_for nfa asked.anchored) (text_of way asked) xs)
      → AreAtEnd regex asked xs
  at_end_in xs done lists = record {
    done = done;
    found = λ more.
        let listed : ListsAtEnd nfa kinds.All (start_for nfa asked.anchored) text xs = rw forward at (lists more) in
        (of_mode asked.anchored start).listed size xs (rw size_is at (listed.all refl));
  }

  -- the flags that a search sets, if it begins with no flag set
  pub matching_in : (old new : List Bool) (count : ℕ) → old ≡ replicate (length patterns) false
      → count ≡ length old → (is_done asked ≡ true → new ≡ old)
      → (is_done asked ≡ false → AreMarked old (λ x. (cs : List ℕ) × (i : ℕ)
      × Accepts nfa (text_of way asked) (start_for nfa asked.anchored) cs i x) new)
      → AreMatching regex asked (take count (new ++ drop (length new) old))
  matching_in old new count clear all done marked = by_test (is_done asked)
      (λ past. let same = done past in rw (written new old count (ap length same) all) record {
        count = rw same size_of;
        each = λ x low. (λ e. absurd (unset x (rw same at e)), λ has. absurd (true≢false (sym past ∙ has.0)));
      })
      (λ more. let marks = rw forward at (marked more) in rw (written new old count marks.same all) record {
        count = marks.same ∙ size_of;
        each = λ x low. let m = marks.marks x (omega (arith, size_of)) in (
          λ e. by_cases (m.0 e)
              (λ was. absurd (unset x was))
              (λ run.
              let c = ((of_mode asked.anchored start).accepted run.1 x).0 (run.0, run.2) in
              (more, c.0, run.1, c.1, c.2)),
          λ has.
              let run = ((of_mode asked.anchored start).accepted has.2 x).1 (has.1, has.3, has.4) in
              m.1 (inr (run.0, has.2, run.1)),
        );
      })
    where
      size_of : length old ≡ length patterns
      size_of = rw clear (length-replicate _ _)

      unset : (x : ℕ) → slice_index_or old x false ≡ true → ⊥
      unset x was = true≢false (sym was ∙ rw clear (replicated (length patterns) x false))
