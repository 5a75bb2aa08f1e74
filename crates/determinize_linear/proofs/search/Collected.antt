-- All matches by a cursor, one after another.
-- Main statements: HasCollected, collected_none, collected_more, collected_all.
-- Used by: `find_all_by`.
-- Idea: each match is the next one after those before it, and what is left falls by what is counted.
use Rattle.std.proofs.Common.{◌≡◌, ◌<◌, ◌≤◌, ◌*◌, ◌+◌, ◌-◌, ◌++◌, ◌∷◌, ◌∙◌, ℕ, List, None, Some, [], ap, arith}
use Rattle.std.proofs.Common.{length, refl}
use Rattle.std.proofs.lemmas.List.Elements.{All-nil}
use Rattle.std.proofs.lemmas.Option.{none-some}
use Rattle.determinize_below.specs.Search.{Asked}
use Rattle.determinize_below.specs.Semantics.{Nfa, Text}
use Rattle.determinize_below.specs.declared.search.Match.{Match}
use Rattle.determinize_find.specs.Cursors.{SearcherValue}
use Rattle.determinize_find.specs.Matches.{AreMatches}
use Rattle.determinize_find.proofs.matches.NextMatch.{IsAfter, IsOneMore, after_all, after_one}
use Rattle.determinize_linear.specs.Private.Turns.{CursorValue, HasMoved, IsCursor, IsInside, index_of, most_left}
use Rattle.determinize_linear.specs.Private.Turns.{place_of}
use Rattle.determinize_linear.proofs.search.Ends.{AreCounted, counted_more, counted_push}

-- a cursor behind these matches, and what they cost
pub record HasCollected (Finds : Nfa → Type 0) (asked : Asked) (text : Text) (Ready : ℕ → Type 0) (first now : ℕ → ℕ)
    (each : ℕ) (Counts : Type 0) (before total : ℕ) (c : CursorValue) (ms : List Match) : Type 0 where
  pub after : (nfa : Nfa) → Finds nfa → IsAfter nfa asked None (place_of c) ms
  pub inside : IsInside c
  pub is : (nfa : Nfa) → Finds nfa → IsCursor nfa c
  pub same_asked : c.asked ≡ asked
  pub same_text : c.text ≡ text
  pub ready : (k : ℕ) → c.at ≤ k → Ready k
  pub paid : Counts → total + most_left now each c ≤ before + (first 0 + each * (asked.end - asked.start + 1))
  pub counted : Counts → before + c.at ≤ total
  pub ended : Counts → AreCounted asked.start before total ms

-- before the first match
pub collected_none : (Finds : Nfa → Type 0) (asked : Asked) (text : Text) (Ready : ℕ → Type 0) (first : ℕ → ℕ)
    (each : ℕ) (Counts : Type 0) (before : ℕ) (c : CursorValue) → IsInside c
    → ((nfa : Nfa) → Finds nfa → IsCursor nfa c) → c.asked ≡ asked → c.before ≡ None → c.at ≡ 0
    → c.text ≡ text → ((k : ℕ) → Ready k)
    → HasCollected Finds asked text Ready first first each Counts before before c []
collected_none Finds asked text Ready first each Counts before c inside is a b z t ready =
    let count : length c.text.bytes ≡ asked.end - asked.start = rw (← a) inside.count in record {
      after = λ nfa f. rw place record { rest = refl; last = λ end e. absurd (none-some end e); first = λ rest h. h };
      inside = inside;
      is = is;
      same_asked = a;
      same_text = t;
      ready = λ k l. ready k;
      paid = λ k. paid count;
      counted = λ k. omega (arith, z);
      ended = λ k. All-nil _;
    }
  where
    whole : SearcherValue
    whole = record { asked = asked; before = None }

    place : place_of c ≡ whole
    place = rw (b, a) refl

    paid : length c.text.bytes ≡ asked.end - asked.start
        → before + most_left first each c ≤ before + (first 0 + each * (asked.end - asked.start + 1))
    paid count =
        let all : asked.end - asked.start + 1 - 0 ≡ asked.end - asked.start + 1 = omega arith in
        rw (z, count, all) (omega arith)

module _ (Finds : Nfa → Type 0) (asked : Asked) (text : Text) (Ready : ℕ → Type 0) (first left_now : ℕ → ℕ) (each : ℕ)
    (Counts : Type 0) (before total : ℕ) (c : CursorValue) (ms : List Match)
    (h : HasCollected Finds asked text Ready first left_now each Counts before total c ms) where
  -- one more
  module _ (new : CursorValue) (m : Match) (moved : HasMoved Finds c (Some m) new) where
    one : (nfa : Nfa) → Finds nfa → IsOneMore nfa asked None (place_of c) (place_of new) ms m
    one nfa f = after_one nfa asked (place_of c) (place_of new) ms m (rw (← h.same_asked) h.inside.haystack)
        (h.after nfa f) (moved.next nfa f) moved.after

    pub collected_more : (Next : ℕ → Type 0) (left_new : ℕ → ℕ) (sum : ℕ) → ((k : ℕ) → new.at ≤ k → Next k)
        → (Counts → sum + most_left left_new each new ≤ total + most_left left_now each c)
        → (Counts → total ≤ sum)
        → (Counts → (total + (m.end + 1 - index_of c) ≤ sum) × (index_of new ≤ m.end + 1))
        → HasCollected Finds asked text Next first left_new each Counts before sum new (ms ++ m ∷ [])
    collected_more Next left_new sum ready pays more counts =
        let start : c.asked.start ≡ asked.start = ap (λ (a : Asked). a.start) h.same_asked in
        let same : new.asked.start ≡ c.asked.start = ap (λ (a : Asked). a.start) moved.asked in record {
          after = λ nfa f. (one nfa f).0;
          inside = moved.inside;
          is = moved.is;
          same_asked = moved.asked ∙ h.same_asked;
          same_text = moved.text ∙ h.same_text;
          ready = ready;
          paid = λ k. omega (arith, pays k, h.paid k);
          counted = λ k. omega (arith, (counts k).0, (counts k).1, h.counted k, same);
          ended = λ k. counted_push asked.start before sum ms m
              (counted_more asked.start before total sum ms (more k) (h.ended k))
              (omega (arith, (counts k).0, (counts k).1, h.counted k, same, start));
        }

  -- and no more
  module _ (new : CursorValue) (moved : HasMoved Finds c None new) where
    pub collected_all : (nfa : Nfa) → Finds nfa → AreMatches nfa asked None ms
    collected_all nfa f = after_all nfa asked (place_of c) ms (h.after nfa f) (moved.next nfa f)
