-- What a search from a position finds, as a match of the rest of the input.
-- Main statements: best_match, best_nothing, best_rest.
-- Used by: `search_from`.
-- Idea: the first accepting pair is the end of the most preferred run, and a run from a later index is one of the rest
-- of the text (Shifts).
use Rattle.std.specs.Option.{is_some}
use Rattle.std.specs.Prelude.{option_map}
use Rattle.std.proofs.Common.{◌≡◌, ◌≤◌, ◌+◌, ◌-◌, ◌∙◌, ℕ, None, Option, Some, ap, arith, false, length, refl, subst}
use Rattle.std.proofs.Common.{sym}
use Rattle.std.proofs.lemmas.Bool.{false≢true}
use Rattle.determinize_below.specs.Edges.{pattern_in}
use Rattle.determinize_below.specs.Nfa.{IsAccepted}
use Rattle.determinize_below.specs.Search.{Asked}
use Rattle.determinize_below.specs.Semantics.{Match as MatchState, Nfa, Text, choices, state_at}
use Rattle.determinize_below.specs.declared.search.Match.{Match}
use Rattle.determinize_core.proofs.step.WorkingLists.{fuel}
use Rattle.determinize_engine.specs.Searches.{text_of}
use Rattle.determinize_nfa.specs.Leftmost.{NothingFrom}
use Rattle.determinize_nfa.specs.Runs.{AcceptsFrom, since}
use Rattle.determinize_nfa.proofs.runs.Shifts.{each_run_moves, each_run_reads_forward}
use Rattle.determinize_find.specs.LeftmostIn.{moved}
use Rattle.determinize_find.specs.Matches.{from}
use Rattle.determinize_find.specs.Private.BestAt.{IsBestAt, IsBestFrom, IsBestIn}
use Rattle.determinize_find.proofs.leftmost.SearchInTurn.{text-since}
use Rattle.ordered_reach.proofs.runs.ByPosition.{same_pairs}
use Rattle.ordered_reach.proofs.runs.MostPreferred.{IsMostPreferred, first_is_preferred, first_none_preferred}
use Rattle.determinize_linear.proofs.search.Pending.{run_steps}
use Rattle.determinize_linear.proofs.search.UnderWay.{accepts, best_from, enough}

module _ (nfa : Nfa) (accepted : IsAccepted nfa) (text : Text) (k : ℕ) where
  pub best_match : (p : ℕ × ℕ) (pattern : ℕ) → best_from nfa text k ≡ Some p → state_at nfa p.1 ≡ MatchState pattern
      → IsBestAt nfa text k (Some record { pattern = pattern; start = k; end = p.0 })
  best_match p pattern e s =
      let r : IsMostPreferred (choices nfa text) (k, nfa.start_anchored) (accepts nfa) p
      = first_is_preferred same_pairs (run_steps nfa text) (fuel nfa (length text.bytes)) (k, nfa.start_anchored)
      (enough nfa accepted text) (accepts nfa) p e in (
        refl,
        (
          r.choices,
          record {
            accepts = (p.1, r.run, s);
            preferred = λ ds j other acc. r.preferred ds (j, acc.0) acc.1 (ap (λ n. is_some (pattern_in n)) acc.2);
          },
        ),
      )

  pub best_nothing : best_from nfa text k ≡ None → NothingFrom nfa text k
  best_nothing e = λ cs i pattern acc. false≢true
      (sym (first_none_preferred same_pairs (run_steps nfa text) (fuel nfa (length text.bytes)) (k, nfa.start_anchored)
      (enough nfa accepted text) (accepts nfa) e cs (i, acc.0) acc.1) ∙ ap (λ n. is_some (pattern_in n)) acc.2)

-- the most preferred match from a later position, in the rest of the text
rest_best : (nfa : Nfa) (text : Text) (d j k : ℕ) (o : Option Match) → k ≡ d + j → IsBestAt nfa text k o
    → (p : Option Match) × IsBestAt nfa (since text d) j p
    × ((a b : ℕ) → b ≡ a + d → option_map (moved a) o ≡ option_map (moved b) p)
rest_best nfa text d j k None e h = (
  None,
  (λ cs i y acc. subst (λ w. NothingFrom nfa text w) e h cs (d + i) y
      ((each_run_moves nfa text d j nfa.start_anchored cs i y).1 acc)),
  (λ a b z. refl),
)
rest_best nfa text d j k (Some m) e h =
    let own : IsBestFrom nfa text (d + j) h.1.0 m.end m.pattern
    = subst (λ w. IsBestFrom nfa text w h.1.0 m.end m.pattern) e h.1.1 in
    let l : d + j ≤ m.end
    = each_run_reads_forward nfa text (d + j) nfa.start_anchored h.1.0 m.end m.pattern own.accepts in
    let z : m.end ≡ d + (m.end - d) = omega arith in (
      Some record { pattern = m.pattern; start = j; end = m.end - d },
      (
        refl,
        (
          h.1.0,
          record {
            accepts = (each_run_moves nfa text d j nfa.start_anchored h.1.0 (m.end - d) m.pattern).0
                (subst (λ w. AcceptsFrom nfa text (d + j) nfa.start_anchored h.1.0 w m.pattern) z own.accepts);
            preferred = λ ds i other acc. own.preferred ds (d + i) other
                ((each_run_moves nfa text d j nfa.start_anchored ds i other).1 acc);
          },
        ),
      ),
      (λ a b w. let y : m.start ≡ k = h.0 in
          let s : a + m.start ≡ b + j = omega arith in
          let t : a + m.end ≡ b + (m.end - d) = omega arith in
          ap Some (λ i. record { pattern = m.pattern; start = s i; end = t i })),
    )

-- a search of the rest of an input from a later index on finds what a search of the input finds there
pub best_rest : (nfa : Nfa) (asked : Asked) (start at : ℕ) (answer : Option Match) → asked.start ≤ start → start ≤ at
    → at ≤ asked.end → IsBestIn nfa asked at answer → IsBestIn nfa (from asked start) at answer
best_rest nfa asked start at answer l m n h =
    let k : at - asked.start ≡ (start - asked.start) + (at - start) = omega arith in
    let a : start ≡ asked.start + (start - asked.start) = omega arith in
    let b = rest_best nfa (text_of false asked) (start - asked.start) (at - start) (at - asked.start) h.0 k h.1 in
    let t : text_of false (from asked start) ≡ since (text_of false asked) (start - asked.start)
    = text-since asked (from asked start) (start - asked.start) refl a refl (omega arith) in
    (b.0, subst (λ w. IsBestAt nfa w (at - start) b.0) (sym t) b.1, h.2 ∙ b.2 asked.start start a)
