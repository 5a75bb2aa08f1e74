-- The runs of a reversed NFA are the runs of the NFA, in the other direction.
-- Main statements: made_reverse, the `IsReverseOf` of what was recorded.
-- Used by: `reversed`.
-- Idea: each transition that a run takes is one or two steps of the other NFA at the mirrored position (Mirrors), and a
-- walk gives a loop-free run (LoopFree).
use Rattle.determinize_nfa.proofs.Common.{AcceptsFrom, Arc, Assertion, Free, In, In_head, In_map_from, In_none}
use Rattle.determinize_nfa.proofs.Common.{IsReverseOf, List, Match, Nfa, Node, None, Range, Some, Test, Text, Turned}
use Rattle.determinize_nfa.proofs.Common.{Union, [], after_at, ap, arcs_of, arith, before_at, by_cases, cases_lt}
use Rattle.determinize_nfa.proofs.Common.{choices, gathered, inl, inr, length, map, next_of, not, path_stays}
use Rattle.determinize_nfa.proofs.Common.{pattern_in, pattern_of, refl, reversed, same_pairs, slice_get, sources}
use Rattle.determinize_nfa.proofs.Common.{state_at, states_of, suc, sym, turned, upto, ℕ, ◌+◌, ◌-◌, ◌<◌, ◌∙◌, ◌≡◌, ◌≤◌}
use Rattle.determinize_nfa.proofs.Common.{◌⊎◌}
use Rattle.determinize_below.proofs.looks.ReversedLooks.{reversed_holds}
use Rattle.determinize_below.proofs.nfas.SoundNfa.{match_in}
use Rattle.determinize_below.specs.Semantics.{Accepts}
use Rattle.determinize_nfa.proofs.kinds.ArcsOfStates.{Takes}
use Rattle.determinize_nfa.proofs.kinds.TestedLists.{In_one}
use Rattle.determinize_nfa.proofs.reversing.Recorded.{IsAt, IsRecorded, alone, turned_to}
use Rattle.determinize_nfa.proofs.reversing.StatesById.{IsLaid, arc_within, arcs-alone, arcs-gathered, ascends-alone}
use Rattle.determinize_nfa.proofs.reversing.StatesById.{edges-gathered, laid_out, next-turned, pattern-alone}
use Rattle.determinize_nfa.proofs.reversing.StatesById.{pattern-gathered, pattern_within, sources_within}
use Rattle.determinize_nfa.proofs.runs.Choices.{arc_choice, choice_arc, choice_later, choice_leads, free_choice}
use Rattle.determinize_nfa.proofs.runs.Choices.{true_at}
use Rattle.determinize_nfa.proofs.runs.Mirrors.{each_reading_is_mirrored}
use Rattle.determinize_nfa.specs.Reversal.{IsMirrored}
use Rattle.ordered_reach.proofs.graph.LoopFree.{Leads, leads_by, leads_here, leads_then, path_of_walk}

-- the NFA has the states that were recorded
pub record IsMadeOf (nfa backward : Nfa) (h : Turned) : Type 0 where
  pub direction : backward.reverse ≡ not nfa.reverse
  pub terminator : backward.terminator ≡ nfa.terminator
  pub start : backward.start_anchored ≡ suc (length nfa.states)
  pub states : backward.states ≡ states_of h

module _ (nfa backward : Nfa) (met : List ℕ) (h : Turned) (made : IsMadeOf nfa backward h)
    (recorded : IsRecorded nfa met h)
    (text : Text) (j : ℕ) (within : j ≤ length text.bytes) where
  abbrev n : ℕ
  n = length nfa.states

  abbrev back : Text
  back = turned (upto text j)

  -- the steps of the reversed NFA
  abbrev steps : ℕ × ℕ → List (ℕ × ℕ)
  steps = choices backward back

  laid : IsLaid backward h n
  laid = laid_out backward h n made.states recorded.sound.count

  mirrored : IsMirrored text back j
  mirrored = each_reading_is_mirrored text j within

  -- a transition that a run takes over the text, and over the text in the other direction
  abbrev TakesOn : ℕ → ℕ → Arc → Type 0
  TakesOn i k a = Takes (slice_get text.bytes i) (true_at nfa text i) i k a

  abbrev TakesBack : ℕ → ℕ → Arc → Type 0
  TakesBack r q a = Takes (slice_get back.bytes r) (true_at backward back r) r q a

  same_truth : (r i : ℕ) (look : Assertion) → r + i ≡ j
      → true_at backward back r (reversed look) ≡ true_at nfa text i look
  same_truth r i look e =
      rw (made.direction, made.terminator, mirrored.before r i e, mirrored.after r i e)
      (reversed_holds look nfa.reverse nfa.terminator (before_at text i) (after_at text i))

  turns : (r q i k s : ℕ) (a : Arc) → q + i ≡ j → r + k ≡ j → TakesOn i k a → TakesBack r q (turned_to s a)
  turns r q i k s (Range v) e f t =
      let z : k ≡ suc i = t.0 in (omega arith, t.1, mirrored.byte r i (omega arith) ∙ t.2, t.3)
  turns r q i k s (Test look next) e f t =
      let z : k ≡ i = t.0 in (omega arith, same_truth r i look (omega arith) ∙ t.1)
  turns r q i k s (Free next) e f t = omega arith

  turns_back : (r q i k s : ℕ) (a : Arc) → q + i ≡ j → r + k ≡ j → TakesBack r q (turned_to s a) → TakesOn i k a
  turns_back r q i k s (Range v) e f t =
      let z : q ≡ suc r = t.0 in (omega arith, t.1, sym (mirrored.byte r i (omega arith)) ∙ t.2, t.3)
  turns_back r q i k s (Test look next) e f t =
      let z : q ≡ r = t.0 in (omega arith, sym (same_truth r i look (omega arith)) ∙ t.1)
  turns_back r q i k s (Free next) e f t = omega arith

  -- the text in the other direction ends at position j
  later : (r q : ℕ) (a : Arc) → r ≤ j → TakesBack r q a → q ≤ j
  later r q (Range v) l t = let z : q ≡ suc r = t.0 in by_cases (cases_lt r j) (λ m. omega arith)
      (λ m. let e : j ≡ r = omega arith in
      absurd (let w : None ≡ Some t.1 = sym mirrored.last ∙ ap (λ d. slice_get back.bytes d) e ∙ t.2 in cc))
  later r q (Test look next) l t = let z : q ≡ r = t.0 in omega arith
  later r q (Free next) l t = omega arith

  -- a recorded id is a choice
  to_source : (r t y : ℕ) → In y (sources h t) → In (r, y) (steps (r, t))
  to_source r t y k =
      let l : t < length h.into = sources_within h t y k in
      let c : length h.into ≡ n = recorded.sound.count in
      free_choice backward back r t y (rw (laid.gathers t (omega arith), edges-gathered _ (sources h t)) k)

  by_one : (p q : ℕ × ℕ) → In q (steps p) → Leads steps p q
  by_one p q k = leads_by steps p q q k (leads_here steps q)

  -- a transition of the NFA, from its target
  forth : (r q i k s : ℕ) (a : Arc) → q + i ≡ j → r + k ≡ j → In s met → In a (arcs_of (state_at nfa s))
      → TakesOn i k a → Leads steps (r, next_of a) (q, s)
  forth r q i k s a e f m d t =
      let w = (recorded.nodes s m).arcs a d in
      let v : TakesBack r q (turned_to s a) = turns r q i k s a e f t in
      by_cases w.2
      (λ z. rw (rw z.0 at v) (by_one (r, next_of a) (r, s) (to_source r (next_of a) s (rw z.1 at w.1))))
      (λ z. leads_by steps _ _ _ (to_source r (next_of a) w.0 w.1) (by_one _ _ (by_state w.0 z.0 z.1 z.2 v)))
    where
      by_state : (y x : ℕ) → y ≡ n + 2 + x → slice_get h.rest x ≡ Some (alone (turned_to s a))
          → TakesBack r q (turned_to s a) → In (q, s) (steps (r, y))
      by_state y x z w v =
          let b = turned_to s a in
          let is : state_at backward y ≡ alone b = rw z (laid.others x (alone b) w) in
          rw (next-turned s a) at (arc_choice backward back r q y b (rw is (ascends-alone b))
          (rw (is, arcs-alone b) (In_head b [])) v)

  -- where a run of the NFA from position k has come to, the reversed NFA can go on to where the run begins
  module _ (k : ℕ) (low : k ≤ j) where
    abbrev IsMet : ℕ × ℕ → Type 0
    IsMet p = In p.1 met × (p.0 ≤ j → Leads steps (j - p.0, p.1) (j - k, nfa.start_anchored))

    met_next : (p q : ℕ × ℕ) (c : ℕ) → IsMet p → slice_get (choices nfa text p) c ≡ Some q → IsMet q
    met_next p q c d e =
        let a = choice_arc nfa text (true_at nfa text) p q c e in
        let l : p.0 ≤ q.0 = choice_later nfa text p q c e in (
          recorded.closed.further p.1 q.1 d.0 (choice_leads nfa text p q c e),
          λ m. leads_then steps _ _ _
              (rw a.2 at (forth (j - q.0) (j - p.0) p.0 q.0 p.1 a.0 (omega arith) (omega arith) d.0 a.1 a.3))
              (d.1 (omega arith)),
        )

    pub reversed_run : (cs : List ℕ) (pattern : ℕ) → AcceptsFrom nfa text k nfa.start_anchored cs j pattern
        → (ds : List ℕ) × (other : ℕ) × Accepts backward back backward.start_anchored ds (j - k) other
    reversed_run cs pattern acc =
        let d : IsMet (j, acc.0) = path_stays (choices nfa text) IsMet met_next cs [] (k, nfa.start_anchored)
        (j, acc.0) (recorded.closed.start, λ m. leads_here steps (j - k, nfa.start_anchored)) acc.1 in
        let begin : In (0, acc.0) (steps (0, suc n)) = free_choice backward back 0 (suc n) acc.0
        (rw laid.starts ((recorded.nodes acc.0 d.0).ends pattern (ap pattern_in acc.2))) in
        let end : Leads steps (j - k, nfa.start_anchored) (j - k, n)
        = by_one _ _ (to_source (j - k) nfa.start_anchored n recorded.begins) in
        let z : j - j ≡ 0 = omega arith in
        let middle : Leads steps (0, acc.0) (j - k, nfa.start_anchored) = rw z at (d.1 (omega arith)) in
        let whole : Leads steps (0, backward.start_anchored) (j - k, n)
        = rw made.start (leads_by steps _ _ _ begin (leads_then steps _ _ _ middle end)) in
        let p = path_of_walk same_pairs steps (0, backward.start_anchored) (j - k, n) whole in
        (p.0, 0, (n, p.1, laid.match))

  -- some walk from the state at a position accepts at position j
  abbrev Accepting : ℕ → ℕ → Type 0
  Accepting i s = (m : ℕ) × (pattern : ℕ) × Leads (choices nfa text) (i, s) (j, m) × (pattern_of nfa m ≡ Some pattern)

  -- what the reversed NFA has read when it is in a state: nothing, or a walk of the NFA, from its end; the walk begins
  -- in this state, or in one that this state is recorded for
  abbrev HasRead : ℕ → ℕ → Type 0
  HasRead i x = ((i ≡ j) × (x ≡ suc n)) ⊎ (((x < n) × Accepting i x) ⊎ ((t : ℕ) × In x (sources h t) × Accepting i t))

  abbrev HasReadAt : ℕ × ℕ → Type 0
  HasReadAt p = (p.0 ≤ j) × HasRead (j - p.0) p.1

  -- a transition before a walk
  arc_before : (i k s : ℕ) (a : Arc) → In a (arcs_of (state_at nfa s)) → TakesOn i k a → Accepting k (next_of a)
      → (s < n) × Accepting i s
  arc_before i k s a d t acc = (
    arc_within nfa s a d,
    (
      acc.0,
      acc.1,
      leads_by (choices nfa text) (i, s) (k, next_of a) (j, acc.0)
          (arc_choice nfa text i k s a (recorded.ascends s) d t) acc.2,
      acc.3,
    ),
  )

  -- from a state that has only transitions without input
  free_step : (r x c : ℕ) (q : ℕ × ℕ) (ids : List ℕ) (node : Node) → state_at backward x ≡ node
      → arcs_of node ≡ map Free ids → slice_get (steps (r, x)) c ≡ Some q → (q.0 ≡ r) × In q.1 ids
  free_step r x c q ids node z e k =
      let d = choice_arc backward back (true_at backward back) (r, x) q c k in
      In_map_from Free d.0 ids (rw (z, e) at d.1) (λ y i w.
      let same : y ≡ q.1 = rw w at d.2 in (rw w at d.3, rw same at i))

  from_state : (r x c : ℕ) (q : ℕ × ℕ) → r ≤ j → x < n → Accepting (j - r) x → slice_get (steps (r, x)) c ≡ Some q
      → HasReadAt q
  from_state r x c q l m acc k =
      let d = free_step r x c q (sources h x) _ (laid.gathers x m) (arcs-gathered (sources h x)) k in
      rw d.0 (l, inr (inr (x, d.1, acc)))

  -- from a state that has one transition, which is that of another in the other direction
  from_alone : (r x i c s : ℕ) (a : Arc) (q : ℕ × ℕ) → r ≤ j → x ≡ n + 2 + i
      → slice_get h.rest i ≡ Some (alone (turned_to s a)) → In a (arcs_of (state_at nfa s))
      → Accepting (j - r) (next_of a) → slice_get (steps (r, x)) c ≡ Some q → HasReadAt q
  from_alone r x i c s a q l z w d acc k =
      let b = turned_to s a in
      let is : state_at backward x ≡ alone b = rw z (laid.others i (alone b) w) in
      let e = choice_arc backward back (true_at backward back) (r, x) q c k in
      let only : e.0 ≡ b = In_one e.0 b (rw (is, arcs-alone b) at e.1) in
      let takes : TakesBack r q.0 b = rw only at e.3 in
      let to : s ≡ q.1 = sym (next-turned s a) ∙ sym (ap next_of only) ∙ e.2 in
      let m : q.0 ≤ j = later r q.0 b l takes in
      let u = turns_back r q.0 (j - q.0) (j - r) s a (omega arith) (omega arith) takes in
      (m, inr (inl (rw to at (arc_before (j - q.0) (j - r) s a d u acc))))

  from_source : (r x c s : ℕ) (a : Arc) (q : ℕ × ℕ) → r ≤ j → IsAt n h.rest x s a → In a (arcs_of (state_at nfa s))
      → Accepting (j - r) (next_of a) → slice_get (steps (r, x)) c ≡ Some q → HasReadAt q
  from_source r x c s a q l i d acc k = by_cases i
      (λ z. let b = arc_before (j - r) (j - r) s a d (rw z.0 refl) acc in from_state r s c q l b.0 b.1 (rw z.1 at k))
      (λ z. from_alone r x z.0 c s a q l z.1 z.2 d acc k)

  read_on : (p q : ℕ × ℕ) (c : ℕ) → HasReadAt p → slice_get (steps p) c ≡ Some q → HasReadAt q
  read_on p q c d k = by_cases d.1
      (λ f. let g = free_step p.0 p.1 c q h.ends (Union h.ends) (rw f.1 laid.starts) refl k in
      let g' = recorded.sound.ends q.1 g.1 in
      let z : j - q.0 ≡ j = rw g.0 f.0 in (
        rw g.0 d.0,
        inr (inl (
          pattern_within nfa q.1 g'.0 g'.1,
          rw z (q.1, g'.0, leads_here (choices nfa text) (j, q.1), g'.1),
        )),
      ))
      (λ f. by_cases f
      (λ g. from_state p.0 p.1 c q d.0 g.0 g.1 k)
      (λ g. by_cases (recorded.sound.into g.0 p.1 g.1)
      (λ w. In_none q.1 (free_step p.0 p.1 c q [] (Match 0) (rw w.0 laid.match) refl k).1)
      (λ w. from_source p.0 p.1 c w.0 w.1 q d.0 w.4 w.2 (rw (← w.3) at g.2) k)))

  no_pattern : {P : Type 0} (x other : ℕ) (node : Node) → state_at backward x ≡ node → pattern_in node ≡ None
      → state_at backward x ≡ Match other → P
  no_pattern x other node e n m =
      absurd (let z : None ≡ Some other = sym n ∙ ap pattern_in (sym e ∙ m) in cc)

  no_pattern_at : {P : Type 0} (x s other : ℕ) (a : Arc) → In a (arcs_of (state_at nfa s)) → IsAt n h.rest x s a
      → state_at backward x ≡ Match other → P
  no_pattern_at x s other a d i m = by_cases i
      (λ z. no_pattern x other (gathered (sources h x)) (laid.gathers x (rw z.1 (arc_within nfa s a d)))
      (pattern-gathered (sources h x)) m)
      (λ z. let b = alone (turned_to s a) in
      no_pattern x other b (rw z.1 (laid.others z.0 b z.2)) (pattern-alone (turned_to s a)) m)

  pub run_reversed : (k : ℕ) → k ≤ j → (cs : List ℕ) (other : ℕ)
      → Accepts backward back backward.start_anchored cs (j - k) other
      → (ds : List ℕ) × (pattern : ℕ) × AcceptsFrom nfa text k nfa.start_anchored ds j pattern
  run_reversed k l cs other acc =
      let d : HasReadAt (j - k, acc.0) = path_stays steps HasReadAt read_on cs []
      (0, backward.start_anchored) (j - k, acc.0) (omega arith, inl (omega arith, made.start)) acc.1 in
      by_cases d.1
      (λ f. no_pattern acc.0 other (Union h.ends) (rw f.1 laid.starts) refl acc.2)
      (λ f. by_cases f
      (λ g. no_pattern acc.0 other _ (laid.gathers acc.0 g.0) (pattern-gathered (sources h acc.0)) acc.2)
      (λ g. by_cases (recorded.sound.into g.0 acc.0 g.1)
      (λ w. let z : j - (j - k) ≡ k = omega arith in
      let a : Accepting k nfa.start_anchored = rw (z, w.1) at g.2 in
      let p = path_of_walk same_pairs (choices nfa text) (k, nfa.start_anchored) (j, a.0) a.2 in
      (p.0, a.1, (a.0, p.1, match_in (state_at nfa a.0) a.1 a.3)))
      (λ w. no_pattern_at acc.0 w.0 other w.1 w.2 w.4 acc.2)))

-- an NFA that was made of the reversed transitions reads in the other direction
pub made_reverse : (nfa backward : Nfa) (met : List ℕ) (h : Turned) → IsMadeOf nfa backward h → IsRecorded nfa met h
    → IsReverseOf backward nfa
made_reverse nfa backward met h made recorded = record {
  direction = made.direction;
  begins = λ text j k l m. (
    λ r. run_reversed nfa backward met h made recorded text j l k m r.0 r.1 r.2,
    λ r. reversed_run nfa backward met h made recorded text j l k m r.0 r.1 r.2,
  );
}
