-- What the recorded transitions say of the NFA: each is one of it, and those of the states so far are there.
-- Main statements: all_recorded, over the records IsSound, HasNode and IsRecorded.
-- Used by: BothWays, Validation and `reversed`.
-- Idea: what is recorded only grows, and an entry keeps its place, so a fact of one entry stays true; induction on the
-- lists of the transitions and of the states.
use Rattle.determinize_nfa.proofs.Common.{All_at, Arc, ByteRange, Fail, Free, In, In_append_cases, In_append_left}
use Rattle.determinize_nfa.proofs.Common.{In_append_right, In_cases, In_head, In_none, In_tail, IsAccepted, IsClosed}
use Rattle.determinize_nfa.proofs.Common.{List, Look, Match, Nfa, Node, None, Range, Some, Test, Turned, [], added, ap}
use Rattle.determinize_nfa.proofs.Common.{arcs_of, arith, by_cases, cases_lt, each_passes, get_or, get_or-set_other}
use Rattle.determinize_nfa.proofs.Common.{get_or_past, inl, inr, is_sparse_sound, length, length-replicate, length-set}
use Rattle.determinize_nfa.proofs.Common.{next_of, none_turned, pattern_in, pattern_of, refl, replicate, reversed}
use Rattle.determinize_nfa.proofs.Common.{slice_get, slice_get-get_or, sources, state_at, suc, sym, true}
use Rattle.determinize_nfa.proofs.Common.{with_all_reversed, with_arc, with_arcs, with_end, with_reversed, with_state}
use Rattle.determinize_nfa.proofs.Common.{zero, ℕ, ◌++◌, ◌+◌, ◌<◌, ◌∙◌, ◌∷◌, ◌≡◌, ◌⊎◌}
use Rattle.std.specs.Prelude.{slice_set}
use Rattle.determinize_below.proofs.nfas.Edges.{state_past}
use Rattle.determinize_below.specs.Semantics.{Capture}
use Rattle.determinize_nfa.proofs.kinds.ArcsOfStates.{arc_below}
use Rattle.determinize_nfa.proofs.kinds.TestedLists.{In_one}
use Rattle.determinize_nfa.specs.Private.Turning.{IsTurnedOver}
use Rattle.std.proofs.lemmas.Bool.{cases_eq}
use Rattle.std.proofs.lemmas.List.{get_or-replicate, get_or-set_same}

-- the state with only this transition
abbrev pub alone : Arc → Node
alone (Range r) = ByteRange r
alone (Test look next) = Look look next
alone (Free next) = Capture next

-- the transition in the other direction, to s
abbrev pub turned_to : ℕ → Arc → Arc
turned_to s (Range r) = Range record { start = r.start; end = r.end; next = s }
turned_to s (Test look next) = Test (reversed look) s
turned_to s (Free next) = Free s

-- the id of the recorded transition of s: s itself, or that of a state with only the turned transition
abbrev pub IsAt : ℕ → List Node → ℕ → ℕ → Arc → Type 0
IsAt n rest y s a = ((a ≡ Free (next_of a)) × (y ≡ s))
    ⊎ ((i : ℕ) × (y ≡ n + 2 + i) × (slice_get rest i ≡ Some (alone (turned_to s a))))

-- the id is that of a recorded transition to t, or of the match state if t is the anchored start
abbrev pub IsSource : Nfa → List Node → ℕ → ℕ → Type 0
IsSource nfa rest t y = ((y ≡ length nfa.states) × (t ≡ nfa.start_anchored))
    ⊎ ((s : ℕ) × (a : Arc) × In a (arcs_of (state_at nfa s)) × (next_of a ≡ t) × IsAt (length nfa.states) rest y s a)

-- all that is recorded is of the NFA
pub record IsSound (nfa : Nfa) (h : Turned) : Type 0 where
  pub count : length h.into ≡ length nfa.states
  pub into : (t y : ℕ) → In y (sources h t) → IsSource nfa h.rest t y
  pub rest : (x : Node) → In x h.rest → (s : ℕ) × (a : Arc) × (s < length nfa.states) × (x ≡ alone (turned_to s a))
  pub ends : (s : ℕ) → In s h.ends → (pattern : ℕ) × (pattern_of nfa s ≡ Some pattern)

-- the transition of the state s is recorded
abbrev pub HasArc : Nfa → Turned → ℕ → Arc → Type 0
HasArc nfa h s a = (y : ℕ) × In y (sources h (next_of a)) × IsAt (length nfa.states) h.rest y s a

-- the state s, which is this one, is recorded with all of its transitions
pub record HasNode (nfa : Nfa) (h : Turned) (s : ℕ) (node : Node) : Type 0 where
  pub ends : (pattern : ℕ) → pattern_in node ≡ Some pattern → In s h.ends
  pub arcs : (a : Arc) → In a (arcs_of node) → HasArc nfa h s a

-- the transitions of a closed list of states are recorded, and no others
pub record IsRecorded (nfa : Nfa) (met : List ℕ) (h : Turned) : Type 0 where
  pub closed : IsClosed nfa met
  pub ascends : (s : ℕ) → is_sparse_sound (state_at nfa s) ≡ true
  pub sound : IsSound nfa h
  pub begins : In (length nfa.states) (sources h nfa.start_anchored)
  pub nodes : (s : ℕ) → In s met → HasNode nfa h s (state_at nfa s)

-- what one record of transitions is to a later one
record IsMore (nfa : Nfa) (old new : Turned) : Type 0 where
  sound : IsSound nfa new
  into : (t y : ℕ) → In y (sources old t) → In y (sources new t)
  rest : (i : ℕ) (x : Node) → slice_get old.rest i ≡ Some x → slice_get new.rest i ≡ Some x
  ends : (s : ℕ) → In s old.ends → In s new.ends

-- an id that goes to the end of one list: it is there, and what was there stays
module _ (into : List (List ℕ)) (t y : ℕ) (l : t < length into) where
  abbrev longer : List (List ℕ)
  longer = slice_set into t (get_or into t [] ++ y ∷ [])

  at_place : get_or longer t [] ≡ get_or into t [] ++ y ∷ []
  at_place = get_or-set_same into t (get_or into t [] ++ y ∷ []) [] l

  elsewhere : (v : ℕ) → (v ≡ t → ⊥) → get_or longer v [] ≡ get_or into v []
  elsewhere v n = get_or-set_other into t v (get_or into t [] ++ y ∷ []) [] n

  stays_in : (v z : ℕ) → In z (get_or into v []) → In z (get_or longer v [])
  stays_in v z k = by_cases (cases_eq v t)
      (λ e. rw (e, at_place) (In_append_left z (get_or into t []) (y ∷ []) (rw e at k)))
      (λ n. rw (elsewhere v n) k)

  came_in : {P : Type 0} (v z : ℕ) → In z (get_or longer v []) → (In z (get_or into v []) → P)
      → (t ≡ v → y ≡ z → P) → P
  came_in v z k f g = by_cases (cases_eq v t)
      (λ e. In_append_cases z (get_or into t []) (y ∷ []) (rw (e, at_place) at k)
      (λ d. f (rw e d))
      (λ d. g (sym e) (sym (In_one z y d))))
      (λ n. f (rw (elsewhere v n) at k))

slice_get-left : {A : Type 0} (xs ys : List A) (i : ℕ) (x : A) → slice_get xs i ≡ Some x
    → slice_get (xs ++ ys) i ≡ Some x
slice_get-left [] ys i x e = cc
slice_get-left (z ∷ xs) ys zero x e = e
slice_get-left (z ∷ xs) ys (suc i) x e = slice_get-left xs ys i x e

slice_get-last : {A : Type 0} (xs : List A) (x : A) → slice_get (xs ++ x ∷ []) (length xs) ≡ Some x
slice_get-last [] x = refl
slice_get-last (z ∷ xs) x = slice_get-last xs x

at_stays : (n : ℕ) (old new : List Node) (y s : ℕ) (a : Arc)
    → ((i : ℕ) (x : Node) → slice_get old i ≡ Some x → slice_get new i ≡ Some x) → IsAt n old y s a → IsAt n new y s a
at_stays n old new y s a g d = by_cases d inl (λ e. inr (e.0, e.1, g e.0 (alone (turned_to s a)) e.2))

module _ (nfa : Nfa) where
  abbrev n : ℕ
  n = length nfa.states

  more_self : (h : Turned) → IsSound nfa h → IsMore nfa h h
  more_self h sound = record { sound = sound; into = λ t y k. k; rest = λ i x e. e; ends = λ s k. k }

  more_then : {a b c : Turned} → IsMore nfa a b → IsMore nfa b c → IsMore nfa a c
  more_then f g = record {
    sound = g.sound;
    into = λ t y k. g.into t y (f.into t y k);
    rest = λ i x e. g.rest i x (f.rest i x e);
    ends = λ s k. g.ends s (f.ends s k);
  }

  arc_stays : {old new : Turned} (s : ℕ) (a : Arc) → IsMore nfa old new → HasArc nfa old s a → HasArc nfa new s a
  arc_stays s a m d = (d.0, m.into (next_of a) d.0 d.1, at_stays _ _ _ d.0 s a m.rest d.2)

  -- one more id, of a transition of s, or of that to the anchored start
  abbrev pushed : Turned → ℕ → ℕ → List Node → Turned
  pushed h t y rest = record { into = slice_set h.into t (sources h t ++ y ∷ []); rest = rest; ends = h.ends }

  pushed_more : (h : Turned) (s y : ℕ) (a : Arc) (rest : List Node) → IsSound nfa h → next_of a < n
      → ((i : ℕ) (x : Node) → slice_get h.rest i ≡ Some x → slice_get rest i ≡ Some x)
      → ((x : Node) → In x rest → In x h.rest ⊎ ((s < n) × (x ≡ alone (turned_to s a))))
      → IsAt n rest y s a → IsSource nfa rest (next_of a) y
      → IsMore nfa h (pushed h (next_of a) y rest) × HasArc nfa (pushed h (next_of a) y rest) s a
  pushed_more h s y a rest sound l stays came is source =
      let c : length h.into ≡ n = sound.count in
      let t = next_of a in
      let within : t < length h.into = omega arith in (
        record {
          sound = record {
            count = length-set h.into t (sources h t ++ y ∷ []) ∙ c;
            into = λ v z k. came_in h.into t y within v z k
                (λ i. by_cases (sound.into v z i) inl
                (λ d. inr (d.0, d.1, d.2, d.3, at_stays _ _ _ z d.0 d.1 stays d.4)))
                (λ p q. rw (p, q) at source);
            rest = λ x k. by_cases (came x k) (sound.rest x) (λ d. (s, a, d.0, d.1));
            ends = sound.ends;
          };
          into = stays_in h.into t y within;
          rest = stays;
          ends = λ x k. k;
        },
        (y, rw (at_place h.into t y within) (In_append_right y (sources h t) (y ∷ []) (In_head y [])), is),
      )

  -- the match state, for the anchored start
  begin_more : (h : Turned) → IsSound nfa h → nfa.start_anchored < n → IsMore nfa h (added h nfa.start_anchored n)
      × HasArc nfa (added h nfa.start_anchored n) n (Free nfa.start_anchored)
  begin_more h sound l = pushed_more h n n (Free nfa.start_anchored) h.rest sound l (λ i x e. e) (λ x k. inl k)
      (inl (refl, refl)) (inl (refl, refl))

  module _ (accepted : IsAccepted nfa) (s : ℕ) (low : s < n) where
    target_below : (a : Arc) → In a (arcs_of (state_at nfa s)) → next_of a < n
    target_below a = arc_below nfa accepted s (state_at nfa s) a (slice_get-get_or nfa.states s Fail low)

    -- a state for a transition of the state s
    state_more : (h : Turned) (a : Arc) → IsSound nfa h → In a (arcs_of (state_at nfa s))
        → IsMore nfa h (with_state h (next_of a) (alone (turned_to s a)))
        × HasArc nfa (with_state h (next_of a) (alone (turned_to s a))) s a
    state_more h a sound k =
        let x = alone (turned_to s a) in
        let is : IsAt n (h.rest ++ x ∷ []) (length h.into + 2 + length h.rest) s a
        = inr (length h.rest, ap (λ c. c + 2 + length h.rest) sound.count, slice_get-last h.rest x) in
        pushed_more h s (length h.into + 2 + length h.rest) a (h.rest ++ x ∷ []) sound (target_below a k)
        (slice_get-left h.rest (x ∷ []))
        (λ y i. In_append_cases y h.rest (x ∷ []) i inl (λ d. inr (low, In_one y x d)))
        is (inr (s, a, k, refl, is))

    arc_more : (h : Turned) (a : Arc) → IsSound nfa h → In a (arcs_of (state_at nfa s))
        → IsMore nfa h (with_arc h s a) × HasArc nfa (with_arc h s a) s a
    arc_more h (Range r) sound k = state_more h (Range r) sound k
    arc_more h (Test look next) sound k = state_more h (Test look next) sound k
    arc_more h (Free next) sound k = pushed_more h s s (Free next) h.rest sound (target_below (Free next) k)
        (λ i x e. e) (λ x i. inl i) (inl (refl, refl)) (inr (s, Free next, k, refl, inl (refl, refl)))

    arcs_more : (h : Turned) (arcs : List Arc) → IsSound nfa h
        → ((a : Arc) → In a arcs → In a (arcs_of (state_at nfa s)))
        → IsMore nfa h (with_arcs h s arcs) × ((a : Arc) → In a arcs → HasArc nfa (with_arcs h s arcs) s a)
    arcs_more h [] sound f = (more_self h sound, λ a k. In_none a k)
    arcs_more h (x ∷ arcs) sound f =
        let first = arc_more h x sound (f x (In_head x arcs)) in
        let all = arcs_more (with_arc h s x) arcs first.0.sound (λ a k. f a (In_tail a x arcs k)) in (
          more_then first.0 all.0,
          λ a k. In_cases a x arcs k (λ e. rw e (arc_stays s x all.0 first.1)) (all.1 a),
        )

    -- the state itself, if it has a pattern
    end_more : (h : Turned) (node : Node) → state_at nfa s ≡ node → IsSound nfa h → IsMore nfa h (with_end h s node)
        × ((pattern : ℕ) → pattern_in node ≡ Some pattern → In s (with_end h s node).ends)
    end_more h (Match p) e sound = (
      record {
        sound = record {
          count = sound.count;
          into = sound.into;
          rest = sound.rest;
          ends = λ x k. In_append_cases x h.ends (s ∷ []) k (sound.ends x)
              (λ i. (p, rw (In_one x s i) (ap pattern_in e)));
        };
        into = λ t y k. k;
        rest = λ i x k. k;
        ends = λ x k. In_append_left x h.ends (s ∷ []) k;
      },
      λ pattern z. In_append_right s h.ends (s ∷ []) (In_head s []),
    )
    end_more h node e sound = (more_self h sound, λ pattern z. absurd (let k : None ≡ Some pattern = z in cc))

    node_more : (h : Turned) → IsSound nfa h → IsMore nfa h (with_reversed h s (state_at nfa s))
        × HasNode nfa (with_reversed h s (state_at nfa s)) s (state_at nfa s)
    node_more h sound =
        let node = state_at nfa s in
        let arcs = arcs_more h (arcs_of node) sound (λ a k. k) in
        let end = end_more (with_arcs h s (arcs_of node)) node refl arcs.0.sound in (
          more_then arcs.0 end.0,
          record { ends = end.1; arcs = λ a k. arc_stays s a end.0 (arcs.1 a k) },
        )

  -- the states of a list
  nodes_more : IsAccepted nfa → (h : Turned) (ss : List ℕ) → IsSound nfa h → ((s : ℕ) → In s ss → s < n)
      → IsMore nfa h (with_all_reversed nfa h ss)
      × ((s : ℕ) → In s ss → HasNode nfa (with_all_reversed nfa h ss) s (state_at nfa s))
  nodes_more accepted h [] sound f = (more_self h sound, λ s k. In_none s k)
  nodes_more accepted h (x ∷ ss) sound f =
      let first = node_more accepted x (f x (In_head x ss)) h sound in
      let all = nodes_more accepted (with_reversed h x (state_at nfa x)) ss first.0.sound
      (λ s k. f s (In_tail s x ss k)) in (
        more_then first.0 all.0,
        λ s k. In_cases s x ss k
            (λ e. rw e (record {
              ends = λ p z. all.0.ends x (first.1.ends p z);
              arcs = λ a i. arc_stays x a all.0 (first.1.arcs a i);
            }))
            (all.1 s),
      )

  none_sound : IsSound nfa (none_turned n)
  none_sound = record {
    count = length-replicate n [];
    into = λ t y k. In_none y (rw (empty t) at k);
    rest = λ x k. In_none x k;
    ends = λ s k. In_none s k;
  }
    where
      empty : (t : ℕ) → sources (none_turned n) t ≡ []
      empty t = grind (
        arith,
        get_or-replicate {A = List ℕ} n t [] [],
        get_or_past (replicate {A = List ℕ} n []) t [],
        length-replicate {A = List ℕ} n [],
      )

  -- the transition to the anchored start, and all states
  pub all_recorded : IsAccepted nfa → (h : Turned) (over : IsTurnedOver nfa h) → IsRecorded nfa over.met h
  all_recorded accepted h over =
      let within : (s : ℕ) → In s over.met → s < n = All_at (λ id. id < n) over.met over.below in
      let begin = begin_more (none_turned n) none_sound (within nfa.start_anchored over.closed.start) in
      let all = nodes_more accepted (added (none_turned n) nfa.start_anchored n) over.met begin.0.sound within in
      rw (← over.is) (record {
        closed = over.closed;
        ascends = λ s. by_cases (cases_lt s n)
            (λ l. (each_passes nfa accepted s (state_at nfa s) (slice_get-get_or nfa.states s Fail l)).ascends)
            (λ l. rw (state_past nfa s l) refl);
        sound = all.0.sound;
        begins = all.0.into nfa.start_anchored n (by_cases begin.1.2
            (λ z. rw z.1 at begin.1.1)
            (λ z. absurd (let e : None ≡ Some (alone (turned_to n (Free nfa.start_anchored))) = z.2 in cc)));
        nodes = all.1;
      })
