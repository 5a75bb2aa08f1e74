-- Where a choice of a run leads: over a byte to the next position, without input to the same one, and always to a state
-- that the state has a transition to.
-- Main statements: choice_cases, choice_arc, arc_choice, choice_later, choice_leads, and some of them under any
-- assertions (choices_under).
-- Used by: all that follows a run step by step.
-- Idea: the choices at a pair are the byte transitions, then the epsilon ones (`run_edges`).
use Rattle.determinize_nfa.proofs.Common.{Arc, Assertion, Bool, Free, In, In_append_cases, In_append_left}
use Rattle.determinize_nfa.proofs.Common.{In_append_right, In_cases, In_head, In_map, In_map_from, In_none, List, Nfa}
use Rattle.determinize_nfa.proofs.Common.{None, Option, Range, Some, Test, Text, [], after_at, ap, arcs_of, arith}
use Rattle.determinize_nfa.proofs.Common.{before_at, byte_edges, choices, edges, is_sparse_sound, leads_to, map}
use Rattle.determinize_nfa.proofs.Common.{next_of, placed, slice_get, state_at, suc, target_of, true, true_edges, truth}
use Rattle.determinize_nfa.proofs.Common.{ℕ, ◌≡◌, ◌≤◌}
use Rattle.std.specs.Option.{option_to_list}
use Rattle.ordered_reach.specs.Runs.{run_edges}
use Rattle.determinize_nfa.proofs.kinds.ArcsOfStates.{IsTaken, Takes, arc_leads, arc_reads, byte_taken, edge_in}
use Rattle.determinize_nfa.proofs.kinds.ArcsOfStates.{edge_taken}

In_option : {A : Type 0} (o : Option A) (x : A) → In x (option_to_list o) → o ≡ Some x
In_option None x h = In_none x h
In_option (Some y) x h = In_cases x y [] h (λ e. cc) (λ k. In_none x k)

-- the choices of a run, where h has the assertions that hold at each position
abbrev pub choices_under : Nfa → Text → (ℕ → Assertion → Bool) → ℕ × ℕ → List (ℕ × ℕ)
choices_under nfa text h = run_edges (λ i. edges nfa (h i)) (byte_edges nfa text)

-- the assertions that are true at a position
abbrev pub true_at : Nfa → Text → ℕ → Assertion → Bool
true_at nfa text i = truth nfa (before_at text i) (after_at text i)

-- a choice is over the next byte, or stays
pub under_cases : {P : Type 0} (nfa : Nfa) (text : Text) (h : ℕ → Assertion → Bool) (p q : ℕ × ℕ) (c : ℕ)
    → slice_get (choices_under nfa text h p) c ≡ Some q
    → (q.0 ≡ suc p.0 → target_of (slice_get text.bytes p.0) (state_at nfa p.1) ≡ Some q.1 → P)
    → (q.0 ≡ p.0 → In q.1 (edges nfa (h p.0) p.1) → P) → P
under_cases nfa text h p q c e f g =
    In_append_cases q (map (placed (suc p.0)) (byte_edges nfa text p.0 p.1))
    (map (placed p.0) (edges nfa (h p.0) p.1)) (c, e)
    (λ k. In_map_from (placed (suc p.0)) q (byte_edges nfa text p.0 p.1) k
    (λ t m z. let same : q.1 ≡ t = ap (λ x. x.1) z in
    f (ap (λ x. x.0) z) (In_option (target_of (slice_get text.bytes p.0) (state_at nfa p.1)) q.1 (rw same m))))
    (λ k. In_map_from (placed p.0) q (edges nfa (h p.0) p.1) k
    (λ t m z. let same : q.1 ≡ t = ap (λ x. x.1) z in g (ap (λ x. x.0) z) (rw same m)))

pub choice_cases : {P : Type 0} (nfa : Nfa) (text : Text) (p q : ℕ × ℕ) (c : ℕ)
    → slice_get (choices nfa text p) c ≡ Some q
    → (q.0 ≡ suc p.0 → target_of (slice_get text.bytes p.0) (state_at nfa p.1) ≡ Some q.1 → P)
    → (q.0 ≡ p.0 → In q.1 (true_edges nfa text p.0 p.1) → P) → P
choice_cases nfa text = under_cases nfa text (true_at nfa text)

-- a transition over the next byte is a choice
pub byte_choice : (nfa : Nfa) (text : Text) (i s t : ℕ)
    → target_of (slice_get text.bytes i) (state_at nfa s) ≡ Some t → In (suc i, t) (choices nfa text (i, s))
byte_choice nfa text i s t e =
    In_append_left (suc i, t) (map (placed (suc i)) (byte_edges nfa text i s))
    (map (placed i) (true_edges nfa text i s))
    (In_map (placed (suc i)) t (byte_edges nfa text i s) (rw e (In_head t [])))

-- and so is one without input
pub free_choice : (nfa : Nfa) (text : Text) (i s t : ℕ) → In t (true_edges nfa text i s)
    → In (i, t) (choices nfa text (i, s))
free_choice nfa text i s t h =
    In_append_right (i, t) (map (placed (suc i)) (byte_edges nfa text i s)) (map (placed i) (true_edges nfa text i s))
    (In_map (placed i) t (true_edges nfa text i s) h)

-- a choice does not lead back
pub under_later : (nfa : Nfa) (text : Text) (h : ℕ → Assertion → Bool) (p q : ℕ × ℕ) (c : ℕ)
    → slice_get (choices_under nfa text h p) c ≡ Some q → p.0 ≤ q.0
under_later nfa text h p q c e = under_cases nfa text h p q c e (λ z m. omega arith) (λ z m. omega arith)

pub choice_later : (nfa : Nfa) (text : Text) (p q : ℕ × ℕ) (c : ℕ) → slice_get (choices nfa text p) c ≡ Some q
    → p.0 ≤ q.0
choice_later nfa text = under_later nfa text (true_at nfa text)

-- a choice is a transition of the state
pub choice_arc : (nfa : Nfa) (text : Text) (h : ℕ → Assertion → Bool) (p q : ℕ × ℕ) (c : ℕ)
    → slice_get (choices_under nfa text h p) c ≡ Some q
    → IsTaken (slice_get text.bytes p.0) (h p.0) p.0 q.0 (state_at nfa p.1) q.1
choice_arc nfa text h p q c e = under_cases nfa text h p q c e
    (λ z m. rw z (byte_taken (slice_get text.bytes p.0) (h p.0) (state_at nfa p.1) p.0 q.1 m))
    (λ z m. rw z (edge_taken (slice_get text.bytes p.0) (h p.0) (state_at nfa p.1) p.0 q.1 m))

-- and each transition that can be taken is a choice
pub arc_choice : (nfa : Nfa) (text : Text) (i k s : ℕ) (a : Arc) → is_sparse_sound (state_at nfa s) ≡ true
    → In a (arcs_of (state_at nfa s)) → Takes (slice_get text.bytes i) (true_at nfa text i) i k a
    → In (k, next_of a) (choices nfa text (i, s))
arc_choice nfa text i k s (Range r) h d t = rw t.0
    (byte_choice nfa text i s r.next (rw t.2 (arc_reads (state_at nfa s) r t.1 h d t.3)))
arc_choice nfa text i k s (Test look next) h d t = rw t.0 (free_choice nfa text i s next
    (edge_in (true_at nfa text i) (state_at nfa s) (Test look next) next d (rw t.1 (In_head next []))))
arc_choice nfa text i k s (Free next) h d t = rw t (free_choice nfa text i s next
    (edge_in (true_at nfa text i) (state_at nfa s) (Free next) next d (In_head next [])))

-- a choice leads where the state leads
pub under_leads : (nfa : Nfa) (text : Text) (h : ℕ → Assertion → Bool) (p q : ℕ × ℕ) (c : ℕ)
    → slice_get (choices_under nfa text h p) c ≡ Some q → leads_to q.1 (state_at nfa p.1) ≡ true
under_leads nfa text h p q c e =
    let d = choice_arc nfa text h p q c e in rw d.2 at (arc_leads d.0 (state_at nfa p.1) d.1)

pub choice_leads : (nfa : Nfa) (text : Text) (p q : ℕ × ℕ) (c : ℕ) → slice_get (choices nfa text p) c ≡ Some q
    → leads_to q.1 (state_at nfa p.1) ≡ true
choice_leads nfa text = under_leads nfa text (true_at nfa text)
